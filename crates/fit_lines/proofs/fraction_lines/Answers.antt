-- After v turns the lines of the first v edges stand there; each took at most `widest` bytes, so there is room for the next.
use borrow.Author.Rules.{rules}
use mathlib.Core.Path.{◌≡◌, refl}
use native.Mathlib.Omega.{arith}
use mir.Facts.{to_z-of_z}
use mir.Syntax.{w64}
use Rattle.exact.specs.Table.{entry_of}
use Rattle.exact.proofs.Sign.{fits_abs, back-pos}
use Rattle.lines.proofs.Pieces.{edges_none}
use Rattle.lines.proofs.Sizes.{edges-end, edges_more}
use Rattle.fit_lines.proofs.fraction_lines.Invariants.{row}
use Rattle.fit_lines.proofs.fraction_lines.Goals as goal

pub loop-v-init : goal.loop-v-init
loop-v-init c = (search rules, refl, edges_none _ _ _)

pub overflow_cast-values : goal.overflow_cast-values
overflow_cast-values c = fits_abs _ (omega arith)

pub line-next-requires : goal.line-next-requires
line-next-requires c = let l = c.loop-v in
    let a = c.args in
    omega (arith, edges-end a.text.now l.text a.at l.next l.v (row a.tops.now a.bottoms.now a.rounded.now) (λ u. omega arith) l.invariant.2)

pub loop-v-preserved : goal.loop-v-preserved
loop-v-preserved c = let l = c.loop-v in
    let a = c.args in
    let e = back-pos l.v (omega arith) in
    let n = to_z-of_z {w = w64} {z = entry_of a.tops.now l.v} (record { sfits = c.values-1.given }) in
    let d = to_z-of_z {w = w64} {z = c.from.result} (search rules) in
    let m = to_z-of_z {w = w64} {z = entry_of a.rounded.now l.v} (record { sfits = c.values-in-loop-v-1.given }) in (
      omega arith,
      search rules,
      edges_more a.text.now a.at (row a.tops.now a.bottoms.now a.rounded.now) (λ u. omega arith) a.k l.v (omega arith) (omega arith) l.invariant.2 (simp (e, n, c.from.ensures, m) at (simp d at c.line-next.ensures)),
    )

pub returns : goal.returns
returns c = let v = c.loop-v.v in
    let e : c.args.k ≡ v = omega arith in
    rw e c.loop-v.invariant.2
