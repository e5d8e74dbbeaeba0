-- Both sheets are long enough for their rows; the same N first, then the rows.
use mathlib.Core.Path.{sym, ◌∙◌, ap}
use native.Mathlib.Omega.{arith}
use Rattle.matrix.specs.Place.{pair_count}
use Rattle.comparison.proofs.Inside.{rows-there}
use Rattle.comparison.proofs.Matrices.{other-strains, by_rows}
use Rattle.comparison.proofs.same_matrix.Goals as goal

pub u16_at-n-requires : goal.u16_at-n-requires
u16_at-n-requires c = omega (arith, rows-there c.args.s.now c.requires.0)

pub u16_at-requires : goal.u16_at-requires
u16_at-requires c = omega (arith, rows-there c.args.t.now c.requires.1)

pub returns-then-u16_at-n : goal.returns-then-u16_at-n
returns-then-u16_at-n c = other-strains _ _ (λ e. c.if-u16_at-n.true (c.u16_at.ensures ∙ e ∙ sym c.u16_at-n.ensures))

pub same_rows-requires : goal.same_rows-requires
same_rows-requires c = let of-s = c.u16_at-n.ensures in
    let of-t = c.u16_at.ensures in (
      omega (arith, rows-there c.args.s.now c.requires.0, c.pair_count.ensures, ap pair_count of-s),
      omega (arith, rows-there c.args.t.now c.requires.1, c.pair_count.ensures, ap pair_count (sym c.if-u16_at-n.false ∙ of-t)),
    )

pub returns : goal.returns
returns c = let of-s = c.u16_at-n.ensures in
    let of-t = c.u16_at.ensures in
    by_rows _ _ (sym of-t ∙ c.if-u16_at-n.false ∙ of-s) _ (c.pair_count.ensures ∙ ap pair_count of-s) _ c.same_rows.ensures
