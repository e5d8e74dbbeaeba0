-- After k turns the first k numbers stand there; each took at most 22 bytes with its space, so there is room for the next.
use borrow.Author.Rules.{rules}
use mathlib.Core.Path.{◌≡◌, refl}
use mathlib.Core.List.{List, [], ◌∷◌}
use Prim.Native.Nat.{ℕ, ◌+◌, ◌*◌, ◌<◌, ◌≤◌}
use native.Mathlib.Numerals.{add-one}
use native.Mathlib.Omega.{arith}
use lib.IntN.{ℤ}
use lib.ListN.{length, take}
use lib.Seq.{length-take-le, take-length}
use mir.Facts.{to_z-of_z}
use mir.Syntax.{w64}
use Rattle.exact.specs.Table.{entry_of}
use Rattle.writing.specs.Text.{signed, Wrote}
use Rattle.writing.proofs.Writing.{wrote_none, wrote_then}
use Rattle.lines.specs.Lines.{fields, fields_by}
use Rattle.lines.proofs.Pieces.{fields-more}
use Rattle.lines.proofs.Sizes.{fields-length}
use Rattle.lines.proofs.fields.Goals as goal

-- no number, and one more, over plain numbers and lists
none : (b : List ℕ) (at : ℕ) (zs : List ℤ) → Wrote b b at (fields (take 0 zs)) at
unfolding fields_by
none b at zs = wrote_none b at

-- where the numbers so far end, at the latest
ends : (b c : List ℕ) (at i k : ℕ) (zs : List ℤ) → k ≤ length zs → Wrote b c at (fields (take k zs)) i → i ≤ at + 22 * k
ends b c at i k zs h w = omega (arith, w.place, fields-length (take k zs), length-take-le k zs h)

turn : (b : List ℕ) (at : ℕ) (zs : List ℤ) (k : ℕ) → k < length zs → at + 22 * length zs ≤ length b → {c d e : List ℕ} {i j l : ℕ}
    → length c ≡ length b → Wrote b c at (fields (take k zs)) i → Wrote c d i (32 ∷ []) j → Wrote d e j (signed (entry_of zs k)) l → Wrote b e at (fields (take (k + 1) zs)) l
turn b at zs k h room {c} {d} {e} {i} {j} {l} s p q r =
    rw (add-one k, fields-more zs k) (wrote_then (omega (arith, fields-length (take k zs), length-take-le k zs (omega arith))) p (wrote_then (omega (arith, ends b c at i k zs (omega arith) p)) q r))

pub loop-value-init : goal.loop-value-init
loop-value-init c = (search rules, refl, none c.args.text.now c.args.at c.args.values.now)

pub put-number-requires : goal.put-number-requires
put-number-requires c = let l = c.loop-value in
    let a = c.args in
    omega (arith, ends a.text.now l.text a.at l.next l.value-index a.values.now l.invariant.0 l.invariant.2)

pub put_signed-next-requires : goal.put_signed-next-requires
put_signed-next-requires c = let l = c.loop-value in
    let a = c.args in
    omega (arith, ends a.text.now l.text a.at l.next l.value-index a.values.now l.invariant.0 l.invariant.2, c.put-number.ensures.place)

pub loop-value-preserved : goal.loop-value-preserved
loop-value-preserved c = let l = c.loop-value in
    let a = c.args in
    let z = to_z-of_z {w = w64} {z = entry_of a.values.now l.value-index} (record { sfits = c.put_signed-arg-in-loop-value-1.given }) in (
      omega arith,
      search rules,
      turn a.text.now a.at a.values.now l.value-index (omega arith) (omega arith) l.invariant.1 l.invariant.2 c.put-number.ensures (simp z at c.put_signed-next.ensures),
    )

pub returns : goal.returns
returns c = let a = c.args in
    let l = c.loop-value in
    let e : l.value-index ≡ length a.values.now = omega arith in
    rw (← take-length a.values.now, ← e) l.invariant.2
