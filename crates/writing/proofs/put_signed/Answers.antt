-- From zero on a number's text is its magnitude's; below zero a minus stands in front of that.
use mathlib.Core.Path.{◌≡◌}
use mathlib.Core.Bool.{true, false}
use mathlib.Core.List.{[], List, ◌∷◌}
use Prim.Native.Nat.{ℕ, ◌+◌, ◌≤◌}
use native.Mathlib.Omega.{arith}
use lib.IntN.{ℤ, pos, nat_abs}
use lib.ListN.{length}
use lib.Signed.{le_z}
use mir.Facts.{to_z-of_z}
use Rattle.writing.specs.Text.{decimal, signed, Wrote}
use Rattle.writing.proofs.Decimals.{signed-pos, signed_neg}
use Rattle.writing.proofs.Writing.{wrote_then}
use Rattle.writing.proofs.put_signed.Goals as goal

-- the two arms over plain numbers: n is the magnitude of z
module _ (b : List ℕ) (at : ℕ) (z : ℤ) (n : ℕ) (e : n ≡ nat_abs z) where
  plain : (c : List ℕ) (m : ℕ) → le_z (pos 0) z ≡ true → Wrote b c at (decimal n) m → Wrote b c at (signed z) m
  plain c m g p = rw (signed-pos z g, ← e) p

  minus : (c d : List ℕ) (m k : ℕ) → at + 1 ≤ length b → le_z (pos 0) z ≡ false → Wrote b c at (45 ∷ []) m → Wrote c d m (decimal n) k
      → Wrote b d at (signed z) k
  minus c d m k room g p q = rw (signed_neg z g, ← e) (wrote_then room p q)

pub returns-then-z-ge0 : goal.returns-then-z-ge0
returns-then-z-ge0 c = let a = c.args in
    let n = c.magnitude in
    let p = c.put_number in
    let back = to_z-of_z c.ranges.z in
    plain a.text.now a.at a.z n.result (simp back at n.ensures)
    p.new.text p.result (simp back at c.if-z-ge0.true) p.ensures

pub returns : goal.returns
returns c = let a = c.args in
    let n = c.magnitude-2 in
    let p = c.put-next in
    let q = c.put_number-2 in
    let back = to_z-of_z c.ranges.z in
    minus a.text.now a.at a.z n.result (simp back at n.ensures) p.new.text q.new.text p.result q.result
    (omega arith) (simp back at c.if-z-ge0.false) p.ensures q.ensures
