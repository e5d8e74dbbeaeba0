-- Up or down by how far the number is from 0.
use mathlib.Core.Path.{◌∙◌, ap}
use Prim.Native.Nat.{ℕ, ◌+◌, ◌-◌}
use native.Mathlib.Omega.{arith}
use lib.IntN.{nat_abs, pos}
use mir.Facts.{to_z-of_z}
use Rattle.long_carrying.proofs.Carrying.{lift-up, lift-down}
use Rattle.long_carrying.proofs.lifted.Goals as goal

pub overflow_add-result : goal.overflow_add-result
overflow_add-result c = omega (arith, c.magnitude.ensures, ap nat_abs (to_z-of_z c.ranges.z), c.requires)

pub returns-then-z-ge0 : goal.returns-then-z-ge0
returns-then-z-ge0 c = let e = to_z-of_z c.ranges.z in
    ap (λ (n : ℕ). pos (9200000000000000000 + n)) (c.magnitude.ensures ∙ ap nat_abs e) ∙ lift-up c.args.z (simp e at c.if-z-ge0.true)

pub overflow_sub-result : goal.overflow_sub-result
overflow_sub-result c = omega (arith, c.magnitude-2.ensures, ap nat_abs (to_z-of_z c.ranges.z), c.requires)

pub returns : goal.returns
returns c = let e = to_z-of_z c.ranges.z in
    ap (λ (n : ℕ). pos (9200000000000000000 - n)) (c.magnitude-2.ensures ∙ ap nat_abs e) ∙ lift-down c.args.z c.requires (simp e at c.if-z-ge0.false)
