-- The product is far below 2^63.
use mathlib.Core.Path.{◌≡◌, sym, ◌∙◌, ap, ap₂}
use Prim.Native.Nat.{◌*◌, ◌≤◌}
use native.Mathlib.Nat.{mul-le-mul}
use native.Mathlib.Omega.{arith}
use lib.IntN.{pos, nat_abs, ◌*ℤ◌}
use mir.Syntax.{w64}
use mir.Val.{to_z}
use Rattle.exact.proofs.Sign.{fits_abs, back, back-pos}
use Rattle.matrix.specs.Limits.{max_pairs}
use Rattle.std.specs.Prelude.{Some}
use Rattle.mean.proofs.Divisor.{times-some}
use Rattle.mean.proofs.times.Goals as goal
use Rattle.mean.proofs.times.Goals.{Start}

module _ (c : Start) where
  product : to_z w64 c.args.d *ℤ to_z w64 c.args.left ≡ pos (c.args.d * c.args.left)
  product = ap₂ ◌*ℤ◌ (back-pos c.args.d (omega arith)) (back-pos c.args.left (omega arith))

  few : nat_abs (to_z w64 c.args.d *ℤ to_z w64 c.args.left) ≤ 4294967296 * max_pairs
  few = omega (arith, ap nat_abs product, mul-le-mul {n₁ = c.args.d} {m₁ = c.args.left} {n₂ = 4294967296} {m₂ = max_pairs} (omega arith) c.requires)

pub overflow_mul-result : goal.overflow_mul-result
overflow_mul-result c = fits_abs _ (omega (arith, few c.before))

pub returns : goal.returns
returns c = ap Some (back _ (omega (arith, few c.before)) ∙ product c.before) ∙ sym (times-some c.args.d c.args.left (omega arith))
