-- The lifted number's quotient and rest.
use mathlib.Core.Path.{sym, ◌∙◌, ap, subst}
use Prim.Native.Nat.{◌/◌, ◌%◌}
use native.Mathlib.Omega.{arith}
use lib.IntN.{ℤ, pos, ◌+ℤ◌}
use mir.Facts.{to_z-of_z}
use Rattle.long_carrying.specs.Carried.{Parted}
use Rattle.long_carrying.proofs.Carrying.{is-parted, over-fits, over-is}
use Rattle.long_carrying.proofs.parted.Goals as goal

pub overflow_sub-result : goal.overflow_sub-result
overflow_sub-result c = over-fits (c.lifted-up.result / 1000000) (omega arith)

pub returns : goal.returns
returns c = subst (λ (z : ℤ). Parted c.args.z z (c.lifted-up.result % 1000000)) (sym (over-is (c.lifted-up.result / 1000000) (omega arith)))
    (is-parted c.args.z c.lifted-up.result c.requires (c.lifted-up.ensures ∙ ap (λ (z : ℤ). z +ℤ pos 9200000000000000000) (to_z-of_z c.ranges.z)))
