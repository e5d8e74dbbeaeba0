-- What the machine works out is the number that it stands for, where that number fits.
use mathlib.Core.Path.{◌≡◌, sym, ap, ◌∙◌, subst}
use Prim.Native.Nat.{◌<◌, ◌^◌}
use lib.IntN.{ℤ, nat_abs}
use mir.Syntax.{w64}
use mir.Val.{to_z, of_z, SFits}
use Rattle.exact.proofs.Sign.{fits_abs, back}

pub as_is : {y z : ℤ} → y ≡ z → nat_abs z < 2 ^ 63 → nat_abs y < 2 ^ 63
as_is e h = subst (λ u. nat_abs u < 2 ^ 63) (sym e) h

pub fits_as : {y z : ℤ} → y ≡ z → nat_abs z < 2 ^ 63 → SFits w64 y
fits_as {y} {z} e h = fits_abs y (as_is e h)

pub back_as : {y z : ℤ} → y ≡ z → nat_abs z < 2 ^ 63 → to_z w64 (of_z w64 y) ≡ z
back_as {y} {z} e h = ap (λ u. to_z w64 (of_z w64 u)) e ∙ back z h
