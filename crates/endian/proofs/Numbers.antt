-- A number of several bytes is its low bytes, and its high bytes behind them.
use mathlib.Core.Path.{◌≡◌, refl, ap}
use mathlib.Core.List.{List}
use Prim.Native.Nat.{ℕ, zero, suc, ◌+◌, ◌*◌, ◌^◌, ◌<◌}
use native.Mathlib.Omega.{arith}
use native.Mathlib.Nat.{zero-add, add-zero, suc-add, pow-zero, pow-suc, mul_assoc}
use lib.IntN.{pos, negsuc, ◌-ℤ◌}
use lib.ListN.{get_or}
use mir.Syntax.{w64}
use mir.Val.{SFits, to_z, of_z}
use mir.Facts.{to_z-of_z}
use Rattle.endian.specs.Bytes.{number}

pub number-join : (a b : ℕ) (s : List ℕ) (at : ℕ) → number (a + b) s at ≡ number a s at + number b s (at + a) * 256 ^ a
unfolding number
number-join zero b s at = simp (zero-add, add-zero, pow-zero) (omega arith)
number-join (suc a) b s at =
    let e : suc at + a ≡ at + suc a = omega arith in
    rw (suc-add, number, number-join a b s (suc at), e, pow-suc) (omega (arith, mul_assoc (number b s (at + suc a)) (256 ^ a) 256))

pub number-one : (s : List ℕ) (at : ℕ) → number 1 s at ≡ get_or s at 0
unfolding number
number-one s at = omega arith

-- two bytes
pub number-two : (s : List ℕ) (at : ℕ) → number 2 s at ≡ get_or s at 0 + get_or s (at + 1) 0 * 256
number-two s at = omega (arith, number-join 1 1 s at, number-one s at, number-one s (at + 1))

-- ---- negative numbers: -(k + 1)
pub minus_one : (k : ℕ) → negsuc 0 -ℤ pos k ≡ negsuc k
minus_one zero = refl
minus_one (suc k) = ap negsuc (omega arith)

pub fits_neg : (k : ℕ) → k < 2 ^ 63 → SFits w64 (negsuc k)
fits_neg k h = record { sfits = h }

pub back_neg : (k : ℕ) → k < 2 ^ 63 → to_z w64 (of_z w64 (negsuc k)) ≡ negsuc k
back_neg k h = to_z-of_z (fits_neg k h)
