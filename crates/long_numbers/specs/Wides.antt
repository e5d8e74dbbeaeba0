-- Numbers in digits: three more than there were levels.
use Rattle.std.specs.Prelude.{◌≡◌, Bool, List, ℕ, ◌+◌, ◌<◌, ℤ, pos, nat_abs, length, get_or}
use Rattle.std.specs.Int.Signed.{lt_z}
use Rattle.long_digits.specs.Digits.{base, natural}
use Rattle.long_carrying.specs.Carried.{wide_size}

pub record Natural (L n : ℕ) (digits : List ℕ) : Type 0 where
  pub size : length digits ≡ wide_size
  pub small : (k : ℕ) → get_or digits k 0 < base
  pub same : natural (L + 3) (λ k. get_or digits k 0) ≡ n

-- with its sign
pub record Wides (L : ℕ) (z : ℤ) (negative : Bool) (digits : List ℕ) : Type 0 where
  pub sign : negative ≡ lt_z z (pos 0)
  pub magnitude : Natural L (nat_abs z) digits
