-- Carries: a level keeps a digit and hands the rest on.
use Rattle.std.specs.Prelude.{◌≡◌, List, ℕ, ◌+◌, ◌≤◌, ◌<◌, ℤ, pos, nat_abs, ◌+ℤ◌, ◌*ℤ◌, length, get_or}
use Rattle.long_digits.specs.Digits.{base, value, natural}
use Rattle.long_theory.specs.Long.{max_levels}

-- the digits of a number whose levels were carried: three more than it had levels
abbrev pub wide_size : ℕ
wide_size = max_levels + 3

-- one level
pub record Parted (z over : ℤ) (kept : ℕ) : Type 0 where
  pub parts : z ≡ pos base *ℤ over +ℤ pos kept
  pub small : kept < base
  pub near : nat_abs over ≤ 30000000000000

-- the number that L levels f write, in digits
pub record Carried (L : ℕ) (f : ℕ → ℤ) (digits : List ℕ) : Type 0 where
  pub size : length digits ≡ wide_size
  pub small : (k : ℕ) → get_or digits k 0 < base
  pub same : pos (natural (L + 3) (λ k. get_or digits k 0)) ≡ value L f
