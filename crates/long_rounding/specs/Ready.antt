-- What the rounding of a long length needs.
use Rattle.std.specs.Prelude.{List, ℕ, ◌*◌, ◌≤◌, ℤ, pos, nat_abs, ◌-ℤ◌, ◌*ℤ◌}
use Rattle.exact.specs.Order.{◌≤ᶻ◌, ◌<ᶻ◌}
use Rattle.long_theory.specs.Long.{long_denominator, long_numerator, max_length}
use Rattle.long_lengths.specs.Edge.{measure}

-- a length within its range
pub record LongNear (K L : ℕ) (Ds : List ℕ) (ns : List ℤ) (v : ℕ) : Type 0 where
  pub one : 1 ≤ long_denominator L Ds
  pub near : nat_abs (long_numerator L K ns v) ≤ max_length * long_denominator L Ds

-- 2000·n - (2·(u - 10^11) - 1)·D: not negative where u - 10^11 is at most half above 1000·n/D
abbrev pub reach_of : ℤ → ℤ → ℕ → ℤ
reach_of D n u = measure (pos 200000000001 -ℤ pos 2 *ℤ pos u) D n

pub record Greatest (D n : ℤ) (u : ℕ) : Type 0 where
  pub most : u ≤ 200000000000
  pub low : pos 0 ≤ᶻ reach_of D n u
  pub high : reach_of D n u <ᶻ pos 2 *ℤ D
