-- What is asked of tables before the digits of one edge are gone through.
use Rattle.std.specs.Prelude.{◌≡◌, Bool, List, ℕ, ◌*◌, ◌≤◌, ◌<◌, ℤ, pos, nat_abs, ◌+ℤ◌, ◌*ℤ◌, length, get_or}
use Rattle.verdict.specs.Table.{some}
use Rattle.long_digits.specs.Digits.{base}
use Rattle.long_theory.specs.Long.{digit_of}

-- L digits for each of K edges, v one of them
pub record LongRow (K L : ℕ) (ns : List ℤ) (v : ℕ) : Type 0 where
  pub table : L * K ≤ length ns
  pub edge : v < K

-- these, and L digits of D; the digits of D and of edge v are digits
pub record LongEdge (K L : ℕ) (Ds : List ℕ) (ns : List ℤ) (v : ℕ) : Type 0 where
  pub row : LongRow K L ns v
  pub levels : L ≤ length Ds
  pub digits : (k : ℕ) → get_or Ds k 0 < base
  pub tops : (k : ℕ) → k < L → nat_abs (digit_of K ns k v) < base

-- whether one of L digits is what a test finds, by any rule that tells the test's answers
abbrev pub FoundBy : (ℤ → Bool → Type 0) → ℕ → (ℕ → ℤ) → Bool → Type 0
FoundBy answers L digits r = (rule : ℤ → Bool) → ((x : ℤ) (b : Bool) → answers x b → b ≡ rule x) → r ≡ some L (λ k. rule (digits k))

-- 2000·n + b·D
abbrev pub measure : ℤ → ℤ → ℤ → ℤ
measure b D n = pos 2000 *ℤ n +ℤ b *ℤ D
