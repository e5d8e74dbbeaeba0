-- Two tables of the edges mixed into one.
use Rattle.std.specs.Prelude.{◌≡◌, ℕ, ◌^◌, ◌<◌, ◌≤◌, List, length, ℤ, ◌+ℤ◌, ◌*ℤ◌, unsigned_abs}
use Rattle.exact.specs.Table.{entry_of}
use Rattle.tree_theory.specs.Limits.{max_edges}

-- nothing that is worked leaves an i64
pub record Mixable (K : ℕ) (a b : ℤ) (xs ys : List ℤ) : Type 0 where
  pub first : (v : ℕ) → v < K → unsigned_abs (a *ℤ entry_of xs v) < 2 ^ 63
  pub second : (v : ℕ) → v < K → unsigned_abs (b *ℤ entry_of ys v) < 2 ^ 63
  pub whole : (v : ℕ) → v < K → unsigned_abs (a *ℤ entry_of xs v +ℤ b *ℤ entry_of ys v) < 2 ^ 63

-- the first table times a with the second times b added, for each of K edges; what is behind them stays
pub record Mixed (K : ℕ) (a b : ℤ) (xs ys r : List ℤ) : Type 0 where
  pub size : length r ≡ max_edges
  pub entries : (v : ℕ) → v < K → entry_of r v ≡ a *ℤ entry_of xs v +ℤ b *ℤ entry_of ys v
  pub rest : (v : ℕ) → K ≤ v → entry_of r v ≡ entry_of xs v
