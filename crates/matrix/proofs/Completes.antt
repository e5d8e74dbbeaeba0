-- In a complete matrix every pair is measured; and what a proper matrix says of its distances, wherever one reads.
use mathlib.Core.Path.{◌≡◌, refl, ap}
use mathlib.Core.Bool.{true, not}
use mathlib.Core.List.{List}
use mathlib.Core.Logic.{◌⊎◌, inl, inr}
use Prim.Native.Nat.{ℕ, ◌<◌, ◌≤◌}
use native.Mathlib.Omega.{arith}
use borrow.Author.Tests.{not-false}
use lib.ListN.{length, get_or, get_or-eq_default}
use Rattle.exact.proofs.Sign.{lt_or_ge}
use Rattle.verdict.proofs.Table.{some-none}
use Rattle.matrix.specs.Limits.{max_distance}
use Rattle.matrix.specs.Place.{is_measured, known, Complete}
use Rattle.matrix.specs.Proper.{Proper}
use Rattle.matrix.proofs.Looking.{known_of}

-- past the end 0 is read, which is a distance
past_end : (ds : List ℕ) (k : ℕ) → length ds ≤ k → get_or ds k 0 ≡ 0
past_end ds k l = get_or-eq_default ds 0 l

pub all-measured : (ds : List ℕ) → Complete ds → (k : ℕ) → is_measured (get_or ds k 0) ≡ true
all-measured ds e k = go (lt_or_ge k (length ds))
  where
    go : (k < length ds) ⊎ (length ds ≤ k) → is_measured (get_or ds k 0) ≡ true
    go (inl l) = not-false (is_measured (get_or ds k 0)) (some-none (length ds) (λ i. not (is_measured (get_or ds i 0))) e k l)
    go (inr l) = ap is_measured (past_end ds k l)

-- so each entry is its distance
pub all_known : (ds : List ℕ) → Complete ds → (k : ℕ) → known (get_or ds k 0) ≡ get_or ds k 0
all_known ds e k = known_of (get_or ds k 0) (all-measured ds e k)

-- no distance is above 50,000
pub known-near : {N : ℕ} {ds : List ℕ} → Proper N ds → (k : ℕ) → known (get_or ds k 0) ≤ max_distance
known-near {N} {ds} m k = go (lt_or_ge k (length ds))
  where
    go : (k < length ds) ⊎ (length ds ≤ k) → known (get_or ds k 0) ≤ max_distance
    go (inl l) = m.near k l
    go (inr l) = omega (arith, ap known (past_end ds k l), known_of 0 refl)
