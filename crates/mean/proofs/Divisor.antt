-- The mean square's divisor on the trees that are allowed: where a pair is missing there is none; of a complete matrix of three strains
-- there is none, and of four or more it is D times a number of 1 or more.
use mathlib.Core.Path.{◌≡◌, refl, sym, ◌∙◌, ap, subst}
use mathlib.Core.Bool.{Bool, true, false, cond}
use mathlib.Core.List.{List}
use Prim.Native.Nat.{ℕ, zero, suc, ◌+◌, ◌-◌, ◌*◌, ◌/◌, ◌≤◌, ◌<◌}
use native.Mathlib.Decide.{dec_lt}
use native.Mathlib.Nat.{le-mul_of_pos_right}
use native.Mathlib.Omega.{arith}
use lib.IntN.{ℤ, pos}
use Rattle.exact.proofs.Decide.{by_cases}
use Rattle.matrix.specs.Place.{pair_count, some_missing, Complete}
use Rattle.tree_theory.specs.Allowed.{Allowed}
use Rattle.mean.specs.Mean.{Mean}
use Rattle.std.specs.Prelude.{Some, None}
use Rattle.mean.specs.Mean.{times, mean_of}

-- where something is left
pub times-some : (D k : ℕ) → 1 ≤ k → times D k ≡ Some (pos (D * k))
times-some D zero l = absurd (omega (arith, l))
times-some D (suc k) l = refl

apart : (z : ℤ) → Some z ≡ None → ⊥
apart z e = subst over e tt
  where
    over : Mean → Type 0
    over None = ⊥
    over (Some z) = Unit

pub missing-none : (N : ℕ) (ds : List ℕ) (K D : ℕ) → some_missing ds ≡ true → mean_of N ds K D ≡ None
missing-none N ds K D e = rw e

pub complete-times : (N : ℕ) (ds : List ℕ) (K D : ℕ) → Complete ds → mean_of N ds K D ≡ times D (pair_count N - K)
complete-times N ds K D e = rw e

module _ (N K : ℕ) (par : ℕ → ℕ) (a : Allowed N K par) (ds : List ℕ) (D : ℕ) where
  pub three-none : N ≡ 3 → mean_of N ds K D ≡ None
  three-none e = go (some_missing ds)
    where
      go : (b : Bool) → cond b None (times D (pair_count N - K)) ≡ None
      go true = refl
      go false = let nothing : pair_count N - K ≡ 0 = subst (λ (n : ℕ). pair_count n - K ≡ 0) (sym e) (omega (arith, a.edges)) in ap (times D) nothing

  -- four strains or more have more pairs than a tree has edges
  some_left : 4 ≤ N → 1 ≤ pair_count N - K
  some_left h = go (N - 4) (omega arith) (omega (arith, a.most))
    where
      go : (m : ℕ) → N ≡ 4 + m → K ≤ 5 + 2 * m → 1 ≤ pair_count N - K
      go m e l = subst (λ (n : ℕ). 1 ≤ pair_count n - K) (sym e) (omega arith)

  -- of a complete matrix
  module _ (all : Complete ds) where
    pub four-over : 4 ≤ N → (mean_of N ds K D ≡ Some (pos (D * (pair_count N - K)))) × (D ≤ D * (pair_count N - K))
    four-over h = (complete-times N ds K D all ∙ times-some D (pair_count N - K) (some_left h), le-mul_of_pos_right {m = pair_count N - K} D (some_left h))

    -- so there is none exactly for three
    pub none-three : mean_of N ds K D ≡ None → N ≡ 3
    none-three e = by_cases (dec_lt 3 N) (λ l. absurd (apart _ (sym (four-over l).0 ∙ e))) (λ n. omega (arith, a.three))
