-- A vertex's cluster is the disjoint union of its children's. Laws:
-- `below-child`: what is below w and is not w is below a child of w;
-- `union`: a strain is below an inner vertex exactly when it is below some child of it; `union-one`: below one child only;
-- `strains-nested`: of two clusters that share a strain, one holds the other.
use mathlib.Core.Path.{◌≡◌, refl}
use mathlib.Core.Logic.{◌≢◌, ◌⊎◌, inl, inr}
use Prim.Native.Nat.{ℕ, ◌≤◌, ◌<◌}
use native.Mathlib.Decide.{ℕ_discrete}
use native.Mathlib.Omega.{arith}
use Rattle.exact.proofs.Decide.{by_cases}
use Rattle.tree_theory.proofs.Chains.{Below, Up, chain, below_up, below_trans, laminar}
use Rattle.tree_theory.proofs.Strains.{siblings}

-- i is below some child of w
abbrev pub Inside : (ℕ → ℕ) → ℕ → ℕ → ℕ → Type 0
Inside par K i w = (u : ℕ) × (u < K) × (par u ≡ w) × Below par i u

-- the child that i's chain goes through
pub below-child : (par : ℕ → ℕ) (K i w : ℕ) → w ≤ K → i ≢ w → Below par i w → Inside par K i w
below-child par K i w k n b = go (chain par K i (λ a. (i ≡ a) ⊎ Inside par K i a) (inl refl) (λ a h e p. inr (a, h, refl, e)) w k b)
  where
    go : (i ≡ w) ⊎ Inside par K i w → Inside par K i w
    go (inl e) = absurd (n e)
    go (inr p) = p

module _ (par : ℕ → ℕ) (K : ℕ) (up : Up par K) where
  -- a cluster has what its children's have, and no more
  pub union : (N w i : ℕ) → N ≤ w → w ≤ K → i < N → (Below par i w → Inside par K i w) × (Inside par K i w → Below par i w)
  union N w i h k l = (below-child par K i w k (omega arith), λ p. below_up par K up i p.0 w p.1 k p.2 p.3)

  -- the children's clusters are disjoint
  pub union-one : (u u' i : ℕ) → u < K → u' < K → par u ≡ par u' → Below par i u → Below par i u' → u ≡ u'
  union-one u u' i h h' e a b = by_cases (ℕ_discrete u u') (λ q. q) (λ q. absurd (siblings par K up u u' i h h' q e a b))

  -- `laminar` for what is below the two
  pub strains-nested : (i v w : ℕ) → v ≤ K → w ≤ K → Below par i v → Below par i w
      → ((j : ℕ) → Below par j v → Below par j w) ⊎ ((j : ℕ) → Below par j w → Below par j v)
  strains-nested i v w h k a b = go (laminar par K up i v w h k a b)
    where
      go : Below par v w ⊎ Below par w v → ((j : ℕ) → Below par j v → Below par j w) ⊎ ((j : ℕ) → Below par j w → Below par j v)
      go (inl s) = inl (λ j p. below_trans par K up j v w k p s)
      go (inr s) = inr (λ j p. below_trans par K up j w v h p s)
