-- The steps of Bryant and Waddell (1998; RULES, Split sums by cases): an outer edge's split sum from its strain's row,
-- an inner edge's from its children's.
use Rattle.std.specs.Prelude.{◌≡◌, not, List, ℕ, ◌≤◌, ◌<◌, eqb, ℤ, pos, ◌-ℤ◌, ◌*ℤ◌, length}
use Rattle.exact.specs.Sum.{sum, pairs, ind}
use Rattle.matrix.specs.Place.{distance, distance_of}
use Rattle.tree_theory.specs.Chain.{parent_of, below, kid}
use Rattle.fit_theory.specs.Quantities.{split_sum}

-- the distances of strain i to all others
unfoldable pub row_sum : ℕ → List ℕ → ℕ → ℤ
row_sum N ds i = sum N (λ j. ind (not (eqb j i)) *ℤ distance_of ds j i)

-- 1 where the two strains of a pair are below different children of w
unfoldable pub across : ℕ → (ℕ → ℕ) → ℕ → ℕ × ℕ → ℤ
across K par w p = sum K (λ u. sum K (λ v. ind (not (eqb u v)) *ℤ
    (ind (kid par w u) *ℤ ind (below par p.0 u) *ℤ (ind (kid par w v) *ℤ ind (below par p.1 v)))))

pub record SplitSteps (N : ℕ) (ds ps : List ℕ) : Type 0 where
  -- equation 9: of an outer edge the row sum of its strain
  pub outer : (i : ℕ) → i < N → split_sum N ds ps i ≡ row_sum N ds i
  -- equation 14: of an inner edge its children's split sums, less twice the distances between different children's clusters;
  -- equation 10 is the case of two children
  pub inner : (w : ℕ) → N ≤ w → w < length ps → split_sum N ds ps w
      ≡ sum (length ps) (λ u. ind (kid (parent_of ps) w u) *ℤ split_sum N ds ps u) -ℤ pos 2 *ℤ pairs N (λ p. across (length ps) (parent_of ps) w p *ℤ distance ds p)
