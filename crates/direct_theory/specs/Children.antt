-- The children of a vertex by number, and the degree of a vertex.
use Rattle.std.specs.Prelude.{◌≡◌, Bool, false, cond, not, ◌&&◌, ℕ, zero, suc, ◌+◌, ◌≤◌, eqb, ltb}
use Rattle.verdict.specs.Table.{count}
use Rattle.tree_theory.specs.Chain.{kid}
use Rattle.tree_theory.specs.Allowed.{children}

-- among the vertices below v, child k of w, counted from 0: the one with k children of w before it
unfoldable pub child_to : (ℕ → ℕ) → ℕ → ℕ → ℕ → ℕ
child_to par w k zero = 0
child_to par w k (suc v) = cond (kid par w v && eqb (count v (kid par w)) k) v (child_to par w k v)

-- child k of w in a tree of K edges
abbrev pub child_of : ℕ → (ℕ → ℕ) → ℕ → ℕ → ℕ
child_of K par w k = child_to par w k K

-- another child of c's parent: its first, or its second where c is the first
abbrev pub sibling : ℕ → (ℕ → ℕ) → ℕ → ℕ
sibling K par c = cond (eqb c (child_of K par (par c) 0)) (child_of K par (par c) 1) (child_of K par (par c) 0)

-- the third edge at w: its own, or the third child's where it is the root
abbrev pub third_at : ℕ → (ℕ → ℕ) → ℕ → ℕ
third_at K par w = cond (eqb w K) (child_of K par w 2) w

-- the edge at c's parent that is neither c nor the sibling: the third, or the second where c is the third
abbrev pub farther : ℕ → (ℕ → ℕ) → ℕ → ℕ
farther K par c =
    cond (eqb c (child_of K par (par c) 0)) (third_at K par (par c))
    (cond (eqb c (child_of K par (par c) 1)) (third_at K par (par c)) (child_of K par (par c) 1))

-- how many edges meet at w: one to each child, and its own unless it is the root
abbrev pub degree : ℕ → (ℕ → ℕ) → ℕ → ℕ
degree K par w = children K par w + cond (eqb w K) 0 1

-- 25: an inner vertex not of degree three
abbrev pub degree_out : ℕ → ℕ → (ℕ → ℕ) → ℕ → Bool
degree_out N K par w = cond (ltb w N) false (not (eqb (degree K par w) 3))

-- every inner vertex has degree three
pub record Resolved (N K : ℕ) (par : ℕ → ℕ) : Type 0 where
  pub three : (w : ℕ) → N ≤ w → w ≤ K → degree K par w ≡ 3
