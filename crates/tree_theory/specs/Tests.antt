-- The tests of a tree, in their order (RULES, Numbers of refusal). V is one more than the entries of the parent table.
use Rattle.std.specs.Prelude.{Bool, false, cond, ◌||◌, List, ℕ, ◌+◌, ◌-◌, ◌*◌, eqb, ltb, leb, length}
use Rattle.verdict.specs.Answer.{Answer, fault, test, at_first, ◌or_else◌}
use Rattle.verdict.specs.declared.Place.TheVariants.{Vertex}
use Rattle.matrix.specs.Tests.{strains_out}
use Rattle.tree_theory.specs.Chain.{parent_of}
use Rattle.tree_theory.specs.Allowed.{children}

-- 8: V not N + 1 to 2N - 2
abbrev pub vertices_out : ℕ → ℕ → Bool
vertices_out N V' = ltb V' (N + 1) || ltb (2 * N - 2) V'

-- 9 and 16: a parent not greater than its child, below N or above V - 1
abbrev pub parent_out : ℕ → ℕ → (ℕ → ℕ) → ℕ → Bool
parent_out N K par v = leb (par v) v || (ltb (par v) N || ltb K (par v))

-- which of the two a parent that is out gets: 16 above V - 1, 9 otherwise
abbrev pub parent_fault : ℕ → (ℕ → ℕ) → ℕ → Answer
parent_fault K par v = fault (cond (ltb K (par v)) 16 9) (Vertex v)

-- how many children a vertex needs: none at a strain, three at the root, two at another inner vertex
abbrev pub needed : ℕ → ℕ → ℕ → ℕ
needed N K w = cond (ltb w N) 0 (cond (eqb w K) 3 2)

-- 10: an inner vertex with too few children
abbrev pub children_few : ℕ → ℕ → (ℕ → ℕ) → ℕ → Bool
children_few N K par w = ltb (children K par w) (needed N K w)

-- an inner vertex with fewer children than it needs, or with more than `spare` above that: what both tests over the children ask
-- (`few-is`: 10 is this with as many to spare as there are edges; direct_theory's `degree-is`: 25 is this with none to spare)
abbrev pub children_out : ℕ → ℕ → ℕ → (ℕ → ℕ) → ℕ → Bool
children_out spare N K par w =
    cond (ltb w N) false (ltb (children K par w) (needed N K w) || ltb (needed N K w + spare) (children K par w))

-- the answer that a tree gets
abbrev pub tree_tests : ℕ → List ℕ → Answer
tree_tests N ps =
    test 6 (strains_out N)
    or_else test 8 (vertices_out N (length ps + 1))
    or_else at_first (length ps) (parent_out N (length ps) (parent_of ps)) (parent_fault (length ps) (parent_of ps))
    or_else at_first (length ps + 1) (children_few N (length ps) (parent_of ps)) (λ w. fault 10 (Vertex w))
