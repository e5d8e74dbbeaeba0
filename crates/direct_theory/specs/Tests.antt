-- The answer that a matrix and a tree to be fitted with no proposal get: 4, 6 to 10, 16, 25, 26, 15.
use Rattle.std.specs.Prelude.{Bool, ◌||◌, List, ℕ, ◌+◌, length}
use Rattle.verdict.specs.Answer.{Answer, fault, test, at_first, ◌or_else◌}
use Rattle.verdict.specs.declared.Place.TheVariants.{Vertex}
use Rattle.matrix.specs.Place.{some_missing}
use Rattle.tree_theory.specs.Chain.{parent_of}
use Rattle.fit_theory.specs.Tests.{buffer_out, shape_tests}
use Rattle.direct_theory.specs.Children.{degree_out}

-- 25: the lowest inner vertex not of degree three
abbrev pub degree_tests : ℕ → List ℕ → Answer
degree_tests N ps = at_first (length ps + 1) (degree_out N (length ps) (parent_of ps)) (λ w. fault 25 (Vertex w))

-- 15: some of three lent buffers does not have an entry for each of K edges
abbrev pub buffers_out : ℕ → (a b c : ℕ) → Bool
buffers_out K a b c = buffer_out a K || (buffer_out b K || buffer_out c K)

-- what they are asked beyond their shapes: 25, then 26 for any pair that is missing
abbrev pub direct_only : ℕ → List ℕ → List ℕ → Answer
direct_only N ds ps = degree_tests N ps or_else test 26 (some_missing ds)

-- what the matrix and the tree are asked: 4, 6 to 10, 16, 25, 26
abbrev pub resolved_tests : ℕ → List ℕ → List ℕ → Answer
resolved_tests N ds ps = shape_tests N ds ps or_else direct_only N ds ps

-- with buffers of a, b and c entries
abbrev pub direct_tests : ℕ → List ℕ → List ℕ → (a b c : ℕ) → Answer
direct_tests N ds ps a b c = resolved_tests N ds ps or_else test 15 (buffers_out (length ps) a b c)
