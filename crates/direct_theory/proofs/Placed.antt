-- Where a refusal of a direct fit points (RULES, Places): for 25 the lowest inner vertex that is not of degree three; 26 and 15 nowhere; else as
-- of a matrix and a tree, each by itself.
use mathlib.Core.Path.{◌≡◌, refl, subst}
use mathlib.Core.Bool.{Bool, true, false, cond, not, true≢false}
use mathlib.Core.List.{List}
use Prim.Native.Nat.{ℕ, ◌+◌, ◌≤◌, ◌<◌}
use native.Mathlib.Decide.{dec_lt}
use native.Mathlib.Omega.{arith}
use borrow.Author.Tests.{ltb-true, ltb-false, eqb-true}
use lib.Dec.{eqb, ltb}
use lib.ListN.{length}
use Rattle.exact.proofs.Decide.{by_cases}
use Rattle.verdict.specs.declared.Place.{Place}
use Rattle.verdict.specs.declared.Place.TheVariants.{Nowhere, Byte, Vertex, Edge, EdgeSum}
use Rattle.verdict.specs.Answer.{Answer, pass, fault, test, at_first, ◌or_else◌}
use Rattle.verdict.proofs.Answers.{LowestAtFault, Of, of_test, of_row, of-lowest, of-refusal}
use Rattle.matrix.specs.Place.{some_missing}
use Rattle.tree_theory.specs.Chain.{parent_of}
use Rattle.fit_theory.specs.Tests.{shape_tests}
use Rattle.fit_theory.proofs.Placed.{VertexPlaced, ShapePlaced, shape_placed}
use Rattle.direct_theory.specs.Children.{degree, degree_out}
use Rattle.direct_theory.specs.Tests.{degree_tests, buffers_out, direct_only, resolved_tests, direct_tests}
use Rattle.direct_theory.proofs.Degrees.{of-another-degree, of-degree-three}

-- 25: an inner vertex of another degree, and one that is right
abbrev pub OtherDegree : ℕ → ℕ → (ℕ → ℕ) → ℕ → Type 0
OtherDegree N K par w = (N ≤ w) × (degree K par w ≡ 3 → ⊥)

abbrev pub DegreeThree : ℕ → ℕ → (ℕ → ℕ) → ℕ → Type 0
DegreeThree N K par w = N ≤ w → degree K par w ≡ 3

module _ (N : ℕ) (ps : List ℕ) where
  abbrev pub DirectPlaced : ℕ → Place → Type 0
  DirectPlaced k Nowhere = Unit {0}
  DirectPlaced k (Byte b) = ⊥
  DirectPlaced k (Vertex v) = cond (eqb k 25) (LowestAtFault (length ps + 1) (OtherDegree N (length ps) (parent_of ps)) (DegreeThree N (length ps) (parent_of ps)) v) (VertexPlaced N ps k v)
  DirectPlaced k (Edge v) = ⊥
  DirectPlaced k (EdgeSum v z) = ⊥

  of_shape : (a : Answer) → Of (ShapePlaced N ps) a → Of DirectPlaced a
  of_shape pass h = tt
  of_shape (fault k Nowhere) h = tt
  of_shape (fault k (Byte b)) h = h
  of_shape (fault k (Vertex v)) h = go (eqb k 25) refl
    where
      go : (b : Bool) → eqb k 25 ≡ b → cond b (LowestAtFault (length ps + 1) (OtherDegree N (length ps) (parent_of ps)) (DegreeThree N (length ps) (parent_of ps)) v) (VertexPlaced N ps k v)
      go true e = absurd (subst (λ (j : ℕ). VertexPlaced N ps j v) (eqb-true k 25 e) h)
      go false e = h
  of_shape (fault k (Edge v)) h = h
  of_shape (fault k (EdgeSum v z)) h = h

  of_degrees : Of DirectPlaced (degree_tests N ps)
  of_degrees = let K = length ps in let par = parent_of ps in
      of-lowest DirectPlaced (K + 1) (degree_out N K par) (λ w. fault 25 (Vertex w)) (OtherDegree N K par) (DegreeThree N K par)
      (λ i e. of-another-degree N K par i e) (λ i e h. of-degree-three N K par i e h) (λ i l. l)

  pub direct-placed : (ds : List ℕ) (a b c k : ℕ) (p : Place) → direct_tests N ds ps a b c ≡ fault k p → DirectPlaced k p
  direct-placed ds a b c k p e = let P = DirectPlaced in
      of-refusal P (direct_tests N ds ps a b c) k p
      (of_row P (resolved_tests N ds ps) (test 15 (buffers_out (length ps) a b c))
      (of_row P (shape_tests N ds ps) (direct_only N ds ps) (of_shape (shape_tests N ds ps) (shape_placed N ps ds))
      (λ _. of_row P (degree_tests N ps) (test 26 (some_missing ds)) of_degrees (λ _. of_test P 26 Nowhere (some_missing ds) tt)))
      (λ _. of_test P 15 Nowhere (buffers_out (length ps) a b c) tt)) e
