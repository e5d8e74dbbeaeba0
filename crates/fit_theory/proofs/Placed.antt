-- Where a refusal of a proposal points (RULES, Places): the lowest vertex or edge at fault, for 14 and 23 with its sum (`placed`), and the same of
-- a matrix and a tree each by itself (`shape_placed`).
use mathlib.Core.Path.{◌≡◌, refl, sym, ◌∙◌}
use mathlib.Core.Bool.{Bool, true, false, cond, ◌||◌, true≢false}
use mathlib.Core.List.{List}
use mathlib.Core.Logic.{◌⊎◌, inl, inr}
use Prim.Native.Nat.{ℕ, ◌+◌, ◌≤◌, ◌<◌}
use borrow.Author.Tests.{ltb-true, ltb-false, leb-true}
use lib.Dec.{eqb, ltb, leb}
use lib.IntN.{ℤ, pos, nat_abs}
use lib.ListN.{length}
use Rattle.exact.specs.Order.{◌≤ᶻ◌, ◌<ᶻ◌}
use Rattle.exact.specs.Table.{entry_of}
use Rattle.verdict.specs.declared.Place.{Place}
use Rattle.verdict.specs.declared.Place.TheVariants.{Nowhere, Byte, Vertex, Edge, EdgeSum}
use Rattle.verdict.specs.Answer.{Answer, pass, fault, test, at_first, ◌or_else◌}
use Rattle.verdict.specs.declared.Rule.{Rule}
use Rattle.verdict.specs.declared.Rule.TheVariants.{Plain, Drawable}
use Rattle.verdict.proofs.Answers.{LowestAtFault, Of, of_test, of_row, of-lowest, of-refusal}
use Rattle.matrix.specs.Tests.{count_out, strains_out, distance_out, matrix_tests}
use Rattle.tree_theory.specs.Allowed.{children}
use Rattle.tree_theory.specs.Chain.{parent_of}
use Rattle.tree_theory.specs.Tests.{vertices_out, parent_out, parent_fault, needed, children_few, tree_tests}
use Rattle.tree_theory.proofs.Faults.{parent_ok}
use Rattle.lengths.specs.Limits.{max_numerator}
use Rattle.lengths.specs.Tests.{edges_out, denominator_out, numerator_out, is_negative, lengths_tests, sign_tests}
use Rattle.fit_theory.specs.Quantities.{edge_sum_of}
use Rattle.fit_theory.specs.Tests.{not_zero, unbalanced, pulled, sums_tests, shape_tests, unseen, seen_tests, posted_tests, proposal_tests, judge_tests}
use Rattle.fit_theory.specs.Stands.{Seen}
use Rattle.fit_theory.proofs.Exactly.{seen→, →seen}
use Rattle.fit_theory.proofs.Zeros.{passes-zero, fails-zero, passes_balanced, fails_balanced, passes_unpulled, fails_unpulled, yes-less, negative_not}

-- ---- what is at fault, and what is right in its place
-- a parent as RULES, The tree has it; one that gets 9; one that gets 16
abbrev pub RightParent : ℕ → ℕ → (ℕ → ℕ) → ℕ → Type 0
RightParent N K par v = (v < par v) × (N ≤ par v) × (par v ≤ K)

abbrev pub WrongParent : ℕ → (ℕ → ℕ) → ℕ → Type 0
WrongParent N par v = (par v ≤ v) ⊎ (par v < N)

abbrev pub PastRoot : ℕ → (ℕ → ℕ) → ℕ → Type 0
PastRoot K par v = K < par v

-- 10: too few children, and enough
abbrev pub FewChildren : ℕ → ℕ → (ℕ → ℕ) → ℕ → Type 0
FewChildren N K par w = children K par w < needed N K w

abbrev pub EnoughChildren : ℕ → ℕ → (ℕ → ℕ) → ℕ → Type 0
EnoughChildren N K par w = needed N K w ≤ children K par w

-- 14, under each rule, and 23
abbrev pub Unbalanced : Rule → (n x : ℕ → ℤ) → ℕ → Type 0
Unbalanced Plain n x v = x v ≡ pos 0 → ⊥
Unbalanced Drawable n x v = (pos 0 <ᶻ n v) × (x v ≡ pos 0 → ⊥)

abbrev pub Balanced : Rule → (n x : ℕ → ℤ) → ℕ → Type 0
Balanced Plain n x v = x v ≡ pos 0
Balanced Drawable n x v = pos 0 <ᶻ n v → x v ≡ pos 0

abbrev pub Pulled : (n x : ℕ → ℤ) → ℕ → Type 0
Pulled n x v = (n v ≡ pos 0) × (pos 0 <ᶻ x v)

abbrev pub Unpulled : (n x : ℕ → ℤ) → ℕ → Type 0
Unpulled n x v = n v ≡ pos 0 → x v ≤ᶻ pos 0

-- ---- a matrix and a tree, each by itself
module _ (N : ℕ) (ps : List ℕ) where
  abbrev par : ℕ → ℕ
  par = parent_of ps

  -- the place of a vertex, for 10, for 16 and for 9: of the vertices below that of 9 or 16 none is at fault by either. No other number has one.
  abbrev pub VertexPlaced : ℕ → ℕ → Type 0
  VertexPlaced k v =
      cond (eqb k 10) (LowestAtFault (length ps + 1) (FewChildren N (length ps) par) (EnoughChildren N (length ps) par) v)
      (cond (eqb k 16) (LowestAtFault (length ps) (PastRoot (length ps) par) (RightParent N (length ps) par) v)
      (cond (eqb k 9) (LowestAtFault (length ps) (WrongParent N par) (RightParent N (length ps) par) v) ⊥))

  abbrev pub ShapePlaced : ℕ → Place → Type 0
  ShapePlaced k Nowhere = Unit {0}
  ShapePlaced k (Byte b) = ⊥
  ShapePlaced k (Vertex v) = VertexPlaced k v
  ShapePlaced k (Edge v) = ⊥
  ShapePlaced k (EdgeSum v z) = ⊥

  not_past : (v : ℕ) → (leb (par v) v || (ltb (par v) N || false)) ≡ true → WrongParent N par v
  not_past v e = go (leb (par v) v) (ltb (par v) N) refl refl e
    where
      go : (a b : Bool) → leb (par v) v ≡ a → ltb (par v) N ≡ b → (a || (b || false)) ≡ true → WrongParent N par v
      go true b p q e = inl (leb-true (par v) v p)
      go false true p q e = inr (ltb-true (par v) N q)
      go false false p q e = absurd (true≢false (sym e))

  -- which of 9 and 16 it is
  of_parent : (v : ℕ) → LowestAtFault (length ps) (λ u. parent_out N (length ps) par u ≡ true) (RightParent N (length ps) par) v → Of ShapePlaced (parent_fault (length ps) par v)
  of_parent v l = go (ltb (length ps) (par v)) refl l.fault
    where
      go : (b : Bool) → ltb (length ps) (par v) ≡ b → (leb (par v) v || (ltb (par v) N || b)) ≡ true → Of ShapePlaced (fault (cond b 16 9) (Vertex v))
      go true e f = record { inside = l.inside; fault = ltb-true (length ps) (par v) e; below = l.below }
      go false e f = record { inside = l.inside; fault = not_past v f; below = l.below }

  of_tree : Of ShapePlaced (tree_tests N ps)
  of_tree = let K = length ps in
      let parents = at_first K (parent_out N K par) (parent_fault K par) in
      let few = at_first (K + 1) (children_few N K par) (λ w. fault 10 (Vertex w)) in
      of_row ShapePlaced (test 6 (strains_out N)) (test 8 (vertices_out N (K + 1)) or_else parents or_else few) (of_test ShapePlaced 6 Nowhere (strains_out N) tt)
      (λ _. of_row ShapePlaced (test 8 (vertices_out N (K + 1))) (parents or_else few) (of_test ShapePlaced 8 Nowhere (vertices_out N (K + 1)) tt)
      (λ _. of_row ShapePlaced parents few
      (of-lowest ShapePlaced K (parent_out N K par) (parent_fault K par) (λ u. parent_out N K par u ≡ true) (RightParent N K par) (λ i e. e) (λ i e. parent_ok N K par i e) of_parent)
      (λ _. of-lowest ShapePlaced (K + 1) (children_few N K par) (λ w. fault 10 (Vertex w)) (FewChildren N K par) (EnoughChildren N K par)
      (λ i e. ltb-true (children K par i) (needed N K i) e) (λ i e. ltb-false (children K par i) (needed N K i) e) (λ i l. l))))

  of-matrix : (ds : List ℕ) → Of ShapePlaced (matrix_tests N ds)
  of-matrix ds =
      of_row ShapePlaced (test 4 (count_out N ds)) (test 6 (strains_out N) or_else test 7 (distance_out ds)) (of_test ShapePlaced 4 Nowhere (count_out N ds) tt)
      (λ _. of_row ShapePlaced (test 6 (strains_out N)) (test 7 (distance_out ds)) (of_test ShapePlaced 6 Nowhere (strains_out N) tt) (λ _. of_test ShapePlaced 7 Nowhere (distance_out ds) tt))

  pub shape_placed : (ds : List ℕ) → Of ShapePlaced (shape_tests N ds ps)
  shape_placed ds = of_row ShapePlaced (matrix_tests N ds) (tree_tests N ps) (of-matrix ds) (λ _. of_tree)

-- ---- with a proposal
module _ (rule : Rule) (N : ℕ) (ds ps : List ℕ) (D : ℕ) (ns : List ℤ) where
  abbrev n : ℕ → ℤ
  n = entry_of ns

  abbrev x : ℕ → ℤ
  x = edge_sum_of N ds ps D ns

  -- the place of an edge: for 26 the lowest that parts no measured pair, for 22 the lowest that is negative, for 13 the lowest out of range
  abbrev pub EdgePlaced : ℕ → ℕ → Type 0
  EdgePlaced k v =
      cond (eqb k 26) (LowestAtFault (length ps) (λ u. Seen N ds ps u → ⊥) (Seen N ds ps) v)
      (cond (eqb k 22) (LowestAtFault (length ns) (λ u. n u <ᶻ pos 0) (λ u. pos 0 ≤ᶻ n u) v)
      (cond (eqb k 13) (LowestAtFault (length ns) (λ u. max_numerator < nat_abs (n u)) (λ u. nat_abs (n u) ≤ max_numerator) v) ⊥))

  -- the place of an edge with its sum, for 23 and for 14
  abbrev pub SumPlaced : ℕ → ℕ → ℤ → Type 0
  SumPlaced k v z =
      (z ≡ x v) × cond (eqb k 23) (LowestAtFault (length ps) (Pulled n x) (Unpulled n x) v) (cond (eqb k 14) (LowestAtFault (length ps) (Unbalanced rule n x) (Balanced rule n x) v) ⊥)

  -- the place of a refusal: no byte; the lowest vertex or edge at fault
  abbrev pub Placed : ℕ → Place → Type 0
  Placed k Nowhere = Unit {0}
  Placed k (Byte b) = ⊥
  Placed k (Vertex v) = VertexPlaced N ps k v
  Placed k (Edge v) = EdgePlaced k v
  Placed k (EdgeSum v z) = SumPlaced k v z

  of_shape : (a : Answer) → Of (ShapePlaced N ps) a → Of Placed a
  of_shape pass h = tt
  of_shape (fault k Nowhere) h = tt
  of_shape (fault k (Byte b)) h = h
  of_shape (fault k (Vertex v)) h = h
  of_shape (fault k (Edge v)) h = absurd h
  of_shape (fault k (EdgeSum v z)) h = absurd h

  of-lengths : Of Placed (lengths_tests (length ps) D ns)
  of-lengths =
      let numerators = at_first (length ns) (numerator_out ns) (λ v. fault 13 (Edge v)) in
      of_row Placed (test 11 (edges_out (length ps) ns)) (test 12 (denominator_out D) or_else numerators) (of_test Placed 11 Nowhere (edges_out (length ps) ns) tt)
      (λ _. of_row Placed (test 12 (denominator_out D)) numerators (of_test Placed 12 Nowhere (denominator_out D) tt)
      (λ _. of-lowest Placed (length ns) (numerator_out ns) (λ v. fault 13 (Edge v)) (λ u. max_numerator < nat_abs (n u)) (λ u. nat_abs (n u) ≤ max_numerator)
      (λ i e. ltb-true max_numerator (nat_abs (n i)) e) (λ i e. ltb-false max_numerator (nat_abs (n i)) e) (λ i l. l)))

  of-signs : Of Placed (sign_tests rule ns)
  of-signs = go rule
    where
      go : (r : Rule) → Of Placed (sign_tests r ns)
      go Plain = tt
      go Drawable = of-lowest Placed (length ns) (is_negative ns) (λ v. fault 22 (Edge v)) (λ u. n u <ᶻ pos 0) (λ u. pos 0 ≤ᶻ n u) (λ i e. yes-less e) (λ i e. negative_not (n i) e) (λ i l. l)

  of-seen : Of Placed (seen_tests N ds ps)
  of-seen = of-lowest Placed (length ps) (unseen N ds ps) (λ v. fault 26 (Edge v)) (λ u. Seen N ds ps u → ⊥) (Seen N ds ps)
      (λ i e s. true≢false (sym e ∙ seen→ N ds ps i s)) (λ i e. →seen N ds ps i e) (λ i l. l)

-- the sums, under each rule
of-sums : (rule : Rule) (N : ℕ) (ds ps : List ℕ) (D : ℕ) (ns : List ℤ) → Of (Placed rule N ds ps D ns) (sums_tests rule N ds ps D ns)
of-sums Plain N ds ps D ns = let x = edge_sum_of N ds ps D ns in
    of-lowest (Placed Plain N ds ps D ns) (length ps) (not_zero x) (λ v. fault 14 (EdgeSum v (x v))) (λ u. x u ≡ pos 0 → ⊥) (λ u. x u ≡ pos 0)
    (λ i e. fails-zero (x i) e) (λ i e. passes-zero (x i) e) (λ i l. (refl, l))
of-sums Drawable N ds ps D ns = let x = edge_sum_of N ds ps D ns in let n = entry_of ns in let P = Placed Drawable N ds ps D ns in
    of_row P (at_first (length ps) (unbalanced n x) (λ v. fault 14 (EdgeSum v (x v)))) (at_first (length ps) (pulled n x) (λ v. fault 23 (EdgeSum v (x v))))
    (of-lowest P (length ps) (unbalanced n x) (λ v. fault 14 (EdgeSum v (x v))) (Unbalanced Drawable n x) (Balanced Drawable n x)
    (λ i e. fails_balanced (n i) (x i) e) (λ i e. passes_balanced (n i) (x i) e) (λ i l. (refl, l)))
    (λ _. of-lowest P (length ps) (pulled n x) (λ v. fault 23 (EdgeSum v (x v))) (Pulled n x) (Unpulled n x)
    (λ i e. fails_unpulled (n i) (x i) e) (λ i e. passes_unpulled (n i) (x i) e) (λ i l. (refl, l)))

module _ (rule : Rule) (N : ℕ) (ds ps : List ℕ) (D : ℕ) (ns : List ℤ) where
  pub placed : (k : ℕ) (p : Place) → judge_tests rule N ds ps D ns ≡ fault k p → Placed rule N ds ps D ns k p
  placed k p e = let P = Placed rule N ds ps D ns in
      of-refusal P (judge_tests rule N ds ps D ns) k p
      (of_row P (posted_tests N ds ps) (proposal_tests rule N ds ps D ns)
      (of_row P (shape_tests N ds ps) (seen_tests N ds ps) (of_shape rule N ds ps D ns (shape_tests N ds ps) (shape_placed N ps ds)) (λ _. of-seen rule N ds ps D ns))
      (λ _. of_row P (lengths_tests (length ps) D ns) (sign_tests rule ns or_else sums_tests rule N ds ps D ns) (of-lengths rule N ds ps D ns)
      (λ _. of_row P (sign_tests rule ns) (sums_tests rule N ds ps D ns) (of-signs rule N ds ps D ns) (λ _. of-sums rule N ds ps D ns)))) e
