-- Which answer a table of parents gets, from the facts in the order in which they are tested; and what an answer that passes tells,
-- which is that none of the tests applies.
use mathlib.Core.Path.{◌≡◌, sym, ◌∙◌}
use mathlib.Core.Bool.{true, false, or-true}
use mathlib.Core.List.{List}
use Prim.Native.Nat.{ℕ, ◌+◌, ◌-◌, ◌*◌, ◌≤◌, ◌<◌}
use native.Mathlib.Decide.{dec_le}
use native.Mathlib.Omega.{arith}
use borrow.Author.Tests.{lt-ltb, le-ltb}
use lib.Dec.{ltb}
use lib.ListN.{length}
use Rattle.verdict.specs.Answer.{pass, fault}
use Rattle.exact.proofs.Decide.{by_cases}
use Rattle.verdict.specs.declared.Place.{Place}
use Rattle.verdict.specs.declared.Place.TheVariants.{Nowhere, Vertex}
use Rattle.verdict.specs.Table.{first}
use Rattle.verdict.proofs.Answers.{refuses}
use Rattle.matrix.specs.Limits.{min_strains, max_strains}
use Rattle.matrix.specs.Tests.{strains_out}
use Rattle.tree_theory.specs.Chain.{parent_of}
use Rattle.tree_theory.specs.Tests.{vertices_out, parent_out, parent_fault, children_few, tree_tests}

-- the strains and vertices are as many as RULES, The tree allows
pub record Sized (N K : ℕ) : Type 0 where
  pub three : min_strains ≤ N
  pub few : N ≤ max_strains
  pub edges : N ≤ K
  pub most : K + 3 ≤ 2 * N

strains_in : (N : ℕ) → min_strains ≤ N → N ≤ max_strains → strains_out N ≡ false
strains_in N h i = rw (le-ltb N min_strains h, le-ltb max_strains N i)

vertices_in : (N K : ℕ) → Sized N K → vertices_out N (K + 1) ≡ false
vertices_in N K s = rw (le-ltb (K + 1) (N + 1) (omega arith), le-ltb (2 * N - 2) (K + 1) (omega arith))

module _ (N : ℕ) (ps : List ℕ) where
  pub too_few : N < min_strains → tree_tests N ps ≡ fault 6 Nowhere
  too_few h = rw (lt-ltb N min_strains h)

  pub too_many : max_strains < N → tree_tests N ps ≡ fault 6 Nowhere
  too_many h = rw (lt-ltb max_strains N h, or-true (ltb N min_strains))

  module _ (h : min_strains ≤ N) (i : N ≤ max_strains) where
    pub short : length ps < N → tree_tests N ps ≡ fault 8 Nowhere
    short l = rw (strains_in N h i, lt-ltb (length ps + 1) (N + 1) (omega arith))

    pub long : 2 * N < length ps + 3 → tree_tests N ps ≡ fault 8 Nowhere
    long l = rw (strains_in N h i, lt-ltb (2 * N - 2) (length ps + 1) (omega arith), or-true (ltb (length ps + 1) (N + 1)))

  -- the lowest vertex whose parent is out, and the lowest that is short of children
  abbrev pub bad_vertex : ℕ
  bad_vertex = first (length ps) (parent_out N (length ps) (parent_of ps))

  abbrev pub short_vertex : ℕ
  short_vertex = first (length ps + 1) (children_few N (length ps) (parent_of ps))

  module _ (s : Sized N (length ps)) where
    pub parent_refused : bad_vertex < length ps → tree_tests N ps ≡ parent_fault (length ps) (parent_of ps) bad_vertex
    parent_refused l = rw (strains_in N s.three s.few, vertices_in N (length ps) s, lt-ltb bad_vertex (length ps) l)

    module _ (p : length ps ≤ bad_vertex) where
      pub children-refused : short_vertex < length ps + 1 → tree_tests N ps ≡ fault 10 (Vertex short_vertex)
      children-refused l = rw (strains_in N s.three s.few, vertices_in N (length ps) s, le-ltb bad_vertex (length ps) p, lt-ltb short_vertex (length ps + 1) l)

      pub accepted : length ps + 1 ≤ short_vertex → tree_tests N ps ≡ pass
      accepted l = rw (strains_in N s.three s.few, vertices_in N (length ps) s, le-ltb bad_vertex (length ps) p, le-ltb short_vertex (length ps + 1) l)

  -- ---- back, from an answer that passes
  module _ (e : tree_tests N ps ≡ pass) where
    never : {P : Type 0} {k : ℕ} {q : Place} → tree_tests N ps ≡ fault k q → P
    never g = absurd (refuses _ _ (sym g ∙ e))

    pub sized : Sized N (length ps)
    sized =
        let h : min_strains ≤ N = by_cases (dec_le min_strains N) (λ l. l) (λ l. never (too_few (omega arith))) in
        let i : N ≤ max_strains = by_cases (dec_le N max_strains) (λ l. l) (λ l. never (too_many (omega arith))) in
        record {
          three = h;
          few = i;
          edges = by_cases (dec_le N (length ps)) (λ l. l) (λ l. never (short h i (omega arith)));
          most = by_cases (dec_le (length ps + 3) (2 * N)) (λ l. l) (λ l. never (long h i (omega arith)));
        }

    pub parents_fine : length ps ≤ bad_vertex
    parents_fine = by_cases (dec_le (length ps) bad_vertex) (λ l. l) (λ l. never (parent_refused sized (omega arith)))

    pub children_fine : length ps + 1 ≤ short_vertex
    children_fine = by_cases (dec_le (length ps + 1) short_vertex) (λ l. l) (λ l. never (children-refused sized parents_fine (omega arith)))
