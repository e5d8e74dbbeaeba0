-- What a matrix and a tree that pass are (`pair-shaped`, `pair-posted`), and the whole answer to them by the answers on the way.
use mathlib.Core.Path.{◌≡◌, sym, ap, ◌∙◌}
use mathlib.Core.Bool.{Bool, true, false, cond}
use mathlib.Core.List.{List}
use lib.Dec.{ltb}
use Prim.Native.Nat.{ℕ, ◌-◌, ◌<◌, ◌≤◌}
use native.Mathlib.Omega.{arith}
use borrow.Author.Tests.{lt-ltb, le-ltb, eq-eqb}
use lib.ListN.{length}
use Rattle.exact.proofs.Fill.{length-table}
use Rattle.verdict.specs.declared.Reason.TheVariants.{Strains}
use Rattle.verdict.specs.declared.Place.TheVariants.{Nowhere}
use Rattle.std.specs.Prelude.{Err}
use Rattle.verdict.specs.Answer.{Answer, pass, fault, test, ◌or_else◌}
use Rattle.verdict.proofs.Answers.{or_else_pass}
use Rattle.matrix.specs.Limits.{min_strains, max_strains}
use Rattle.matrix.specs.Place.{pair_count}
use Rattle.matrix.specs.Tests.{matrix_tests}
use Rattle.tree_theory.specs.Limits.{max_edges}
use Rattle.fit_theory.specs.Tests.{shape_tests, seen_tests, posted_tests}
use Rattle.fit_theory.specs.Stands.{Shaped, Posted}
use Rattle.fit_theory.proofs.Exactly.{→shaped, →posted}
use Rattle.front.specs.Holds.{strains_of, distances_of, vertices_of, parents_of}
use Rattle.front.specs.Tests.{strains_differ, both_tests, pair_tests}
use Rattle.front.specs.Reads.{FrontAnswer}

-- ---- matrix and tree that pass
both-pass : (count : ℕ) (s : List ℕ) → pair_tests count s ≡ pass → both_tests count (strains_of s) (distances_of s) (parents_of s) ≡ pass
both-pass count s z =
    let N = strains_of s in
    let ds = distances_of s in
    let (_, r) = or_else_pass (matrix_tests N ds) (test 8 (strains_differ s) or_else both_tests count N ds (parents_of s)) z in
    (or_else_pass (test 8 (strains_differ s)) (both_tests count N ds (parents_of s)) r).1

-- where lengths follow, also together
pub pair-posted : (count : ℕ) (s : List ℕ) → 2 < count → pair_tests count s ≡ pass → Posted (strains_of s) (distances_of s) (parents_of s)
pair-posted count s l z =
    let N = strains_of s in
    let ds = distances_of s in
    let ps = parents_of s in
    →posted N ds ps (sym (ap (λ (b : Bool). cond b (posted_tests N ds ps) (shape_tests N ds ps)) (lt-ltb 2 count l)) ∙ both-pass count s z)

module _ (count : ℕ) (s : List ℕ) (z : pair_tests count s ≡ pass) where
  pub pair-shaped : Shaped (strains_of s) (distances_of s) (parents_of s)
  pair-shaped = go (ltb 2 count) (both-pass count s z)
    where
      go : (b : Bool) → cond b (posted_tests (strains_of s) (distances_of s) (parents_of s)) (shape_tests (strains_of s) (distances_of s) (parents_of s)) ≡ pass → Shaped (strains_of s) (distances_of s) (parents_of s)
      go true e = →shaped (strains_of s) (distances_of s) (parents_of s) (or_else_pass (shape_tests (strains_of s) (distances_of s) (parents_of s)) (seen_tests (strains_of s) (distances_of s) (parents_of s)) e).0
      go false e = →shaped (strains_of s) (distances_of s) (parents_of s) e

  pub parents-few : vertices_of s - 1 ≤ max_edges
  parents-few =
      let e : length (parents_of s) ≡ vertices_of s - 1 = length-table (vertices_of s - 1) _ in
      omega (arith, pair-shaped.tree.most, pair-shaped.tree.few)

-- ---- a refusal
module _ (count : ℕ) (s ds : List ℕ) where
  -- more strains than a matrix may have
  many : max_strains < strains_of s → matrix_tests (strains_of s) (distances_of s) ≡ fault 6 Nowhere
  many h =
      simp (
        eq-eqb (length (distances_of s)) (pair_count (strains_of s)) (length-table (pair_count (strains_of s)) _),
        le-ltb (strains_of s) min_strains (omega arith),
        lt-ltb max_strains (strains_of s) h,
      )

  pub many-strains : (n : ℕ) → n ≡ strains_of s → max_strains < n → FrontAnswer count s ds (Err (record { reason = Strains; place = Nowhere }))
  many-strains n e h = record {
    answer = sym (ap (λ (k : Answer). k or_else test 8 (strains_differ s) or_else both_tests count (strains_of s) (distances_of s) (parents_of s)) (many (omega arith)));
    held = tt;
  }
