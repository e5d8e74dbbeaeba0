-- What the first two records of a sheet, where they pass, tell: where they stand, that their bytes are there, and that what was read is
-- what they hold.
use mathlib.Core.Path.{◌≡◌, refl, sym, ap, ap₂, ◌∙◌}
use mathlib.Core.Bool.{Bool, not}
use mathlib.Core.List.{List}
use Prim.Native.Nat.{ℕ, ◌+◌, ◌-◌, ◌*◌, ◌/◌, ◌≤◌, ◌<◌}
use native.Mathlib.Omega.{arith}
use borrow.Author.Tests.{eq-eqb, ne_eqb, lt-ltb, le-ltb}
use lib.Dec.{eqb}
use lib.ListN.{length, take, drop, get_or}
use Rattle.exact.specs.Table.{table, padded}
use Rattle.verdict.specs.declared.Place.TheVariants.{Nowhere}
use Rattle.verdict.specs.Answer.{Answer, pass, fault, test, ◌or_else◌}
use Rattle.verdict.proofs.Answers.{or_else_again, or_else_assoc}
use Rattle.matrix.specs.Limits.{max_strains, max_pairs}
use Rattle.matrix.specs.Place.{pair_count, from_rows}
use Rattle.matrix.specs.Tests.{matrix_tests}
use Rattle.matrix.proofs.Places.{pairs-few}
use Rattle.tree_theory.specs.Tests.{tree_tests}
use Rattle.fit_theory.specs.Tests.{shape_tests, seen_tests, posted_tests}
use Rattle.endian.specs.Bytes.{number}
use Rattle.records.specs.Form.{start_of, records_tests}
use Rattle.records.proofs.InTurn.{first-start}
use Rattle.records.proofs.Formed.{passed-ends, passed-long}
use Rattle.records.proofs.Decoding.{front-is, part-is}
use Rattle.front.specs.Holds.{strains_of, row_at, distances_of, vertices_of, parents_of}
use Rattle.front.specs.Tests.{both_tests, pair_tests}

-- the matrix and the tree: the tree starts at t and ends at l
pub record Fronted (s : List ℕ) (t l : ℕ) : Type 0 where
  pub tree-at : t ≡ start_of s 1
  pub end-at : l ≡ start_of s 2
  pub matrix : t ≡ 8 + number 2 s 6 * (number 2 s 6 - 1)
  pub tree : l ≡ t + 10 + (number 2 s (t + 6 + 2) - 1)
  pub there : l ≤ length s

module _ (count : ℕ) (s : List ℕ) (two : 2 ≤ count) (z : records_tests s count ≡ pass) where
  matrix-long : start_of s 1 ≡ 8 + number 2 s 6 * (number 2 s 6 - 1)
  matrix-long =
      passed-long count s z 0 (omega arith) (omega arith)
      ∙ ap (λ (at : ℕ). at + 6 + (2 + number 2 s (at + 6 + 0) * (number 2 s (at + 6 + 0) - 1))) (first-start s) ∙ omega arith

  fronted-at : Fronted s (start_of s 1) (start_of s 2)
  fronted-at = record {
    tree-at = refl;
    end-at = refl;
    matrix = matrix-long;
    tree = omega (arith, passed-long count s z 1 (omega arith) (omega arith));
    there = passed-ends count s z 1 (omega arith);
  }

  pub fronted : (t l : ℕ) → t ≡ start_of s 1 → l ≡ start_of s 2 → Fronted s t l
  fronted t l e f = rw (e, f) fronted-at

-- ---- what was read
module _ {s : List ℕ} {t l : ℕ} (w : Fronted s t l) where
  pub pairs-fit : (n p : ℕ) → n ≡ number 2 s 6 → n ≤ max_strains → p ≡ pair_count n → (p ≤ max_pairs) × (8 + 2 * p ≤ length s)
  pairs-fit n p e h f =
      let g : p ≡ number 2 s 6 * (number 2 s 6 - 1) / 2 = f ∙ ap pair_count e in
      (omega (arith, pairs-few n h), omega (arith, w.matrix, w.tree, w.there))

  pub distances_are : (n p : ℕ) (kept : List ℕ) → n ≡ number 2 s 6 → p ≡ pair_count n → kept ≡ padded 0 max_pairs p (from_rows n (λ k. number 2 s (8 + 2 * k))) → take p kept ≡ distances_of s
  distances_are n p kept e f g = front-is 0 max_pairs p _ kept g ∙ ap₂ (λ (k m : ℕ). table k (from_rows m (row_at s))) (f ∙ ap pair_count e) e

  pub parents-start : t + 6 + 4 ≤ l
  parents-start = omega (arith, w.tree)

  -- as many parents as V less one
  pub parents-count : l - (t + 6 + 4) ≡ vertices_of s - 1
  parents-count =
      let few : l - (t + 6 + 4) ≡ number 2 s (t + 6 + 2) - 1 = omega (arith, w.tree) in
      few ∙ ap (λ (a : ℕ). number 2 s (a + 6 + 2) - 1) w.tree-at

  pub parents_are : take (l - (t + 6 + 4)) (drop (t + 6 + 4) s) ≡ parents_of s
  parents_are =
      part-is 0 s (t + 6 + 4) l parents-start w.there
      ∙ ap₂ (λ (k a : ℕ). table k (λ i. get_or s (a + i) 0)) parents-count (ap (λ (a : ℕ). a + 6 + 4) w.tree-at)

  pub pair_is : (count n u : ℕ) (ds ps : List ℕ) → n ≡ number 2 s 6 → u ≡ number 2 s (t + 6) → ds ≡ distances_of s → ps ≡ parents_of s
      → (matrix_tests n ds or_else test 8 (not (eqb u n)) or_else both_tests count n ds ps) ≡ pair_tests count s
  pair_is count n u ds ps e f g h =
      ap₂ (λ (k : ℕ) (xs : List ℕ). matrix_tests k xs or_else test 8 (not (eqb u k)) or_else both_tests count k xs ps) e g
      ∙ ap₂ (λ (v : ℕ) (xs : List ℕ). matrix_tests (strains_of s) (distances_of s) or_else test 8 (not (eqb v (strains_of s))) or_else both_tests count (strains_of s) (distances_of s) xs)
      (f ∙ ap (λ (a : ℕ). number 2 s (a + 6)) w.tree-at) h

-- ---- matrix and tree, by their two counts of strains
module _ (count n u : ℕ) (ds ps : List ℕ) where
  pub apart : (u ≡ n → ⊥) → (matrix_tests n ds or_else fault 8 Nowhere) ≡ (matrix_tests n ds or_else test 8 (not (eqb u n)) or_else both_tests count n ds ps)
  apart h = ap (λ (b : Bool). matrix_tests n ds or_else test 8 b or_else both_tests count n ds ps) (sym (ap not (ne_eqb u n h)))

  -- the matrix may be asked before both
  module _ (h : u ≡ n) where
    once_more : (x : Answer) → (matrix_tests n ds or_else x) ≡ x → x ≡ (matrix_tests n ds or_else test 8 (not (eqb u n)) or_else x)
    once_more x e = sym e ∙ ap (λ (b : Bool). matrix_tests n ds or_else test 8 b or_else x) (sym (ap not (eq-eqb u n h)))

    pub together : 2 < count → posted_tests n ds ps ≡ (matrix_tests n ds or_else test 8 (not (eqb u n)) or_else both_tests count n ds ps)
    together l = rw (lt-ltb 2 count l) (once_more (posted_tests n ds ps)
        (ap (λ (k : Answer). matrix_tests n ds or_else k) (or_else_assoc (matrix_tests n ds) (tree_tests n ps) (seen_tests n ds ps))
        ∙ or_else_again (matrix_tests n ds) (tree_tests n ps or_else seen_tests n ds ps) ∙ sym (or_else_assoc (matrix_tests n ds) (tree_tests n ps) (seen_tests n ds ps))))

    pub each : count ≤ 2 → shape_tests n ds ps ≡ (matrix_tests n ds or_else test 8 (not (eqb u n)) or_else both_tests count n ds ps)
    each l = rw (le-ltb 2 count l) (once_more (shape_tests n ds ps) (or_else_again (matrix_tests n ds) (tree_tests n ps)))
