-- For a caller of `read_long`: what its parts are, where it accepts. Matrix and tree as front's; the digits are all among the bytes, and few enough
-- for the tables that they are decoded into.
use mathlib.Core.Path.{◌≡◌, refl, sym, ap, ap₂, ◌∙◌}
use mathlib.Core.Bool.{false}
use mathlib.Core.List.{List}
use Prim.Native.Nat.{ℕ, ◌+◌, ◌-◌, ◌*◌, ◌≤◌}
use native.Mathlib.Nat.{mul-le-mul}
use native.Mathlib.Omega.{arith}
use borrow.Author.Tests.{ltb-false, eqb-true, eqb-false, not-false}
use lib.Dec.{eqb, ltb}
use lib.ListN.{length}
use Rattle.exact.proofs.Fill.{length-table}
use Rattle.std.specs.Prelude.{Ok}
use Rattle.verdict.specs.Answer.{pass, test, ◌or_else◌}
use Rattle.verdict.proofs.Answers.{or_else_pass, test-pass, or_none}
use Rattle.tree_theory.specs.Limits.{max_edges}
use Rattle.fit_theory.specs.Stands.{Posted}
use Rattle.records.specs.Form.{start_of}
use Rattle.front.specs.declared.Front.{Front}
use Rattle.front.specs.Holds.{strains_of, distances_of, vertices_of, parents_of}
use Rattle.front.specs.Tests.{pair_tests}
use Rattle.front.proofs.Answered.{pair-posted, parents-few}
use Rattle.front.proofs.Parts as front
use Rattle.long_theory.specs.Long.{max_levels}
use Rattle.long_records.specs.LongForm.{long_form_tests}
use Rattle.long_records.proofs.Formed.{long-pair, digits-there}
use Rattle.long_reading.specs.declared.LongSheet.{LongSheet}
use Rattle.long_reading.specs.LongHolds.{levels_of, long_edges_of, denominator_at, numerators_at}
use Rattle.long_reading.specs.LongTests.{long_edges_differ, levels_out, long_counts_tests, long_read_tests}
use Rattle.long_reading.specs.LongReads.{LongHeld, LongAnswer}

-- what is front's of a long sheet, beside the distances
abbrev pub front_of : LongSheet → Front
front_of r = record { strains = r.strains; pairs = r.pairs; parents = r.parents; end = r.end }

pub record Parts (s : List ℕ) (r : LongSheet) : Type 0 where
  pub posted : Posted (strains_of s) (distances_of s) (parents_of s)
  pub front : front.Parts s r.distances (front_of r)
  pub levels : r.levels ≡ levels_of s
  pub edges : r.edges ≡ long_edges_of s
  pub some : 1 ≤ r.levels
  pub most : r.levels ≤ max_levels
  pub count : r.edges ≡ length (parents_of s)
  pub few : r.levels * r.edges ≤ max_levels * max_edges
  pub denominator : r.denominator ≡ denominator_at s
  pub denominator-there : r.denominator + 4 * r.levels ≤ length s
  pub numerators : r.numerators ≡ numerators_at s
  pub numerators-there : r.numerators + 4 * (r.levels * r.edges) ≤ length s

pub accepted : (s : List ℕ) (r : LongSheet) → LongAnswer s (Ok r) → long_read_tests s ≡ pass
accepted s r a = sym a.answer

module _ (s : List ℕ) (z : long_read_tests s ≡ pass) where
  pub form-passes : long_form_tests s ≡ pass
  form-passes = (or_else_pass (long_form_tests s) (pair_tests 3 s or_else long_counts_tests s) z).0

  behind-form : (pair_tests 3 s or_else long_counts_tests s) ≡ pass
  behind-form = (or_else_pass (long_form_tests s) (pair_tests 3 s or_else long_counts_tests s) z).1

  pub pair-passes : pair_tests 3 s ≡ pass
  pair-passes = (or_else_pass (pair_tests 3 s) (long_counts_tests s) behind-form).0

  counts-pass : long_counts_tests s ≡ pass
  counts-pass = (or_else_pass (pair_tests 3 s) (long_counts_tests s) behind-form).1

  edges-same : long_edges_of s ≡ vertices_of s - 1
  edges-same =
      let same = eqb (long_edges_of s) (vertices_of s - 1) in
      eqb-true (long_edges_of s) (vertices_of s - 1) (not-false same (test-pass 11 (long_edges_differ s) (or_else_pass (test 11 (long_edges_differ s)) (test 12 (levels_out s)) counts-pass).0))

  levels_in : (eqb (levels_of s) 0 ≡ false) × (ltb max_levels (levels_of s) ≡ false)
  levels_in = or_none (eqb (levels_of s) 0) (ltb max_levels (levels_of s)) (test-pass 12 (levels_out s) (or_else_pass (test 11 (long_edges_differ s)) (test 12 (levels_out s)) counts-pass).1)

  few-levels : levels_of s ≤ max_levels
  few-levels = ltb-false max_levels (levels_of s) levels_in.1

  few-edges : long_edges_of s ≤ max_edges
  few-edges = omega (arith, edges-same, parents-few 3 s pair-passes)

  there : start_of s 2 + 10 + 4 * levels_of s + 4 * (levels_of s * long_edges_of s) ≡ length s
  there = digits-there s form-passes (start_of s 2) refl

  module _ (r : LongSheet) (h : LongHeld s r) where
    product : r.levels * r.edges ≡ levels_of s * long_edges_of s
    product = ap₂ ◌*◌ h.levels h.edges

    pub parts : Parts s r
    parts = record {
      posted = pair-posted 3 s (omega arith) pair-passes;
      front = front.parts 3 s (long-pair s form-passes) pair-passes r.distances (front_of r)
          (record { strains = h.strains; pairs = h.pairs; distances = h.distances; parents = h.parents; end = h.end });
      levels = h.levels;
      edges = h.edges;
      some = omega (arith, h.levels, eqb-false (levels_of s) 0 levels_in.0);
      most = omega (arith, h.levels, few-levels);
      count = h.edges ∙ edges-same ∙ sym (length-table (vertices_of s - 1) _);
      few = omega (arith, product, mul-le-mul {n₂ = 52} {m₂ = 125} few-levels few-edges);
      denominator = h.denominator;
      denominator-there = omega (arith, h.denominator, h.levels, there);
      numerators = h.numerators;
      numerators-there = omega (arith, h.numerators, product, there);
    }

-- by the reader's answer
pub read-parts : (s : List ℕ) (r : LongSheet) → LongAnswer s (Ok r) → Parts s r
read-parts s r a = parts s (accepted s r a) r a.held
