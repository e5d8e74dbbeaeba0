-- The tests of a proposal all pass exactly where it is proper.
use mathlib.Core.Path.{◌≡◌, refl, sym}
use native.Mathlib.Omega.{arith}
use mathlib.Core.Bool.{not}
use mathlib.Core.List.{List}
use Prim.Native.Nat.{ℕ}
use borrow.Author.Tests.{le-ltb, ltb-false, eqb-true, not-false}
use lib.Dec.{eqb, ltb}
use lib.IntN.{ℤ, pos, nat_abs}
use lib.ListN.{length, get_or}
use Rattle.verdict.specs.Answer.{pass, fault, test, at_first, ◌or_else◌}
use Rattle.verdict.specs.declared.Place.TheVariants.{Edge}
use Rattle.verdict.proofs.Answers.{or_else_pass, test-pass, first-pass, refuses, or_none}
use Rattle.verdict.proofs.Table.{some-none, past_first}
use Rattle.tree_theory.specs.Limits.{max_edges}
use Rattle.lengths.specs.Limits.{max_denominator, max_numerator}
use Rattle.lengths.specs.Tests.{lengths_tests, edges_out, denominator_out, numerator_out}
use Rattle.lengths.specs.Proper.{Proper}
use Rattle.lengths.proofs.Answered.{is-0}

module _ (edges D : ℕ) (ns : List ℤ) where
  pub proper→ : Proper edges D ns → lengths_tests edges D ns ≡ pass
  proper→ p = sym (is-0 edges D ns p.whole p.few p.one p.most _ refl (omega (arith, past_first (length ns) (numerator_out ns) (λ k h. le-ltb _ _ (p.near k h)))))

  pub →proper : lengths_tests edges D ns ≡ pass → Proper edges D ns
  →proper e =
      let (e11, r) = or_else_pass (test 11 (edges_out edges ns)) (test 12 (denominator_out D) or_else at_first (length ns) (numerator_out ns) (λ v. fault 13 (Edge v))) e in
      let (e12, e13) = or_else_pass (test 12 (denominator_out D)) (at_first (length ns) (numerator_out ns) (λ v. fault 13 (Edge v))) r in
      let (same, few) = or_none (not (eqb (length ns) edges)) (ltb max_edges edges) (test-pass 11 (edges_out edges ns) e11) in
      let (low, high) = or_none (ltb D 1) (ltb max_denominator D) (test-pass 12 (denominator_out D) e12) in
      record {
        whole = eqb-true (length ns) edges (not-false (eqb (length ns) edges) same);
        few = ltb-false max_edges edges few;
        one = ltb-false D 1 low;
        most = ltb-false max_denominator D high;
        near = λ v h. ltb-false max_numerator (nat_abs (get_or ns v (pos 0))) (some-none (length ns) (numerator_out ns) (first-pass (length ns) (numerator_out ns) (λ v. fault 13 (Edge v)) (λ i. refuses 13 (Edge i)) e13) v h);
      }
