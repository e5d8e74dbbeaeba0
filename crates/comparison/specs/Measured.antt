-- The tree length of a sheet, as a fraction.
use Rattle.std.specs.Prelude.{◌≡◌, List, ℕ, ◌≤◌, nat_abs, Result, IfOk}
use Rattle.verdict.specs.Answer.{answer_of}
use Rattle.verdict.specs.declared.Refusal.{Refusal}
use Rattle.verdict.specs.declared.Rule.TheVariants.{Plain}
use Rattle.lengths.specs.Limits.{max_denominator}
use Rattle.fit_theory.specs.Quantities.{tree_length}
use Rattle.reading.specs.Holds.{denominator_of, numerators_of}
use Rattle.reading.specs.Tests.{sheet_tests}
use Rattle.reporting.specs.Answers.{max_tree_length}
use Rattle.comparison.specs.declared.TreeLength.{TreeLength}

-- of an accepted sheet: the sum of its numerators over its denominator, and how large the two can be
pub record LengthOf (s : List ℕ) (r : TreeLength) : Type 0 where
  pub total : r.numerator ≡ tree_length (numerators_of s)
  pub over : r.denominator ≡ denominator_of s
  pub near : nat_abs r.numerator ≤ max_tree_length
  pub one : 1 ≤ r.denominator
  pub most : r.denominator ≤ max_denominator

-- the answer to a sheet; its tree length where it is accepted
pub record Measured (s : List ℕ) (r : Result TreeLength Refusal) : Type 0 where
  pub answer : answer_of r ≡ sheet_tests Plain s
  pub length : IfOk r (λ x. LengthOf s x)
