-- What `Lengths::new` gives: the lengths, where they are accepted.
use Rattle.std.specs.Prelude.{◌≡◌, List, ℕ, ℤ, pos, Result, IfOk, length, get_or}
use Rattle.exact.specs.Table.{table}
use Rattle.verdict.specs.Answer.{answer_of}
use Rattle.verdict.specs.declared.Refusal.{Refusal}
use Rattle.lengths.specs.declared.Lengths.{Lengths}
use Rattle.tree_theory.specs.Limits.{max_edges}
use Rattle.lengths.specs.Tests.{lengths_tests}

-- lengths that passed: the numerators, followed by zeros
pub record Kept (D : ℕ) (ns : List ℤ) (l : Lengths) : Type 0 where
  pub denominator : l.denominator ≡ D
  pub edges : l.edges ≡ length ns
  pub numerators : l.numerators ≡ table max_edges (λ v. get_or ns v (pos 0))

-- the whole answer
pub record LengthsAnswer (edges D : ℕ) (ns : List ℤ) (r : Result Lengths Refusal) : Type 0 where
  pub answer : answer_of r ≡ lengths_tests edges D ns
  pub kept : IfOk r (λ l. Kept D ns l)
