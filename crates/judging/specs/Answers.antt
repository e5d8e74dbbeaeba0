-- What the verdict says: its number, and that it is accepted exactly where the proposal stands.
use Rattle.std.specs.Prelude.{◌≡◌, List, ℕ, ℤ}
use Rattle.verdict.specs.Answer.{answer_of}
use Rattle.verdict.specs.Answer.{Verdict}
use Rattle.std.specs.Prelude.{Ok}
use Rattle.verdict.specs.declared.Rule.{Rule}
use Rattle.fit_theory.specs.Stands.{Stands}
use Rattle.fit_theory.specs.Tests.{judge_tests}

pub record JudgeAnswer (rule : Rule) (N : ℕ) (ds ps : List ℕ) (D : ℕ) (ns : List ℤ) (r : Verdict) : Type 0 where
  pub answer : answer_of r ≡ judge_tests rule N ds ps D ns
  pub accepted : r ≡ Ok tt → Stands rule N ds ps D ns
  pub stands : Stands rule N ds ps D ns → r ≡ Ok tt
