-- What the verdict on lengths in digits says: its number, and that it is accepted exactly where they stand.
use Rattle.std.specs.Prelude.{◌≡◌, List, ℕ, ℤ}
use Rattle.verdict.specs.Answer.{answer_of}
use Rattle.verdict.specs.Answer.{Verdict}
use Rattle.std.specs.Prelude.{Ok}
use Rattle.verdict.specs.declared.Rule.{Rule}
use Rattle.long_theory.specs.Long.{LongStands}
use Rattle.long_theory.specs.Tests.{long_tests}

pub record LongJudged (rule : Rule) (N : ℕ) (ds ps Ds : List ℕ) (ns : List ℤ) (r : Verdict) : Type 0 where
  pub answer : answer_of r ≡ long_tests rule N ds ps Ds ns
  pub accepted : r ≡ Ok tt → LongStands rule N ds ps Ds ns
  pub stands : LongStands rule N ds ps Ds ns → r ≡ Ok tt
