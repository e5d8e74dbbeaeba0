-- The number of a verdict says whether the proposal stands (`judged`), and leaves one verdict (`one_verdict`).
use mathlib.Core.Path.{◌≡◌, sym, ◌∙◌, ap}
use mathlib.Core.List.{List}
use Prim.Native.Nat.{ℕ}
use lib.IntN.{ℤ}
use Rattle.verdict.specs.Answer.{answer_of}
use Rattle.verdict.specs.Answer.{Verdict}
use Rattle.std.specs.Prelude.{Ok}
use Rattle.verdict.specs.declared.Rule.{Rule}
use Rattle.verdict.proofs.Answers.{same_answer}
use Rattle.fit_theory.specs.Tests.{judge_tests}
use Rattle.fit_theory.proofs.Exactly.{stands→, →stands}
use Rattle.judging.specs.Answers.{JudgeAnswer}

module _ (rule : Rule) (N : ℕ) (ds ps : List ℕ) (D : ℕ) (ns : List ℤ) where
  pub judged : (r : Verdict) → answer_of r ≡ judge_tests rule N ds ps D ns → JudgeAnswer rule N ds ps D ns r
  judged r e = record {
    answer = e;
    accepted = λ q. →stands rule N ds ps D ns (sym e ∙ ap answer_of q);
    stands = λ s. same_answer r (Ok tt) (e ∙ stands→ rule N ds ps D ns s);
  }

  pub one_verdict : (r r' : Verdict) → JudgeAnswer rule N ds ps D ns r → JudgeAnswer rule N ds ps D ns r' → r ≡ r'
  one_verdict r r' a b = same_answer r r' (a.answer ∙ sym b.answer)
