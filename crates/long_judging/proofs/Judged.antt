-- The number of a verdict says whether the lengths stand (`long-judged`), and leaves one verdict (`one-long_verdict`).
use mathlib.Core.Path.{◌≡◌, sym, ◌∙◌, ap}
use mathlib.Core.List.{List}
use Prim.Native.Nat.{ℕ}
use lib.IntN.{ℤ}
use Rattle.verdict.specs.Answer.{answer_of}
use Rattle.verdict.specs.Answer.{Verdict}
use Rattle.std.specs.Prelude.{Ok}
use Rattle.verdict.specs.declared.Rule.{Rule}
use Rattle.verdict.proofs.Answers.{same_answer}
use Rattle.long_theory.specs.Tests.{long_tests}
use Rattle.long_theory.proofs.Exactly.{long_stands→, →long_stands}
use Rattle.long_judging.specs.Answers.{LongJudged}

module _ (rule : Rule) (N : ℕ) (ds ps Ds : List ℕ) (ns : List ℤ) where
  pub long-judged : (r : Verdict) → answer_of r ≡ long_tests rule N ds ps Ds ns → LongJudged rule N ds ps Ds ns r
  long-judged r e = record {
    answer = e;
    accepted = λ q. →long_stands rule N ds ps Ds ns (sym e ∙ ap answer_of q);
    stands = λ s. same_answer r (Ok tt) (e ∙ long_stands→ rule N ds ps Ds ns s);
  }

  pub one-long_verdict : (r r' : Verdict) → LongJudged rule N ds ps Ds ns r → LongJudged rule N ds ps Ds ns r' → r ≡ r'
  one-long_verdict r r' a b = same_answer r r' (a.answer ∙ sym b.answer)
