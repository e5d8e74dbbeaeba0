-- What a writer hands back by its answer, for any matter and any text; and that this leaves one result.
use mathlib.Core.Path.{◌≡◌, refl, sym, ◌∙◌, ap}
use mathlib.Core.List.{List}
use Prim.Native.Nat.{ℕ}
use Rattle.exact.proofs.Decide.{by_cases}
use Rattle.verdict.specs.Answer.{Answer, number, reason_number}
use Rattle.std.specs.Prelude.{Result, Ok, Err}
use Rattle.verdict.specs.declared.Refusal.{Refusal}
use Rattle.verdict.proofs.Answers.{passes, same_refusal, not_pass}
use Rattle.writing.proofs.Settled as one
use Rattle.newick_write.specs.Answers.{Told, ToldNumber}

-- ---- the number
module _ (a : Answer) (text before after : List ℕ) where
  pub number-refused : (was : ℕ) (r : Refusal) → Told a text before after (Err r) → ToldNumber a text before after was was (reason_number r.reason)
  number-refused was r t = record {
    number_is = ap number t.answer;
    written = λ p. absurd (not_pass r (t.answer ∙ p));
    kept = λ _. (t.kept, refl);
  }

  pub number_passed : (was next : ℕ) → Told a text before after (Ok next) → ToldNumber a text before after was next 0
  number_passed was next t = record {
    number_is = ap number t.answer;
    written = λ _. t.written;
    kept = λ no. absurd (no (sym t.answer));
  }

-- ---- one answer, one length and one content of the buffer
pub settled : {a : Answer} {text before after after' : List ℕ} {r s : Result ℕ Refusal} → Told a text before after r → Told a text before after' s
    → (r ≡ s) × (after ≡ after')
settled {r = Ok x} {s = Ok y} p q = let w = one.settled p.written q.written in (ap Ok w.0, w.1)
settled {r = Ok x} {s = Err g} p q = absurd (not_pass g (q.answer ∙ sym p.answer))
settled {r = Err f} {s = Ok y} p q = absurd (not_pass f (p.answer ∙ sym q.answer))
settled {r = Err f} {s = Err g} p q = (ap Err (same_refusal f g (p.answer ∙ sym q.answer)), p.kept ∙ sym q.kept)

pub settled-number : {a : Answer} {text before after after' : List ℕ} {was is is' r s : ℕ} → ToldNumber a text before after was is r → ToldNumber a text before after' was is' s
    → (r ≡ s) × (is ≡ is') × (after ≡ after')
settled-number {a} {text} {before} {after} {after'} {was} {is} {is'} {r} {s} p q =
    let same = p.number_is ∙ sym q.number_is in
    by_cases (passes a)
    (λ h. let w = one.settled (p.written h) (q.written h) in (same, w.0, w.1))
    (λ h. let x = p.kept h in let y = q.kept h in (same, x.1 ∙ sym y.1, x.0 ∙ sym y.0))
