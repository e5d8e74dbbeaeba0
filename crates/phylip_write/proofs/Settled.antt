-- The contracts leave one answer, one length and one content of the buffer for every matrix and names: two results that meet them are the
-- same.
use mathlib.Core.Path.{◌≡◌, sym, ◌∙◌, ap}
use mathlib.Core.List.{List}
use Prim.Native.Nat.{ℕ}
use lib.ListN.{length}
use Rattle.exact.proofs.Decide.{by_cases}
use Rattle.std.specs.Prelude.{Result, Ok, Err}
use Rattle.verdict.specs.declared.Refusal.{Refusal}
use Rattle.verdict.proofs.Answers.{passes, not_pass, same_refusal}
use Rattle.writing.proofs.Settled as one
use Rattle.phylip_text.specs.Tests.{write_tests}
use Rattle.phylip_write.specs.Answers.{WriteAnswer, NumberAnswer}

pub settled : {N : ℕ} {ds names before after after' : List ℕ} {r s : Result ℕ Refusal} → WriteAnswer N ds names before after r → WriteAnswer N ds names before after' s
    → (r ≡ s) × (after ≡ after')
settled {r = Ok x} {s = Ok y} p q = let w = one.settled p.written q.written in (ap Ok w.0, w.1)
settled {r = Ok x} {s = Err g} p q = absurd (not_pass g (q.answer ∙ sym p.answer))
settled {r = Err f} {s = Ok y} p q = absurd (not_pass f (p.answer ∙ sym q.answer))
settled {r = Err f} {s = Err g} p q = (ap Err (same_refusal f g (p.answer ∙ sym q.answer)), p.kept ∙ sym q.kept)

pub settled-number : {N : ℕ} {ds names before after after' : List ℕ} {was is is' r s : ℕ} → NumberAnswer N ds names before after was is r → NumberAnswer N ds names before after' was is' s
    → (r ≡ s) × (is ≡ is') × (after ≡ after')
settled-number {N} {ds} {names} {before} {after} {after'} {was} {is} {is'} {r} {s} p q = let same = p.number_is ∙ sym q.number_is in
    by_cases (passes (write_tests N ds names (length before)))
    (λ h. let w = one.settled (p.written h) (q.written h) in (same, w.0, w.1))
    (λ h. let a = p.kept h in let b = q.kept h in (same, a.1 ∙ sym b.1, a.0 ∙ sym b.0))
