-- What `write` and `phylip_write` hand back: for every matrix and names the answer, the length of the text, and the whole buffer.
use Rattle.std.specs.Prelude.{◌≡◌, List, ℕ, length, Result, IfOk, IfErr}
use Rattle.verdict.specs.declared.Refusal.{Refusal}
use Rattle.verdict.specs.Answer.{pass, number, answer_of}
use Rattle.writing.specs.Text.{Wrote}
use Rattle.phylip_text.specs.Tests.{write_tests}
use Rattle.phylip_text.specs.Text.{text_of}

-- the text at the front of the buffer, everything behind it as it was; a refusal leaves the buffer as it was
pub record WriteAnswer (N : ℕ) (ds names before after : List ℕ) (r : Result ℕ Refusal) : Type 0 where
  pub answer : answer_of r ≡ write_tests N ds names (length before)
  pub written : IfOk r (λ next. Wrote before after 0 (text_of N ds names) next)
  pub kept : IfErr r (λ _. after ≡ before)

-- the same with the number, and the length lent beside it
pub record NumberAnswer (N : ℕ) (ds names before after : List ℕ) (was is : ℕ) (r : ℕ) : Type 0 where
  pub number_is : r ≡ number (write_tests N ds names (length before))
  pub written : write_tests N ds names (length before) ≡ pass → Wrote before after 0 (text_of N ds names) is
  pub kept : (write_tests N ds names (length before) ≡ pass → ⊥) → (after ≡ before) × (is ≡ was)
