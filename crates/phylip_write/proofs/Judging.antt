-- What passes has as many distances, name bytes and strains as the text takes, and a buffer far longer than it.
use mathlib.Core.Path.{◌≡◌, refl, sym, ◌∙◌, ap}
use mathlib.Core.Bool.{not}
use mathlib.Core.List.{List}
use Prim.Native.Nat.{ℕ, ◌≤◌}
use native.Mathlib.Omega.{arith}
use borrow.Author.Tests.{eqb-true, not-false}
use lib.Dec.{eqb}
use lib.ListN.{length}
use Rattle.verdict.specs.Answer.{pass, number, reason_number, test}
use Rattle.std.specs.Prelude.{Ok, Err}
use Rattle.verdict.specs.declared.Refusal.{Refusal}
use Rattle.verdict.proofs.Answers.{or_else_pass, test-pass, not_pass}
use Rattle.phylip_text.specs.Tests.{max_text, matter_tests, write_tests}
use Rattle.phylip_text.specs.Text.{widest_text}
use Rattle.phylip_text.proofs.RoundTrip.{Writable, writable}
use Rattle.phylip_write.specs.Answers.{WriteAnswer, NumberAnswer}

-- what may be written
pub record Fit (N : ℕ) (ds names before : List ℕ) : Type 0 where
  pub proper : Writable N ds names
  pub room : widest_text ≤ length before

pub fit : (N : ℕ) (ds names before : List ℕ) → write_tests N ds names (length before) ≡ pass → Fit N ds names before
fit N ds names before p =
    let q = or_else_pass (matter_tests N ds names) (test 15 (not (eqb (length before) max_text))) p in
    let e : length before ≡ max_text = eqb-true (length before) max_text (not-false _ (test-pass 15 (not (eqb (length before) max_text)) q.1)) in
    record { proper = writable N ds names q.0; room = omega (arith, e) }

-- what is accepted passes every test
pub ready : (N : ℕ) (ds names before : List ℕ) → pass ≡ write_tests N ds names (length before) → Fit N ds names before
ready N ds names before e = fit N ds names before (sym e)

-- ---- the number
module _ (N : ℕ) (ds names before after : List ℕ) where
  pub number-refused : (was : ℕ) (r : Refusal) → WriteAnswer N ds names before after (Err r) → NumberAnswer N ds names before after was was (reason_number r.reason)
  number-refused was r a = record {
    number_is = ap number a.answer;
    written = λ p. absurd (not_pass r (a.answer ∙ p));
    kept = λ _. (a.kept, refl);
  }

  pub number_passed : (was next : ℕ) → WriteAnswer N ds names before after (Ok next) → NumberAnswer N ds names before after was next 0
  number_passed was next a = record {
    number_is = ap number a.answer;
    written = λ _. a.written;
    kept = λ no. absurd (no (sym a.answer));
  }
