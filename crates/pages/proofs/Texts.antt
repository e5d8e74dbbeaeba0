-- The text of an answer.
-- `text-by-answer`: the print of a result is that of whatever gives the same answer. `fits_page`, `whole_page`, `small_page`: it ends within a page. `one-shown`: one text and one buffer.
use mathlib.Core.Path.{◌≡◌, refl, sym, ◌∙◌, ap}
use mathlib.Core.List.{List}
use Prim.Native.Nat.{ℕ, ◌≤◌, ◌<◌}
use native.Mathlib.Decide.{dec_lt}
use native.Mathlib.Omega.{arith}
use lib.ListN.{length}
use Rattle.exact.proofs.Decide.{by_cases}
use Rattle.verdict.specs.Answer.{Answer, pass, fault, answer_of}
use Rattle.verdict.specs.declared.Refusal.{Refusal}
use Rattle.std.specs.Prelude.{Result, Ok, Err, IfOk}
use Rattle.writing.specs.Text.{Wrote}
use Rattle.writing.proofs.Settled.{settled}
use Rattle.writing.proofs.Writing.{wrote-length}
use Rattle.lines.specs.Page.{page_size}
use Rattle.lines.proofs.Sizes.{refused-length}
use Rattle.answer_lines.specs.Texts.{by_answer, by_result}
use Rattle.pages.specs.Texts.{ShownOn}

-- ---- by the answer
pub text-by-answer : {A : Type 0} (print : A → List ℕ) (a : Answer) (fit : List ℕ) (r : Result A Refusal) → answer_of r ≡ a → IfOk r (λ x. print x ≡ fit) → by_result print r ≡ by_answer a fit
text-by-answer print a fit (Ok x) e same = same ∙ ap (λ (y : Answer). by_answer y fit) e
text-by-answer print a fit (Err q) e same = ap (λ (y : Answer). by_answer y fit) e

-- the print fits a page
pub fits_page : (a : Answer) (fit : List ℕ) → (a ≡ pass → length fit ≤ page_size) → length (by_answer a fit) ≤ page_size
fits_page pass fit h = h refl
fits_page (fault k p) fit h = refused-length k p

-- ---- at the front of a buffer of so many bytes or more
module _ (size : ℕ) (t before after : List ℕ) (next : ℕ) where
  pub whole_page : length t ≤ size → size ≤ length before → Wrote before after 0 t next → ShownOn size t before after next
  whole_page l h w = record {
    written = λ _. w;
    short = λ s. absurd (omega arith);
    within = omega (arith, w.place, wrote-length {b = before} {c = after} {at = 0} {m = next} {s = t} (omega arith) w);
  }

pub small_page : (size : ℕ) (t before : List ℕ) → length before < size → ShownOn size t before before 0
small_page size t before h = record { written = λ l. absurd (omega arith); short = λ _. (refl, refl); within = omega arith }

-- of any text: two lengths and two contents that meet the contract on the same buffer are equal
pub one-shown : (size : ℕ) (t before after after' : List ℕ) (next next' : ℕ) → ShownOn size t before after next → ShownOn size t before after' next' → (next ≡ next') × (after ≡ after')
one-shown size t before after after' next next' p q = by_cases (dec_lt (length before) size)
    (λ l. ((p.short l).0 ∙ sym (q.short l).0, (p.short l).1 ∙ sym (q.short l).1))
    (λ l. settled (p.written (omega arith)) (q.written (omega arith)))
