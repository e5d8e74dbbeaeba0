-- What was written is the text that the verdict asks for: `shows-refusal`, `shows-accepted`.
use mathlib.Core.Path.{◌≡◌, sym, ◌∙◌, ap, subst}
use mathlib.Core.List.{List}
use Prim.Native.Nat.{ℕ}
use Rattle.verdict.specs.Answer.{answer_of, reason_number}
use Rattle.verdict.specs.declared.Refusal.{Refusal}
use Rattle.verdict.specs.Answer.{Verdict}
use Rattle.std.specs.Prelude.{Ok, Err}
use Rattle.writing.specs.Text.{Wrote}
use Rattle.lines.specs.Lines.{refused_line}
use Rattle.answer_lines.specs.Texts.{by_answer}

module _ (v : Verdict) (fit before after : List ℕ) (next : ℕ) where
  pub shows-refusal : (r : Refusal) (number : ℕ) → v ≡ Err r → number ≡ reason_number r.reason
      → Wrote before after 0 (refused_line number r.place) next → Wrote before after 0 (by_answer (answer_of v) fit) next
  shows-refusal r number e f w =
      subst (λ (t : List ℕ). Wrote before after 0 t next) (ap (λ (k : ℕ). refused_line k r.place) f ∙ sym (ap (λ (u : Verdict). by_answer (answer_of u) fit) e)) w

  pub shows-accepted : v ≡ Ok tt → Wrote before after 0 fit next → Wrote before after 0 (by_answer (answer_of v) fit) next
  shows-accepted e w = subst (λ (t : List ℕ). Wrote before after 0 t next) (sym (ap (λ (u : Verdict). by_answer (answer_of u) fit) e)) w
