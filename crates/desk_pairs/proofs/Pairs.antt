-- What was written is what the bench's tests ask for: the line of the refusal (`pairs-refused`), or the pairs (`pairs_stand`).
use mathlib.Core.Path.{◌≡◌, sym, ◌∙◌, ap, ap₂, subst}
use mathlib.Core.List.{List}
use Prim.Native.Nat.{ℕ}
use Rattle.std.specs.Prelude.{Option, Some, Ok, Err}
use Rattle.verdict.specs.Answer.{Answer, reason_number}
use Rattle.verdict.specs.declared.Refusal.{Refusal}
use Rattle.writing.specs.Text.{Wrote}
use Rattle.lines.specs.Lines.{refused_line}
use Rattle.answer_lines.specs.Texts.{by_answer}
use Rattle.desk.specs.declared.Posted.{Posted}
use Rattle.desk.specs.declared.Table.{Table}
use Rattle.desk.specs.declared.Desk.{Desk}
use Rattle.desk.specs.declared.Standing.{Standing}
use Rattle.desk.specs.Held.{StandsFor}
use Rattle.desk_pairs.specs.Pairs.{table_pairs, its_pairs, shown_pairs, pairs_on}

module _ (d : Desk) (b : ℕ) (before after : List ℕ) (next : ℕ) where
  pub pairs-refused : (r : Refusal) (number : ℕ) → StandsFor d b (Err r) → number ≡ reason_number r.reason → Wrote before after 0 (refused_line number r.place) next
      → Wrote before after 0 (pairs_on d b) next
  pairs-refused r number g f w = subst (λ (t : List ℕ). Wrote before after 0 t next)
      (ap (λ (k : ℕ). refused_line k r.place) f ∙ ap (λ (a : Answer). by_answer a (shown_pairs d.posted b)) g.answer) w

  pub pairs_stand : (s : Standing) → StandsFor d b (Ok s) → Wrote before after 0 (table_pairs s.posted.posting s.table) next → Wrote before after 0 (pairs_on d b) next
  pairs_stand s g w = subst (λ (t : List ℕ). Wrote before after 0 t next)
      (ap (its_pairs s.posted.posting) (sym g.standing.table) ∙ ap₂ (λ (p : Option Posted) (a : Answer). by_answer a (shown_pairs p b)) (sym g.standing.posted) g.answer) w
