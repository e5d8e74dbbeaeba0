-- What the reader of records gives: its answer, and, where that passes, where each record starts and where the last one ends.
use Rattle.std.specs.Prelude.{◌≡◌, List, ℕ, ◌+◌, Result, IfOk}
use Rattle.exact.specs.Table.{padded}
use Rattle.verdict.specs.Answer.{Answer, answer_of}
use Rattle.verdict.specs.declared.Refusal.{Refusal}
use Rattle.records.specs.declared.Layout.{Layout}
use Rattle.records.specs.Form.{max_records, start_of, form_tests}

-- as many places as there are records, and the end
abbrev pub max_starts : ℕ
max_starts = max_records + 1

-- an answer that so many records get, with their starts
pub record Laid (a : Answer) (count : ℕ) (s : List ℕ) (r : Result Layout Refusal) : Type 0 where
  pub answer : answer_of r ≡ a
  pub starts : IfOk r (λ l. l.starts ≡ padded 0 max_starts (count + 1) (start_of s))

-- the answer to the form
abbrev pub LayoutAnswer : ℕ → List ℕ → Result Layout Refusal → Type 0
LayoutAnswer count s r = Laid (form_tests count s) count s r
