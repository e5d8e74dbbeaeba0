-- The contract leaves one layout: two that meet it on the same bytes are equal.
use mathlib.Core.Path.{◌≡◌, sym, ap, ◌∙◌}
use mathlib.Core.List.{List}
use Prim.Native.Nat.{ℕ, ◌+◌}
use Rattle.std.specs.Prelude.{Result}
use Rattle.exact.specs.Table.{padded}
use Rattle.verdict.specs.Answer.{Answer}
use Rattle.verdict.specs.declared.Refusal.{Refusal}
use Rattle.verdict.proofs.Answers.{one_result}
use Rattle.records.specs.declared.Layout.{Layout}
use Rattle.records.specs.Form.{start_of, form_tests}
use Rattle.records.specs.Laid.{max_starts, Laid, LayoutAnswer}

abbrev Starts : ℕ → List ℕ → Layout → Type 0
Starts count s l = l.starts ≡ padded 0 max_starts (count + 1) (start_of s)

-- by whatever answer
pub one-laid : (t : Answer) (count : ℕ) (s : List ℕ) (a b : Result Layout Refusal) → Laid t count s a → Laid t count s b → a ≡ b
one-laid t count s a b p q =
    one_result (Starts count s) (Starts count s) (λ x y e f. ap as_layout (e ∙ sym f)) a b (p.answer ∙ sym q.answer) p.starts q.starts
  where
    as_layout : List ℕ → Layout
    as_layout l = record { starts = l }

pub one_layout : (count : ℕ) (s : List ℕ) (a b : Result Layout Refusal) → LayoutAnswer count s a → LayoutAnswer count s b → a ≡ b
one_layout count s a b p q = one-laid (form_tests count s) count s a b p q
