-- The contract of `check_names` leaves one result: two that meet it on the same bytes are equal.
use mathlib.Core.Path.{◌≡◌, sym, ◌∙◌}
use mathlib.Core.List.{List}
use Prim.Native.Nat.{ℕ}
use Rattle.std.specs.Prelude.{Result}
use Rattle.verdict.specs.declared.Refusal.{Refusal}
use Rattle.verdict.proofs.Answers.{one_result}
use Rattle.names.specs.Record.{record_count, NamesAnswer}

pub one-named : (s : List ℕ) (a b : Result ℕ Refusal) → NamesAnswer s a → NamesAnswer s b → a ≡ b
one-named s a b p q = one_result (λ n. n ≡ record_count s) (λ n. n ≡ record_count s) (λ _ _ e f. e ∙ sym f) a b (p.answer ∙ sym q.answer) p.count q.count
