-- The form's refusal, or what the records hold.
use mathlib.Core.Path.{sym, ap, ◌∙◌}
use mathlib.Core.List.{List}
use Prim.Native.Nat.{ℕ}
use native.Mathlib.Omega.{arith}
use lib.ListN.{get_or}
use Rattle.verdict.proofs.Answers.{handed_on}
use Rattle.records.specs.Laid.{max_starts}
use Rattle.records.proofs.Decoding.{padded-before}
use Rattle.long_reading.specs.LongReads.{LongAnswer}
use Rattle.long_reading.proofs.Answered.{form-refused}
use Rattle.long_reading.proofs.read_long.Goals as goal

pub held-requires : goal.held-requires
held-requires c = let at = c.in_ok-laid.ensures.starts in (
  sym c.in_ok-laid.ensures.answer,
  ap (λ (l : List ℕ). get_or l 1 0) at ∙ padded-before 0 max_starts _ _ 1 (omega arith),
  ap (λ (l : List ℕ). get_or l 2 0) at ∙ padded-before 0 max_starts _ _ 2 (omega arith),
)

pub returns-in_err-laid : goal.returns-in_err-laid
returns-in_err-laid c = handed_on (LongAnswer c.args.s.now) _ _ c.from_residual.ensures (form-refused _ _ c.in_err-laid.ensures.answer)
