-- The records in turn: `Past` is what each turn keeps.
use mathlib.Core.Path.{◌≡◌, refl, sym, ap, ap₂, ◌∙◌}
use lib.ListN.{length}
use Rattle.verdict.specs.Answer.{pass, answer_of}
use Rattle.records.specs.Form.{end_at, record_tests, records_tests}
use Rattle.records.specs.Laid.{Laid}
use native.Mathlib.Omega.{arith}
use Prim.Native.Nat.{◌+◌, ◌≤◌}
use Rattle.verdict.proofs.Answers.{handed_on}
use Rattle.records.proofs.InTurn.{past-none, past-turn, turn-refused, record-there, all_laid, laid-refused}
use Rattle.records.proofs.in_turn.Goals as goal
use Rattle.records.proofs.in_turn.Goals.{In_ok-one_record}

-- the record at hand passes
passed : (c : In_ok-one_record)
    → record_tests c.args.s.now c.loop-k.at c.kind_of.result ≡ pass
passed c = sym c.in_ok-one_record.ensures

there : (c : In_ok-one_record)
    → end_at c.args.s.now c.loop-k.at ≤ length c.args.s.now
there c = record-there _ _ _ (passed c)

pub loop-k-init : goal.loop-k-init
loop-k-init c = past-none _ _ _ c.filled-starts.ensures.throughout

pub returns-in_err-one_record : goal.returns-in_err-one_record
returns-in_err-one_record c = let s = c.args.s.now in
    let count = c.args.count in
    handed_on (Laid (records_tests s count) count s) _ _ c.from_residual.ensures
    (laid-refused (records_tests s count) count s _ (turn-refused c.loop-k.invariant _ _ _ c.kind_of.ensures.0 c.in_err-one_record.ensures refl c.loop-k-test.true))

pub overflow_add-at : goal.overflow_add-at
overflow_add-at c = omega (arith, there c)

pub u32_at-requires : goal.u32_at-requires
u32_at-requires c = omega (arith, there c)

pub overflow_add-at-in-loop-k : goal.overflow_add-at-in-loop-k
overflow_add-at-in-loop-k c = omega (arith, there (goal.at.overflow_add-at-in-loop-k c).In_ok-one_record)

pub loop-k-preserved : goal.loop-k-preserved
loop-k-preserved c = past-turn c.loop-k.invariant _ _ c.kind_of.ensures.0 (passed (goal.at.loop-k-preserved c).In_ok-one_record) (ap₂ ◌+◌ refl c.u32_at.ensures) (omega arith) (omega arith)

pub returns : goal.returns
returns c = all_laid c.loop-k.invariant c.loop-k-test.false (omega arith)
