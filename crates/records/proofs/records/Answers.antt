-- The answer by what the records in turn leave.
use mathlib.Core.Path.{◌≡◌, sym, ◌∙◌}
use Prim.Native.Nat.{◌<◌}
use native.Mathlib.Omega.{arith}
use lib.ListN.{get_or}
use Rattle.verdict.specs.Answer.{pass}
use Rattle.verdict.proofs.Answers.{handed_on}
use Rattle.records.specs.Form.{start_of, records_tests, names_differ}
use Rattle.records.specs.Laid.{LayoutAnswer}
use Rattle.records.proofs.Whole.{differ-is, names-there, laid-at, too_long, record-refused, names-refused, bytes_left, all_read}
use Rattle.records.proofs.records.Goals as goal
use Rattle.records.proofs.records.Goals.{After-names_differ, In_ok-laid}

-- all records pass, and were laid where they start
passed : (c : In_ok-laid) → records_tests c.args.s.now c.args.count ≡ pass
passed c = sym c.in_ok-laid.ensures.answer

fourth : (c : In_ok-laid) → 3 < c.args.count → get_or c.in_ok-laid.laid.starts 3 0 ≡ start_of c.args.s.now 3
fourth c l = laid-at _ _ _ _ c.in_ok-laid.ensures 3 (omega arith)

-- what the count of the names tells
told : (c : After-names_differ) → c.names_differ.result ≡ names_differ c.args.count c.args.s.now
told c = c.names_differ.ensures ∙ differ-is _ _ _ (fourth (goal.at.After-names_differ c).In_ok-laid)

pub returns-then-s-limit : goal.returns-then-s-limit
returns-then-s-limit c = too_long _ _ (omega (arith, c.limit.ensures))

pub returns-in_err-laid : goal.returns-in_err-laid
returns-in_err-laid c = handed_on (LayoutAnswer c.args.count c.args.s.now) _ _ c.from_residual.ensures
    (record-refused _ _ (omega (arith, c.limit.ensures)) _ c.in_err-laid.ensures.answer)

pub names_differ-requires : goal.names_differ-requires
names_differ-requires c = let p = (goal.at.names_differ-requires c).In_ok-laid in names-there _ _ _ (fourth p) (passed p)

pub returns-then-names_differ : goal.returns-then-names_differ
returns-then-names_differ c = let p = (goal.at.returns-then-names_differ c).In_ok-laid in
    names-refused _ _ (omega (arith, c.limit.ensures)) (passed p) _ (fourth p) (sym (told (goal.at.returns-then-names_differ c).After-names_differ) ∙ c.if-names_differ.true)

pub returns-then-end-s : goal.returns-then-end-s
returns-then-end-s c = let p = (goal.at.returns-then-end-s c).In_ok-laid in
    bytes_left _ _ (omega (arith, c.limit.ensures)) (passed p) (sym (told (goal.at.returns-then-end-s c).After-names_differ) ∙ c.if-names_differ.false) _
    (laid-at _ _ _ _ c.in_ok-laid.ensures _ (omega arith)) c.if-end-s.true

pub returns : goal.returns
returns c = let p = (goal.at.returns c).In_ok-laid in
    all_read _ _ (omega (arith, c.limit.ensures)) (passed p) (sym (told (goal.at.returns c).After-names_differ) ∙ c.if-names_differ.false) _
    (laid-at _ _ _ _ c.in_ok-laid.ensures _ (omega arith)) c.if-end-s.false _ c.in_ok-laid.ensures
