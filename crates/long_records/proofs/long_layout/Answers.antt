-- The answer by what each record leaves: `Laying`.
use mathlib.Core.Path.{◌≡◌, refl, sym, ap, ap₂, ◌∙◌}
use mathlib.Core.List.{List}
use Prim.Native.Nat.{ℕ, ◌+◌, ◌≤◌}
use native.Mathlib.Omega.{arith}
use lib.ListN.{length, get_or}
use Rattle.verdict.specs.Answer.{pass}
use Rattle.verdict.proofs.Answers.{handed_on}
use Rattle.records.specs.Form.{long_kind, start_of, end_at, record_tests, records_tests}
use Rattle.records.specs.Laid.{Laid}
use Rattle.records.proofs.InTurn.{next_start, record-there, starts-within}
use Rattle.records.proofs.Whole.{laid-at}
use Rattle.long_records.specs.LongForm.{long_form_tests}
use Rattle.long_records.proofs.Laying.{too_long, pair-refused, third-refused, bytes_left, all_read}
use Rattle.long_records.proofs.long_layout.Goals as goal
use Rattle.long_records.proofs.long_layout.Goals.{After-u32_at, In_ok-laid, In_ok-one_record}

-- the matrix and the tree pass, and the third record starts behind them
passed : (c : In_ok-laid) → records_tests c.args.s.now 2 ≡ pass
passed c = sym c.in_ok-laid.ensures.answer

third : (c : In_ok-laid) → get_or c.in_ok-laid.laid.starts 2 0 ≡ start_of c.args.s.now 2
third c = laid-at _ _ _ _ c.in_ok-laid.ensures 2 (omega arith)

-- it passes, and ends where the sheet's third record does
whole : (c : In_ok-one_record) → record_tests c.args.s.now (start_of c.args.s.now 2) long_kind ≡ pass
whole c =
    ap (λ (a : ℕ). record_tests c.args.s.now a long_kind) (sym (third (goal.at.In_ok-one_record c).In_ok-laid)) ∙ sym c.in_ok-one_record.ensures

there : (c : In_ok-one_record) → end_at c.args.s.now (get_or c.in_ok-laid.laid.starts 2 0) ≤ length c.args.s.now
there c =
    rw (third (goal.at.In_ok-one_record c).In_ok-laid) (record-there c.args.s.now (start_of c.args.s.now 2) long_kind (whole c))

ends : (c : After-u32_at) → get_or c.in_ok-laid.laid.starts 2 0 + 6 + c.u32_at.result ≡ start_of c.args.s.now 3
ends c =
    ap₂ ◌+◌ refl c.u32_at.ensures ∙ ap (end_at c.args.s.now) (third (goal.at.After-u32_at c).In_ok-laid) ∙ sym (next_start c.args.s.now 2)

pub returns-then-s-gt-MAX_LONG : goal.returns-then-s-gt-MAX_LONG
returns-then-s-gt-MAX_LONG c = too_long _ c.if-s-gt-MAX_LONG.true

pub returns-in_err-laid : goal.returns-in_err-laid
returns-in_err-laid c = let s = c.args.s.now in
    handed_on (Laid (long_form_tests s) 3 s) _ _ c.from_residual.ensures (pair-refused _ c.if-s-gt-MAX_LONG.false _ c.in_err-laid.ensures.answer)

pub one_record-requires : goal.one_record-requires
one_record-requires c = let p = (goal.at.one_record-requires c).In_ok-laid in
    (omega arith, omega arith, omega (arith, third p, starts-within c.args.s.now 2 (passed p)))

pub returns-in_err-one_record : goal.returns-in_err-one_record
returns-in_err-one_record c = let s = c.args.s.now in
    let p = (goal.at.returns-in_err-one_record c).In_ok-laid in
    handed_on (Laid (long_form_tests s) 3 s) _ _ c.from_residual-in_err-one_record.ensures
    (third-refused _ c.if-s-gt-MAX_LONG.false (passed p) _ (third p) _ c.in_err-one_record.ensures)

pub overflow_add-end : goal.overflow_add-end
overflow_add-end c = omega (arith, there c)

pub u32_at-requires : goal.u32_at-requires
u32_at-requires c = omega (arith, there c)

pub overflow_add-end-2 : goal.overflow_add-end-2
overflow_add-end-2 c = omega (arith, there (goal.at.overflow_add-end-2 c).In_ok-one_record, c.u32_at.ensures)

pub returns-then-end-s : goal.returns-then-end-s
returns-then-end-s c = let g = goal.at.returns-then-end-s c in
    bytes_left _ c.if-s-gt-MAX_LONG.false (passed g.In_ok-laid) (whole g.In_ok-one_record) _ (ends g.After-u32_at) c.if-end-s.true

pub returns : goal.returns
returns c = let g = goal.at.returns c in
    all_read _ c.if-s-gt-MAX_LONG.false (passed g.In_ok-laid) (whole g.In_ok-one_record) _ (ends g.After-u32_at) c.if-end-s.false _ c.in_ok-laid.ensures.starts
