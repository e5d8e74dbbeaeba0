-- The layout of four records; then the names from where the fourth has them.
use native.Mathlib.Omega.{arith}
use Rattle.verdict.proofs.Answers.{handed_on}
use Rattle.sheet_names.specs.Labels.{Labelled}
use Rattle.sheet_names.proofs.Labels.{from_is, from-small, head-there, names-within, names_told}
use Rattle.sheet_names.proofs.labelled.Goals as goal

pub overflow_add-from : goal.overflow_add-from
overflow_add-from c = record { fits = omega (arith, from-small c.args.s.now c.in_ok-laid.laid c.in_ok-laid.ensures) }

pub u16_at-n-requires : goal.u16_at-n-requires
u16_at-n-requires c = head-there c.args.s.now c.in_ok-laid.laid c.in_ok-laid.ensures

pub names_out-requires : goal.names_out-requires
names_out-requires c = names-within c.args.s.now c.in_ok-laid.laid c.in_ok-laid.ensures c.u16_at-n.result c.u16_at-n.ensures

pub returns-in_err-test : goal.returns-in_err-test
returns-in_err-test c = handed_on (λ r. Labelled c.args.s.now r) _ _ c.from_residual-in_err-test.ensures (record {
  answer = names_told c.args.s.now c.in_ok-laid.laid c.in_ok-laid.ensures c.u16_at-n.result c.u16_at-n.ensures _ _ c.names_out.ensures c.in_err-test.ensures;
  from = tt;
})

pub returns : goal.returns
returns c = record {
  answer = names_told c.args.s.now c.in_ok-laid.laid c.in_ok-laid.ensures c.u16_at-n.result c.u16_at-n.ensures _ _ c.names_out.ensures c.in_ok-test.ensures;
  from = from_is c.args.s.now c.in_ok-laid.laid c.in_ok-laid.ensures;
}
