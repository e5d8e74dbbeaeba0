-- Each answer is that of its test.
use mathlib.Core.Path.{◌≡◌, sym, ◌∙◌}
use mathlib.Core.Bool.{Bool, true, false}
use Rattle.verdict.specs.declared.Place.TheVariants.{Byte}
use Rattle.verdict.specs.Answer.{test_at}
use Rattle.records.specs.Form.{body_out, record_tests}
use native.Mathlib.Omega.{arith}
use Rattle.records.proofs.InTurn.{head-cut, body_cut_lem, wrong-kind, by_body}
use Rattle.records.proofs.one_record.Goals as goal
use Rattle.records.proofs.one_record.Goals.{After-body_out}

-- past the head, the body decides
counted : (c : After-body_out) (out : Bool)
    → body_out c.args.s.now c.args.at c.args.kind ≡ out → test_at 4 (Byte c.args.at) out ≡ record_tests c.args.s.now c.args.at c.args.kind
counted c out e =
    by_body c.args.s.now c.args.at _ (omega arith) (omega arith) (sym c.u16_at.ensures ∙ c.if-u16_at-kind.false) out e

pub returns-then-left-lt-HEAD : goal.returns-then-left-lt-HEAD
returns-then-left-lt-HEAD c = head-cut c.args.s.now c.args.at _ (omega arith)

pub returns-then-left-u32_at : goal.returns-then-left-u32_at
returns-then-left-u32_at c = body_cut_lem c.args.s.now c.args.at _ (omega arith) (omega arith)

pub returns-then-u16_at-kind : goal.returns-then-u16_at-kind
returns-then-u16_at-kind c = wrong-kind c.args.s.now c.args.at _ (omega arith) (omega arith) (λ e. c.if-u16_at-kind.true (c.u16_at.ensures ∙ e))

pub returns-then-body_out : goal.returns-then-body_out
returns-then-body_out c = counted (goal.at.returns-then-body_out c).After-body_out true (sym c.body_out.ensures ∙ c.if-body_out.true)

pub returns : goal.returns
returns c = counted (goal.at.returns c).After-body_out false (sym c.body_out.ensures ∙ c.if-body_out.false)
