-- By whether it applies.
use mathlib.Core.Path.{sym, ap}
use Rattle.verdict.specs.Answer.{test, reason_number}
use Rattle.refusing.proofs.test.Goals as goal

pub returns-then-applies : goal.returns-then-applies
returns-then-applies c = sym (ap (test (reason_number c.args.reason)) c.if-applies.true)

pub returns : goal.returns
returns c = sym (ap (test (reason_number c.args.reason)) c.if-applies.false)
