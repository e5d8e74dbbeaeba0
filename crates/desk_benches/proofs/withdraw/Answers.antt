-- The bench's tests decide, and what is left in its name is no table.
use Rattle.verdict.proofs.Answers.{handed_on}
use Rattle.desk_theory.specs.Desk.{withdraw}
use Rattle.desk.specs.Held.{Steps}
use Rattle.desk_benches.proofs.Proposals.{withdrawal_refused}
use Rattle.desk_benches.proofs.withdraw.Goals as goal

pub returns-in_err-standing : goal.returns-in_err-standing
returns-in_err-standing c = handed_on (Steps c.args.desk (withdraw c.args.bench)) _ _ c.from_residual.ensures
    (withdrawal_refused c.args.desk c.args.bench c.requires _ c.in_err-standing.ensures)
