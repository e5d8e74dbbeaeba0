-- `judge_proposal`: lengths that pass by themselves are what the edges' sums ask.
use mathlib.Core.Path.{sym}
use lib.ListN.{length}
use Rattle.lengths.proofs.Checked.{→proper}
use Rattle.judging.proofs.judge_proposal.Goals as goal

pub check_sums-requires-clause-proper : goal.check_sums-requires-clause-proper
check_sums-requires-clause-proper c = →proper (length c.args.parents.now) c.args.d c.args.numerators.now (sym c.in_ok-check_lengths.ensures)
