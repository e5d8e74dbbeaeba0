-- Each turn takes a piece off, and something of it.
use Rattle.shortest.proofs.passed_by.Goals as goal

pub loop-left-init : goal.loop-left-init
loop-left-init g c = tt

pub loop-left-preserved : goal.loop-left-preserved
loop-left-preserved g c = tt
