-- `resolved_lengths`: the number and the buffers of `fit_resolved`.
use Rattle.direct_fit.proofs.Chosen.{lengths-told}
use Rattle.direct_fit.proofs.resolved_lengths.Goals as goal

pub returns : goal.returns
returns c = lengths-told _ _ _ _ _ _ _ _ _ _ c.fit_resolved-found.result c.fit_resolved-found.ensures c.number.ensures
