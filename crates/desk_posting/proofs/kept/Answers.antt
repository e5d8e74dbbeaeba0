-- Copies, with zeros behind, and the sums and counts worked afresh.
use Rattle.desk_posting.proofs.Postings.{copied_keeps}
use Rattle.desk_posting.proofs.kept.Goals as goal

pub returns : goal.returns
returns c = copied_keeps c.args.n c.args.distances.now c.args.parents.now c.requires c.copied.result c.copied-2.result c.fresh-beside.result.sums c.fresh-beside.result.counts c.copied.ensures c.copied-2.ensures c.fresh-beside.ensures
