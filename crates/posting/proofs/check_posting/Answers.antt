-- `check_posting`: each by itself first; where a pair is missing, the edges.
use mathlib.Core.Path.{sym, ◌∙◌}
use Rattle.posting.proofs.Posting.{shaped, complete}
use Rattle.posting.proofs.check_posting.Goals as goal

pub check_seen-requires : goal.check_seen-requires
check_seen-requires c = let a = c.args in shaped a.n a.distances.now a.parents.now c.in_ok-missing.ensures.answer c.in_ok-check_tree.ensures

pub returns : goal.returns
returns c = let a = c.args in
    complete a.n a.distances.now a.parents.now c.in_ok-missing.ensures.answer c.in_ok-check_tree.ensures (sym c.in_ok-missing.ensures.some-missing ∙ c.if-missing.false)
