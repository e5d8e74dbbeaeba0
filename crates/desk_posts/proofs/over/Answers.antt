-- No word begins where the next would.
use Rattle.desk_posts.proofs.Lining.{over-is}
use Rattle.desk_posts.proofs.over.Goals as goal

pub returns : goal.returns
returns c = over-is _ _ _ c.word_at-next.ensures
