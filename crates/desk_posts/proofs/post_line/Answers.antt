-- N and the distances, then the parents.
use Rattle.desk_posts.proofs.Lining.{post-none, post-wrong, post-some}
use Rattle.desk_posts.proofs.post_line.Goals as goal

pub returns-in_err-front : goal.returns-in_err-front
returns-in_err-front c = rw c.from_residual.ensures (post-none _ _ _ c.in_err-front.ensures _)

pub returns-in_err-edges : goal.returns-in_err-edges
returns-in_err-edges c = rw c.from_residual-in_err-edges.ensures (post-wrong _ _ _ _ c.in_ok-front.ensures _ c.in_err-edges.ensures)

pub returns : goal.returns
returns c = post-some _ _ _ _ c.in_ok-front.ensures _ _ c.in_ok-edges.ensures
