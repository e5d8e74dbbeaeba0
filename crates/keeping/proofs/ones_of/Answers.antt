-- The array is filled from the front; its front is what is asked for.
use mathlib.Core.Path.{refl, ◌∙◌, ap}
use native.Mathlib.Omega.{arith}
use lib.ListN.{length, get_or, take, length-set}
use lib.Seq.{get_or-take, length-take-le}
use Rattle.exact.proofs.Fill.{fill_none, fill_more, length-table, table_is}
use Rattle.matrix.specs.Limits.{max_pairs}
use Rattle.correction_theory.specs.Kept.{one}
use Rattle.keeping.proofs.ones_of.Goals as goal

pub loop-k-init : goal.loop-k-init
loop-k-init c = (omega arith, ap length c.filled-held.ensures.throughout ∙ length-table max_pairs (λ _. 1), fill_none 0 _ _ _ (λ k. refl))

pub loop-k-preserved : goal.loop-k-preserved
loop-k-preserved c = (omega arith, simp length-set c.loop-k.invariant.1, fill_more 0 _ _ _ _ _ (omega arith) c.one_of.ensures c.loop-k.invariant.2)

pub returns : goal.returns
returns c = let ds = c.args.distances.now in (
  c.loop-k.invariant.1,
  table_is 0 (λ k. one (get_or ds k 0)) (length ds) (take (length ds) c.loop-k.held) (length-take-le (length ds) c.loop-k.held (omega arith))
      (λ k h. get_or-take (length ds) c.loop-k.held k 0 h ∙ c.loop-k.invariant.2.below k (omega arith)),
)
