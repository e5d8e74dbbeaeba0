-- `crossed`: either mask may be gone through strain by strain.
use Rattle.std.proofs.Common.{◌∙◌, ap₂}
use Rattle.splits.proofs.Swapping.{across, across_swap, swap_apart, across-back}
use Rattle.splits.proofs.crossed.Goals as goal
use Rattle.splits.proofs.crossed.Goals.{then-there-wrapping_sub_u64-eq0, else-there-wrapping_sub_u64-eq0}

pub rows_between-requires-clause-by_index : goal.rows_between-requires-clause-by_index
rows_between-requires-clause-by_index c = elim c.if-there-wrapping_sub_u64-eq0.branch [
  | then-there-wrapping_sub_u64-eq0 w ↦ rw (w.each-is, w.others-is) (swap_apart c.args.distances.now c.args.here c.args.there c.requires.by_index)
  | else-there-wrapping_sub_u64-eq0 w ↦ rw (w.each-is, w.others-is) c.requires.by_index
]

pub returns : goal.returns
returns c =
    let ds = c.args.distances.now in
    let j = c.if-there-wrapping_sub_u64-eq0 in
    across-back ds c.requires.by_index_2 c.args.here c.args.there j.each j.others c.rows_between.result c.rows_between.ensures (elim j.branch [
      | then-there-wrapping_sub_u64-eq0 w ↦ ap₂ (across ds) w.each-is w.others-is ∙ across_swap ds c.args.there c.args.here
      | else-there-wrapping_sub_u64-eq0 w ↦ ap₂ (across ds) w.each-is w.others-is
    ])
