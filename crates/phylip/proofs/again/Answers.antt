-- The buffers have room for as many strains as a matrix may have, and their fronts are of the size that the count asks for.
use mathlib.Core.Path.{ap, ◌∙◌}
use native.Mathlib.Omega.{arith}
use lib.ListN.{length}
use Rattle.exact.proofs.Fill.{length-table}
use Rattle.matrix.specs.Limits.{max_pairs}
use Rattle.matrix.proofs.Places.{pairs-few}
use Rattle.phylip.proofs.Rewriting.{strains-few}
use Rattle.phylip.proofs.again.Goals as goal

pub overflow_cast-n : goal.overflow_cast-n
overflow_cast-n c = record { fits = omega (arith, c.strains_for-n.ensures, strains-few c.args.text.now) }

pub overflow_mul-bytes : goal.overflow_mul-bytes
overflow_mul-bytes c = record { fits = omega (arith, c.strains_for-n.ensures, strains-few c.args.text.now) }

pub slice_bounds-distances-end : goal.slice_bounds-distances-end
slice_bounds-distances-end c = omega (arith, c.pair_count-pairs.ensures, pairs-few c.strains_for-n.result (omega (arith, c.strains_for-n.ensures, strains-few c.args.text.now)), ap length c.filled-distances.ensures.throughout ∙ length-table max_pairs _)

pub slice_bounds-names-end : goal.slice_bounds-names-end
slice_bounds-names-end c = omega (arith, c.strains_for-n.ensures, strains-few c.args.text.now, ap length c.filled-names.ensures.throughout ∙ length-table _ _)
