-- Both tables, one after the other.
use mathlib.Core.Path.{◌∙◌, ap}
use lib.IntN.{ℤ}
use lib.ListN.{set}
use mir.Facts.{to_z-of_z}
use Rattle.newick_fill.proofs.put.Goals as goal

pub returns : goal.returns
returns c = record {
  parents_after = c.put_parent.ensures;
  numerators_after = c.put_numerator.ensures ∙ ap (λ (z : ℤ). set c.args.numerators.now c.args.number z) (to_z-of_z c.ranges.numerator);
}
