-- The verdict first; of an accepted sheet what its third record says.
use mathlib.Core.Path.{sym}
use Rattle.comparison.proofs.tree_length.Goals as goal

pub third_length-requires : goal.third_length-requires
third_length-requires c = sym c.in_ok-sheet_judge.ensures
