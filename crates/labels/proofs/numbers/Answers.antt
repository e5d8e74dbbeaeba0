-- The array is written out.
use mathlib.Core.Path.{refl}
use Rattle.writing.specs.Text.{digits}
use Rattle.pieces.specs.Pieces.{pieces_from}
use Rattle.labels.specs.Labels.{number_names}
use Rattle.labels.proofs.numbers.Goals as goal

pub returns : goal.returns
unfolding number_names pieces_from digits
returns c = refl
