-- Judged first: the tests of the text, then the room. What passes has its cells in the grid and its names in the table.
use mathlib.Core.Path.{sym, ◌∙◌}
use Rattle.verdict.proofs.Answers.{test-pass}
use Rattle.phylip_read.proofs.Reading.{read-filled}
use Rattle.phylip_read.proofs.read.Goals as goal

pub returns : goal.returns
returns c = read-filled c.args.text.now c.args.distances.now c.args.names.now c.in_ok-n.ensures (sym c.room_out.ensures ∙ test-pass 15 _ (sym c.in_ok-test.ensures))
    c.filled-held.ensures.size c.take_distances.ensures c.copy_from_slice.ensures.after
