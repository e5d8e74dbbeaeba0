-- The run is followed byte by byte, and each digit goes behind those read, until a byte is no digit or the text ends.
use Prim.Native.Nat.{◌-◌}
use lib.ListN.{length}
use Rattle.newick_words.proofs.Gathering.{Gathered}
use Rattle.newick_words.proofs.digits_at.Given as goal

abbrev pub invariant-loop-end : goal.invariant-loop-end
invariant-loop-end l = Gathered l.text l.at l.end l.number
