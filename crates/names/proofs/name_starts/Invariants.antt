-- The places are kept from the front on.
use Rattle.matrix.specs.Limits.{max_strains}
use Rattle.records.specs.Names.{name_start}
use Rattle.records.proofs.Decoding.{Decoding}
use Rattle.names.proofs.Walking.{At}
use Rattle.names.proofs.name_starts.Given as goal

abbrev pub invariant-loop-i : goal.invariant-loop-i
invariant-loop-i l = (At l.s l.from l.n l.at l.i) × Decoding 0 max_strains l.n (name_start l.s l.from) l.i l.starts
