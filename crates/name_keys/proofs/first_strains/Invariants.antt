-- Name after name: the entries at the keys of those before the one at hand are at most theirs.
use Prim.Native.Nat.{◌-◌}
use Rattle.names.proofs.Walking.{At}
use Rattle.name_keys.specs.Keyed.{Firsts}
use Rattle.name_keys.proofs.first_strains.Given as goal

abbrev pub invariant-loop-i : goal.invariant-loop-i
invariant-loop-i l = (At l.s l.from l.n l.at l.i) × Firsts l.s l.from l.i l.firsts
