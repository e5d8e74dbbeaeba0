-- A distance a turn, each from where its pair stands among the rows.
use Prim.Native.Nat.{◌-◌}
use lib.ListN.{length}
use Rattle.desk_tables.proofs.Laying.{Laying}
use Rattle.desk_tables.proofs.lay_distances.Given as goal

abbrev pub invariant-loop-k : goal.invariant-loop-k
invariant-loop-k l = Laying l.n l.ordered l.rows l.initial.distances l.distances l.k l.i l.j
