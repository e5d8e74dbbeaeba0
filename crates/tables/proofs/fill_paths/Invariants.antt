-- One pair a turn: its path goes to its place, where no other pair's stands.
use lib.ListN.{length}
use Rattle.exact.specs.LeastSquares.{path}
use Rattle.tree_theory.specs.Chain.{parent_of, parts_pair}
use Rattle.exact.specs.Table.{entry_of}
use Rattle.tables.proofs.Filling.{Filling}
use Rattle.tables.proofs.fill_paths.Given as goal

abbrev pub invariant-loop-j : goal.invariant-loop-j
invariant-loop-j l = Filling l.n (path (length l.parents) (parts_pair (parent_of l.parents)) (entry_of l.numerators)) 0 l.j l.paths

abbrev pub invariant-loop-i : goal.invariant-loop-i
invariant-loop-i l = Filling l.n (path (length l.parents) (parts_pair (parent_of l.parents)) (entry_of l.numerators)) l.i l.j l.paths
