-- A row a turn; behind i rows there is room for the next, since all of them are the lines of the pairs.
use Prim.Native.Nat.{◌-◌}
use Rattle.exact.specs.Table.{entry_of}
use Rattle.tree_theory.specs.Chain.{parent_of}
use Rattle.pieces.proofs.Written.{PiecesAt}
use Rattle.newick_put.specs.Put.{word_at}
use Rattle.pair_lines.specs.Lines.{row_by}
use Rattle.pair_lines.proofs.all_rows.Given as goal

abbrev pub invariant-loop-i : goal.invariant-loop-i
invariant-loop-i l = PiecesAt l.initial.text l.at l.n (row_by (word_at l.names l.starts) l.n l.edges l.distances (parent_of l.parents) l.d (entry_of l.numerators) (entry_of l.rounded)) l.text l.next l.i
