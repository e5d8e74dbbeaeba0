-- A line a turn.
use Prim.Native.Nat.{◌+◌, ◌-◌}
use Rattle.exact.specs.Table.{entry_of}
use Rattle.tree_theory.specs.Chain.{parent_of}
use Rattle.pieces.proofs.Written.{PiecesAt}
use Rattle.newick_put.specs.Put.{word_at}
use Rattle.pair_lines.specs.Lines.{line_by}
use Rattle.pair_lines.proofs.row_lines.Given as goal

abbrev pub invariant-loop-k : goal.invariant-loop-k
invariant-loop-k l = PiecesAt l.initial.text l.at l.later (λ m. line_by (word_at l.names l.starts) l.edges l.distances (parent_of l.parents) l.d (entry_of l.numerators) (entry_of l.rounded) l.i (l.i + 1 + m)) l.text l.next l.k
