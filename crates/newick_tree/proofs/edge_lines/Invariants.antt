-- After v turns the lines of the first v edges stand there; each took at most `widest` bytes, so there is room for the next.
use mathlib.Core.Path.{◌≡◌}
use Prim.Native.Nat.{◌-◌, ◌≤◌}
use lib.ListN.{length}
use Rattle.writing.specs.Text.{Wrote}
use Rattle.lines.specs.Lines.{edge_lines}
use Rattle.newick_tree.specs.Tree.{row_of}
use Rattle.newick_tree.proofs.edge_lines.Given as goal

abbrev pub invariant-loop-v : goal.invariant-loop-v
invariant-loop-v l = (l.v ≤ l.k) × (length l.text ≡ length l.initial.text) × Wrote l.initial.text l.text l.at (edge_lines l.v (row_of l.parents l.thousandths)) l.next
