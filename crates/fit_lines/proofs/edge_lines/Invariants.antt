-- After v turns the lines of the first v edges stand there; each took at most `widest` bytes, so there is room for the next.
use mathlib.Core.Path.{◌≡◌}
use mathlib.Core.List.{List, [], ◌∷◌}
use Prim.Native.Nat.{ℕ, ◌-◌, ◌≤◌}
use lib.IntN.{ℤ}
use lib.ListN.{length}
use Rattle.exact.specs.Table.{entry_of}
use Rattle.writing.specs.Text.{Wrote}
use Rattle.lines.specs.Lines.{edge_lines}
use Rattle.fit_lines.proofs.edge_lines.Given as goal

-- what a line says of an edge
abbrev pub row : List ℤ → List ℤ → ℕ → List ℤ
row numerators rounded v = entry_of numerators v ∷ entry_of rounded v ∷ []

abbrev pub invariant-loop-v : goal.invariant-loop-v
invariant-loop-v l = (l.v ≤ l.k) × (length l.text ≡ length l.initial.text) × Wrote l.initial.text l.text l.at (edge_lines l.v (row l.numerators l.rounded)) l.next
