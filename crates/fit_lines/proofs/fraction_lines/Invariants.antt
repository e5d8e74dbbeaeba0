-- After v turns the lines of the first v edges stand there; each took at most `widest` bytes, so there is room for the next.
use mathlib.Core.Path.{◌≡◌}
use mathlib.Core.List.{List, [], ◌∷◌}
use Prim.Native.Nat.{ℕ, ◌-◌, ◌≤◌}
use lib.IntN.{ℤ, pos}
use lib.ListN.{length, get_or}
use Rattle.exact.specs.Table.{entry_of}
use Rattle.writing.specs.Text.{Wrote}
use Rattle.lines.specs.Lines.{edge_lines}
use Rattle.fit_lines.proofs.fraction_lines.Given as goal

-- what a line says of an edge
abbrev pub row : List ℤ → List ℕ → List ℤ → ℕ → List ℤ
row tops bottoms rounded v = entry_of tops v ∷ pos (get_or bottoms v 0) ∷ entry_of rounded v ∷ []

abbrev pub invariant-loop-v : goal.invariant-loop-v
invariant-loop-v l = (l.v ≤ l.k) × (length l.text ≡ length l.initial.text) × Wrote l.initial.text l.text l.at (edge_lines l.v (row l.tops l.bottoms l.rounded)) l.next
