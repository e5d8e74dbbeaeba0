-- After k turns the first k numbers stand there; each took at most 22 bytes with its space, so there is room for the next.
use mathlib.Core.Path.{◌≡◌}
use Prim.Native.Nat.{◌-◌, ◌≤◌}
use lib.ListN.{length, take}
use Rattle.writing.specs.Text.{Wrote}
use Rattle.lines.specs.Lines.{fields}
use Rattle.lines.proofs.fields.Given as goal

abbrev pub invariant-loop-value : goal.invariant-loop-value
invariant-loop-value l = (l.value-index ≤ length l.values) × (length l.text ≡ length l.initial.text) × Wrote l.initial.text l.text l.at (fields (take l.value-index l.values)) l.next
