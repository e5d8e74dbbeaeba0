-- There is always room for the next read: what is kept of the buffer is less than all of it.
use mathlib.Core.Path.{◌≡◌}
use Prim.Native.Nat.{◌+◌, ◌<◌}
use lib.ListN.{length}
use Rattle.pair_lines.specs.Lines.{pairs_page}
use Rattle.desk_text.specs.Meaning.{max_line}
use Rattle.desk.specs.Held.{Held}
use Rattle.two_benches.proofs.main.Given as goal

abbrev pub invariant-loop : goal.invariant-loop
invariant-loop l = Held l.desk × (length l.space ≡ max_line + 2) × (l.count < max_line + 2) × (length l.page ≡ pairs_page)
