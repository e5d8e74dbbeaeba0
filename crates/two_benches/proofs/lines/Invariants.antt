-- Line by line, each behind the one before it.
use mathlib.Core.Path.{◌≡◌}
use Prim.Native.Nat.{◌-◌, ◌≤◌}
use lib.ListN.{length}
use Rattle.desk_text.specs.Meaning.{max_words}
use Rattle.desk.specs.Held.{Held}
use Rattle.two_benches.proofs.lines.Given as goal

abbrev pub invariant-loop-found : goal.invariant-loop-found
invariant-loop-found g l = Held l.now × (l.at ≤ l.count) × (length l.numbers ≡ max_words) × (length l.distances ≡ max_words) × (length l.parents ≡ max_words) × (length l.numerators ≡ max_words) × (length l.page ≡ length l.initial.page)

abbrev pub decreases-loop-found : goal.decreases-loop-found
decreases-loop-found g l = l.count - l.at
