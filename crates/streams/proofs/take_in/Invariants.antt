-- Each turn reads into what is left of the buffer, and what came is at most that, and something.
use mathlib.Core.Path.{◌≡◌}
use Prim.Native.Nat.{ℕ, ◌-◌, ◌≤◌}
use lib.ListN.{length}
use Rattle.std.specs.Prelude.{Result}
use Rattle.streams.specs.Reads.{ReadIn}
use Rattle.streams.proofs.take_in.Given as goal

abbrev pub invariant-loop-count : goal.invariant-loop-count
invariant-loop-count g l =
    (length l.space ≡ length l.initial.space) × (l.count ≤ length l.space) × ((r : Result ℕ ℕ) → ReadIn (length l.initial.space) l.count r → ReadIn (length l.initial.space) 0 r)

abbrev pub decreases-loop-count : goal.decreases-loop-count
decreases-loop-count g l = length l.space - l.count
