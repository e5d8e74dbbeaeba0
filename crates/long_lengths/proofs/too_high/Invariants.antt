-- No digit so far is too high.
use mathlib.Core.Path.{◌≡◌}
use mathlib.Core.Bool.{false}
use Prim.Native.Nat.{ℕ, ◌<◌, ◌≤◌}
use lib.Dec.{ltb}
use lib.ListN.{length, get_or}
use Rattle.long_lengths.proofs.too_high.Given as goal

abbrev pub invariant-loop-digit : goal.invariant-loop-digit
invariant-loop-digit l = (l.digit-index ≤ length l.d) × ((i : ℕ) → i < l.digit-index → ltb 999999 (get_or l.d i 0) ≡ false)
