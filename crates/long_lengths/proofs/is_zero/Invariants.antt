-- Every digit so far is 0.
use mathlib.Core.Path.{◌≡◌}
use Prim.Native.Nat.{ℕ, ◌<◌, ◌≤◌}
use lib.ListN.{length, get_or}
use Rattle.long_lengths.proofs.is_zero.Given as goal

abbrev pub invariant-loop-digit : goal.invariant-loop-digit
invariant-loop-digit l = (l.digit-index ≤ length l.d) × ((i : ℕ) → i < l.digit-index → get_or l.d i 0 ≡ 0)
