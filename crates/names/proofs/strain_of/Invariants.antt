-- Name after name of the right length is compared, and none before the one at hand was the same.
use mathlib.Core.Path.{◌≡◌}
use mathlib.Core.Bool.{false}
use Prim.Native.Nat.{ℕ, ◌<◌}
use Rattle.digits.specs.Digits.{same}
use Rattle.names.specs.Record.{name_of}
use Rattle.names.proofs.Walking.{At}
use Rattle.names.proofs.strain_of.Given as goal

abbrev pub invariant-loop-i : goal.invariant-loop-i
invariant-loop-i l = (At l.s l.from l.n l.at l.i) × ((k : ℕ) → k < l.i → same (name_of l.s l.from k) l.name ≡ false)
