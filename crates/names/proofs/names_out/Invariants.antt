-- Name after name, and none before the one at hand was out; the keys of those before it are known.
use mathlib.Core.Path.{◌≡◌}
use mathlib.Core.Bool.{false}
use Prim.Native.Nat.{ℕ, ◌<◌}
use Rattle.names.specs.Record.{name_out}
use Rattle.names.proofs.Keys.{Known}
use Rattle.names.proofs.Walking.{At}
use Rattle.names.proofs.names_out.Given as goal

abbrev pub invariant-loop-i : goal.invariant-loop-i
invariant-loop-i l = (At l.s l.from l.n l.at l.i) × ((k : ℕ) → k < l.i → name_out l.s l.from k ≡ false) × Known l.s l.from l.i l.known
