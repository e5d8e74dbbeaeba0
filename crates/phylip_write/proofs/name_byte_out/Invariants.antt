-- No byte passed so far is in no name.
use mathlib.Core.Path.{◌≡◌}
use mathlib.Core.Bool.{false}
use Prim.Native.Nat.{ℕ, ◌≤◌, ◌<◌}
use lib.ListN.{length, get_or}
use Rattle.phylip_text.specs.Form.{name_out}
use Rattle.phylip_write.proofs.name_byte_out.Given as goal

abbrev pub invariant-loop-byte : goal.invariant-loop-byte
invariant-loop-byte l = (l.byte-index ≤ length l.names) × ((m : ℕ) → m < l.byte-index → name_out (get_or l.names m 0) ≡ false)
