-- The key so far, with the bytes that are left behind it, is the key of all.
use mathlib.Core.Path.{◌≡◌}
use Prim.Native.Nat.{◌<◌, ◌≤◌}
use lib.ListN.{length, drop}
use Rattle.names.specs.Name.{keys, key_from}
use Rattle.names.proofs.key_of.Given as goal

abbrev pub invariant-loop-byte : goal.invariant-loop-byte
invariant-loop-byte l = (l.byte-index ≤ length l.bytes) × (l.key < keys) × (key_from l.key (drop l.byte-index l.bytes) ≡ key_from 0 l.bytes)
