-- One digit a turn, over what was there.
use Prim.Native.Nat.{◌-◌}
use lib.IntN.{pos}
use Rattle.long_decoding.specs.Digits.{signed_at}
use Rattle.long_decoding.proofs.Into.{Writing}
use Rattle.long_decoding.proofs.digits_into.Given as goal

abbrev pub invariant-loop-k : goal.invariant-loop-k
invariant-loop-k l = Writing (pos 0) l.count (signed_at l.s l.at) l.initial.into l.k l.into
