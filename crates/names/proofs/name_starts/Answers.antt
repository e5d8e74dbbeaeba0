-- The places are kept from the front on.
use Prim.Native.Nat.{◌+◌, ◌≤◌}
use native.Mathlib.Omega.{arith}
use lib.ListN.{length, get_or}
use Rattle.matrix.specs.Limits.{max_strains}
use Rattle.records.specs.Names.{name_start}
use Rattle.records.proofs.Decoding.{decode_start, decode_turn, decode_end}
use Rattle.names.proofs.Walking.{at_first_lem, at_next, at-within}
use Rattle.names.proofs.name_starts.Goals as goal
use Rattle.names.proofs.name_starts.Goals.{In-loop-i}

-- name i ends within the bytes
room : (c : In-loop-i) → c.loop-i.at + 1 + get_or c.args.s.now c.loop-i.at 0 ≤ length c.args.s.now
room c =
    at-within c.args.s.now c.args.from c.args.n c.loop-i.invariant.0 c.requires.1 c.loop-i-test.true

pub loop-i-init : goal.loop-i-init
loop-i-init c = (at_first_lem c.args.s.now c.args.from c.args.n, decode_start 0 max_strains _ _ _ c.filled-starts.ensures.throughout)

pub overflow_add-at : goal.overflow_add-at
overflow_add-at c = record { fits = omega (arith, room c) }

pub bounds-s-at : goal.bounds-s-at
bounds-s-at c = omega (arith, room (goal.at.bounds-s-at c).In-loop-i)

pub overflow_add-at-in-loop-i : goal.overflow_add-at-in-loop-i
overflow_add-at-in-loop-i c = record { fits = omega (arith, room (goal.at.overflow_add-at-in-loop-i c).In-loop-i) }

pub loop-i-preserved : goal.loop-i-preserved
loop-i-preserved c = let h = c.loop-i-test.true in
    (at_next c.args.s.now c.args.from c.args.n c.loop-i.invariant.0 h, decode_turn 0 max_strains c.args.n (name_start c.args.s.now c.args.from) c.loop-i.i _ _ h c.requires.0 c.loop-i.invariant.0.place c.loop-i.invariant.1)

pub returns : goal.returns
returns c = decode_end 0 max_strains c.args.n (name_start c.args.s.now c.args.from) c.loop-i.i _ c.loop-i-test.false c.requires.0 c.loop-i.invariant.1
