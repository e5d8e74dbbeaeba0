-- A dash, two numbers, a dash and the end of a line.
use native.Mathlib.Omega.{arith}
use mir.Facts.{to_z-of_z}
use mir.Syntax.{w64}
use mir.Val.{to_z, of_z}
use Rattle.writing.proofs.Decimals.{signed-length}
use Rattle.pair_line.proofs.Lining.{room_after, unmeasured_written}
use Rattle.pair_line.proofs.put_unmeasured.Goals as goal

pub put-two-requires : goal.put-two-requires
put-two-requires c = let one = room_after 46 (omega (arith, c.requires)) c.put_word-one.ensures in let two = room_after 25 (omega (arith, one, signed-length (to_z w64 (of_z w64 c.args.p)))) c.put_signed-space.ensures in omega (arith, two)

pub put_signed-last-requires : goal.put_signed-last-requires
put_signed-last-requires c = let one = room_after 46 (omega (arith, c.requires)) c.put_word-one.ensures in let two = room_after 25 (omega (arith, one, signed-length (to_z w64 (of_z w64 c.args.p)))) c.put_signed-space.ensures in omega (arith, room_after 24 (omega (arith, two)) c.put-two.ensures)

pub put_word-requires : goal.put_word-requires
put_word-requires c = let one = room_after 46 (omega (arith, c.requires)) c.put_word-one.ensures in let two = room_after 25 (omega (arith, one, signed-length (to_z w64 (of_z w64 c.args.p)))) c.put_signed-space.ensures in let three = room_after 24 (omega (arith, two)) c.put-two.ensures in omega (arith, room_after 3 (omega (arith, three, signed-length (to_z w64 (of_z w64 c.args.q)))) c.put_signed-last.ensures)

pub returns : goal.returns
returns c = unmeasured_written c.args.p c.args.q c.requires c.put_word-one.ensures (simp (to_z-of_z c.ranges.p) at c.put_signed-space.ensures) c.put-two.ensures (simp (to_z-of_z c.ranges.q) at c.put_signed-last.ensures) c.put_word.ensures
