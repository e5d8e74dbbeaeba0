-- A word, a name, a space, a name; by their lengths there is room for each.
use Prim.Native.Nat.{◌+◌}
use native.Mathlib.Omega.{arith}
use lib.ListN.{get_or}
use Rattle.pair_line.proofs.Lining.{room_after, name-length, head-written}
use Rattle.pair_line.proofs.put_head.Goals as goal

pub put-two-requires : goal.put-two-requires
put-two-requires c = let a = c.args in let w = name-length a.names.now a.first c.requires.first_in_bounds.0 in let one = room_after (get_or a.names.now a.first 0 + (1 + get_or a.names.now a.second 0)) (omega (arith, c.requires.second_in_bounds)) c.put_word-one.ensures in let two = room_after (1 + get_or a.names.now a.second 0) (omega (arith, one, w)) c.put_name-space.ensures in omega (arith, two)

pub put_name-requires : goal.put_name-requires
put_name-requires c = let a = c.args in let w = name-length a.names.now a.first c.requires.first_in_bounds.0 in let one = room_after (get_or a.names.now a.first 0 + (1 + get_or a.names.now a.second 0)) (omega (arith, c.requires.second_in_bounds)) c.put_word-one.ensures in let two = room_after (1 + get_or a.names.now a.second 0) (omega (arith, one, w)) c.put_name-space.ensures in record {
  start_in_bounds = c.requires.first_in_bounds.1;
  start_in_bounds_2 = room_after (get_or a.names.now a.second 0) (omega (arith, two)) c.put-two.ensures;
}

pub returns : goal.returns
returns c = let a = c.args in head-written _ _ (omega (arith, c.requires.second_in_bounds, name-length a.names.now a.first c.requires.first_in_bounds.0, name-length a.names.now a.second c.requires.first_in_bounds.1)) c.put_word-one.ensures c.put_name-space.ensures c.put-two.ensures c.put_name.ensures
