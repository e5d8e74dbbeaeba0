-- A line a turn.
use Prim.Native.Nat.{◌+◌, ◌*◌}
use native.Mathlib.Omega.{arith}
use mir.Syntax.{w64}
use mir.Val.{to_z, of_z}
use Rattle.exact.specs.Table.{entry_of}
use Rattle.matrix.proofs.Places.{place-bound}
use Rattle.tree_theory.specs.Chain.{parent_of}
use Rattle.pieces.proofs.Written.{pieces-start, pieces-size, pieces_room, pieces-turn, pieces_end}
use Rattle.pair_line.specs.Line.{widest_pair}
use Rattle.pair_lines.specs.Lines.{row_by}
use Rattle.pair_lines.proofs.Rows.{lines_long, line-is, path-near, path-back}
use Rattle.pair_lines.proofs.row_lines.Goals as goal

pub loop-k-init : goal.loop-k-init
loop-k-init c = pieces-start _ _ _ _

pub offset_bounds-distances-place : goal.offset_bounds-distances-place
offset_bounds-distances-place c = let a = c.args in let l = c.loop-k in record { fits = omega (arith, c.place.ensures, c.requires.i_lt_n.1, place-bound a.n a.i (a.i + 1 + l.k) (omega arith) (omega arith)) }

pub bounds-distances-place : goal.bounds-distances-place
bounds-distances-place c = let a = c.args in let l = c.loop-k in omega (arith, c.place.ensures, c.requires.i_lt_n.1, place-bound a.n a.i (a.i + 1 + l.k) (omega arith) (omega arith))

pub path-requires : goal.path-requires
path-requires c = let a = c.args in let l = c.loop-k in record {
  lengthened = c.requires.measuring.lengthened;
  between = c.requires.measuring.between;
  i_lt_j = (omega arith, omega arith);
}

pub path-requires-in-loop-k : goal.path-requires-in-loop-k
path-requires-in-loop-k c = let a = c.args in let l = c.loop-k in record {
  lengthened = c.requires.measuring_2.lengthened;
  between = c.requires.measuring_2.between;
  i_lt_j = (omega arith, omega arith);
}

pub pair_line-next-requires : goal.pair_line-next-requires
pair_line-next-requires c = let a = c.args in let l = c.loop-k in let more = c.loop-k-test.true in record {
  name_there = (c.requires.by_index a.i c.requires.i_lt_n.0, c.requires.by_index (a.i + 1 + l.k) (omega (arith, more)));
  p_bound = path-near c.requires.measuring.lengthened a.i (a.i + 1 + l.k) c.path.result c.path.ensures;
  widest_pair_in_bounds = pieces_room _ _ _ _ l.invariant (widest_pair * l.k) (lines_long a.names.now a.starts.now a.n c.requires.by_index a.edges a.distances.now (parent_of a.parents.now) a.d (entry_of a.numerators.now) (entry_of a.rounded.now) a.i c.requires.i_lt_n.0 l.k l.invariant.few) widest_pair (omega (arith, more, c.requires.i_in_bounds));
}

pub loop-k-preserved : goal.loop-k-preserved
loop-k-preserved c = let a = c.args in let l = c.loop-k in let more = c.loop-k-test.true in let there = c.place in let one = c.path in let two = c.path-in-loop-k in pieces-turn _ _ _ _ l.invariant (widest_pair * l.k) (lines_long a.names.now a.starts.now a.n c.requires.by_index a.edges a.distances.now (parent_of a.parents.now) a.d (entry_of a.numerators.now) (entry_of a.rounded.now) a.i c.requires.i_lt_n.0 l.k l.invariant.few) _ more (omega (arith, more, c.requires.i_in_bounds)) (line-is a.names.now a.starts.now a.n c.requires.by_index a.edges a.distances.now (parent_of a.parents.now) a.d (entry_of a.numerators.now) (entry_of a.rounded.now) a.i (a.i + 1 + l.k) there.result (to_z w64 (of_z w64 one.result)) (to_z w64 (of_z w64 two.result)) there.ensures (path-back c.requires.measuring.lengthened a.i (a.i + 1 + l.k) one.result one.ensures) (path-back c.requires.measuring_2.lengthened a.i (a.i + 1 + l.k) two.result two.ensures)) c.pair_line-next.ensures

pub shape_of-text : goal.shape_of-text
shape_of-text c = let a = c.args in let l = c.loop-k in pieces-size _ _ _ _ l.invariant (widest_pair * l.k) (lines_long a.names.now a.starts.now a.n c.requires.by_index a.edges a.distances.now (parent_of a.parents.now) a.d (entry_of a.numerators.now) (entry_of a.rounded.now) a.i c.requires.i_lt_n.0 l.k l.invariant.few) (omega (arith, c.requires.i_in_bounds, l.invariant.few))

pub returns : goal.returns
unfolding row_by
returns c = pieces_end _ _ _ _ c.loop-k.invariant c.loop-k-test.false
