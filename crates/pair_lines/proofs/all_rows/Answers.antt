-- A row a turn; behind i rows there is room for the next, since all of them are the lines of the pairs.
use mathlib.Core.Path.{refl, ap, ◌∙◌}
use Prim.Native.Nat.{◌+◌, ◌-◌, ◌*◌}
use native.Mathlib.Omega.{arith}
use lib.ListN.{length}
use Rattle.exact.specs.Table.{entry_of}
use Rattle.exact.proofs.Fill.{length-table}
use Rattle.matrix.specs.Place.{row_start}
use Rattle.tree_theory.specs.Chain.{parent_of}
use Rattle.inner_paths.specs.Between.{spots}
use Rattle.pieces.proofs.Written.{pieces-start, pieces-size, pieces_room, pieces-turn, pieces_end}
use Rattle.pair_line.specs.Line.{widest_pair}
use Rattle.pair_lines.specs.Lines.{rows_by}
use Rattle.pair_lines.proofs.Rows.{rows_long, rows-within, rows_fit}
use Rattle.pair_lines.proofs.all_rows.Goals as goal

pub fill_paths-requires : goal.fill_paths-requires
fill_paths-requires c = record {
  lengthened = c.requires.lengthened;
  between_len = ap length c.filled-exactly.ensures.throughout ∙ length-table spots _;
}

pub fill_paths-requires-2 : goal.fill_paths-requires-2
fill_paths-requires-2 c = record {
  lengthened = c.requires.lengthened_2;
  between_len = ap length c.filled-nearly.ensures.throughout ∙ length-table spots _;
}

pub loop-i-init : goal.loop-i-init
loop-i-init c = pieces-start _ _ _ _

pub row_lines-next-requires : goal.row_lines-next-requires
row_lines-next-requires c = let a = c.args in let l = c.loop-i in let more = c.loop-i-test.true in record {
  i_lt_n = (more, c.requires.distances_len);
  measuring = record { lengthened = c.requires.lengthened; between = c.fill_paths.ensures };
  measuring_2 = record { lengthened = c.requires.lengthened_2; between = c.fill_paths-2.ensures };
  by_index = c.requires.by_index;
  i_in_bounds = pieces_room _ _ _ _ l.invariant (widest_pair * row_start a.n l.i) (rows_long a.names.now a.starts.now a.n c.requires.by_index a.edges a.distances.now (parent_of a.parents.now) a.d (entry_of a.numerators.now) (entry_of a.rounded.now) l.i l.invariant.few) (widest_pair * (a.n - (l.i + 1))) (omega (arith, c.requires.n_in_bounds, rows-within a.n l.i more));
}

pub loop-i-preserved : goal.loop-i-preserved
loop-i-preserved c = let a = c.args in let l = c.loop-i in let more = c.loop-i-test.true in pieces-turn _ _ _ _ l.invariant (widest_pair * row_start a.n l.i) (rows_long a.names.now a.starts.now a.n c.requires.by_index a.edges a.distances.now (parent_of a.parents.now) a.d (entry_of a.numerators.now) (entry_of a.rounded.now) l.i l.invariant.few) _ more (omega (arith, c.requires.n_in_bounds, rows_fit a.n l.i l.invariant.few)) refl c.row_lines-next.ensures

pub shape_of-text : goal.shape_of-text
shape_of-text c = let a = c.args in let l = c.loop-i in pieces-size _ _ _ _ l.invariant (widest_pair * row_start a.n l.i) (rows_long a.names.now a.starts.now a.n c.requires.by_index a.edges a.distances.now (parent_of a.parents.now) a.d (entry_of a.numerators.now) (entry_of a.rounded.now) l.i l.invariant.few) (omega (arith, c.requires.n_in_bounds, rows_fit a.n l.i l.invariant.few))

pub returns : goal.returns
unfolding rows_by
returns c = pieces_end _ _ _ _ c.loop-i.invariant c.loop-i-test.false
