-- After v turns the lines of the first v edges stand there.
use Prim.Native.Nat.{◌-◌}
use native.Mathlib.Omega.{arith}
use lib.ListN.{length}
use mir.Facts.{to_z-of_z}
use mir.Syntax.{w64}
use mir.Val.{SFits}
use Rattle.exact.specs.Table.{entry_of}
use Rattle.long_theory.specs.Long.{long_numerator}
use Rattle.long_fields.proofs.Numbers.{numerator-length, edge-length}
use Rattle.long_fit_lines.proofs.Edges.{row, edging_start, edging_room, edging_turn, edging_end}
use Rattle.long_fit_lines.proofs.edge_lines.Goals as goal

pub loop-v-init : goal.loop-v-init
loop-v-init c = edging_start _ _ _ _

pub bounds-rounded-v : goal.bounds-rounded-v
bounds-rounded-v c = omega (arith, c.requires.long_proper.few, c.loop-v-test.true)

pub edge_line-next-requires : goal.edge_line-next-requires
edge_line-next-requires c = let l = c.loop-v in record {
  v_lt_edges = (c.loop-v-test.true, edging_room c.args.edges (row c.args.edges c.args.d.now c.args.digits.now c.args.rounded.now) c.args.text.now c.args.at c.requires.room l.invariant c.loop-v-test.true);
  long_proper = c.requires.long_proper;
}

pub loop-v-preserved : goal.loop-v-preserved
loop-v-preserved c = let l = c.loop-v in let t = c.loop-v-test.true in let fits : SFits w64 (entry_of c.args.rounded.now l.v) = record { sfits = c.edge_line-arg-in-loop-v-1.given } in
    edging_turn c.args.edges (row c.args.edges c.args.d.now c.args.digits.now c.args.rounded.now) c.args.text.now c.args.at c.requires.room l.invariant t
    (edge-length l.v (long_numerator (length c.args.d.now) c.args.edges c.args.digits.now l.v) (entry_of c.args.rounded.now l.v) (omega (arith, t, c.requires.long_proper.few)) (numerator-length c.requires.long_proper l.v t) fits)
    (simp (to_z-of_z {w = w64} {z = entry_of c.args.rounded.now l.v} fits) at c.edge_line-next.ensures)

pub returns : goal.returns
returns c = let it = edging_end c.args.edges (row c.args.edges c.args.d.now c.args.digits.now c.args.rounded.now) c.args.text.now c.args.at c.loop-v-test.false c.loop-v.invariant in record {
  wrote = it.0;
  upper_bound = it.1;
}
