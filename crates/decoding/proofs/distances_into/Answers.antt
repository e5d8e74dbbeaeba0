-- A strain's distances a turn; past the last strain's the table keeps its zeros.
use native.Mathlib.Omega.{arith}
use Rattle.matrix.proofs.Places.{count_room, pairs-few}
use Rattle.decoding.proofs.Rows.{read-start, read-turn, read-end}
use Rattle.decoding.proofs.distances_into.Goals as goal

pub loop-j-init : goal.loop-j-init
loop-j-init c = read-start _ _ _ c.requires.held_value

pub column-requires : goal.column-requires
column-requires c = let t = c.loop-j.invariant in
    record {
      j_nonzero = (t.some, c.loop-j-test.true, omega arith, t.begins, omega arith);
      held_value = t.holds;
    }

pub overflow_add-first : goal.overflow_add-first
overflow_add-first c = record { fits = omega (arith, c.loop-j.invariant.begins, count_room c.args.n c.loop-j.j c.loop-j-test.true, pairs-few c.args.n (omega arith)) }

pub loop-j-preserved : goal.loop-j-preserved
loop-j-preserved c = read-turn _ _ c.loop-j.invariant _ c.loop-j-test.true c.column.ensures

pub returns : goal.returns
returns c = read-end _ _ c.loop-j.invariant (omega arith)
