-- `totals`: one column a turn, the pairs of strain j with the strains before it.
use Rattle.std.proofs.Common.{◌≡◌, ℕ, ◌+◌, ◌-◌, sym, refl, ap, ◌∙◌, subst, add-one, arith}
use Rattle.matrix.specs.Place.{pair_count}
use Rattle.matrix.proofs.Places.{count_room, count-more, pairs-few}
use Rattle.splits.specs.Sums.{Rows}
use Rattle.splits.proofs.Rowing.{rows_none, rows_more, rows-low}
use Rattle.splits.proofs.totals.Goals as goal

pub loop-j-init : goal.loop-j-init
loop-j-init c = (omega arith, refl, rows_none c.args.distances.now c.args.own.now c.requires.own_value)

pub add_row-requires : goal.add_row-requires
add_row-requires c = let turn = c.loop-j-test.true in
    let inv = c.loop-j.invariant in record {
      j_lt_max_strains = (omega (arith, turn, c.requires.n_le_max_strains.0), inv.1, omega (arith, inv.1, c.requires.n_le_max_strains.1, count_room c.args.n c.loop-j.j turn));
      by_index = c.requires.by_index;
      own_len = (inv.2.size, rows-low c.requires.by_index (omega (arith, turn, c.requires.n_le_max_strains.0)) inv.2);
    }

pub overflow_add-first : goal.overflow_add-first
overflow_add-first c = omega (arith, c.loop-j.invariant.1, count_room c.args.n c.loop-j.j c.loop-j-test.true, pairs-few c.args.n c.requires.n_le_max_strains.0)

pub loop-j-preserved : goal.loop-j-preserved
loop-j-preserved c = let j = c.loop-j.j in (
  omega (arith, c.loop-j-test.true),
  ap (λ (k : ℕ). k + j) c.loop-j.invariant.1 ∙ sym (count-more j) ∙ ap pair_count (sym (add-one j)),
  rows_more c.loop-j.invariant.2 c.add_row.ensures,
)

pub returns : goal.returns
returns c = let e : c.loop-j.j ≡ c.args.n = omega (arith, c.loop-j.invariant.0, c.loop-j-test.false) in
    subst (λ (k : ℕ). Rows k c.args.distances.now c.loop-j.own) e c.loop-j.invariant.2
