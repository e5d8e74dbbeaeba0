-- The sum of squares and the split sums, then the levels, then the carries.
use native.Mathlib.Omega.{arith}
use Rattle.fit_numbers.proofs.Back.{summable}
use Rattle.long_numbers.proofs.Numbers.{none-ready, none-range, squares-fits, squares-back, splits, f-up, f-natural, table-near}
use Rattle.long_numbers.proofs.long_f.Goals as goal

pub sum_f-squares-requires : goal.sum_f-squares-requires
sum_f-squares-requires c = let z = c.filled-zeros.ensures.throughout in record {
  summable = summable (none-ready c.requires.long_ready z);
  in_range = none-range c.requires.long_ready z;
  fits63 = squares-fits c.requires.long_ready z;
}

pub edge_sums-splits-requires : goal.edge_sums-splits-requires
edge_sums-splits-requires c = let z = c.filled-zeros.ensures.throughout in record {
  ready = none-ready c.requires.long_ready z;
  in_range = none-range c.requires.long_ready z;
}

pub f_levels-f-requires : goal.f_levels-f-requires
f_levels-f-requires c = let z = c.filled-zeros.ensures.throughout in
    record {
      splits = splits c.requires.long_ready z (squares-back c.requires.long_ready z _ c.sum_f-squares.ensures) c.edge_sums-splits.ensures;
      levels_le_max_levels = (c.requires.levels_le_max_levels.0, c.requires.long_ready.levels, c.requires.long_ready.table);
      by_index = (c.requires.long_ready.digits, c.requires.long_ready.tops);
    }

pub carried-requires : goal.carried-requires
carried-requires c = let t = c.f_levels-f.ensures in record {
  levels_le_max_levels = (c.requires.levels_le_max_levels.0, omega (arith, t.size, c.requires.levels_le_max_levels.0));
  by_index = table-near t;
  pos = f-up c.requires.long_ready c.filled-zeros.ensures.throughout (squares-back c.requires.long_ready c.filled-zeros.ensures.throughout _ c.sum_f-squares.ensures) c.edge_sums-splits.ensures c.f_levels-f.ensures c.requires.levels_le_max_levels.1;
}

pub returns : goal.returns
returns c = f-natural c.requires.long_ready c.filled-zeros.ensures.throughout (squares-back c.requires.long_ready c.filled-zeros.ensures.throughout _ c.sum_f-squares.ensures) c.edge_sums-splits.ensures c.f_levels-f.ensures c.carried.ensures
