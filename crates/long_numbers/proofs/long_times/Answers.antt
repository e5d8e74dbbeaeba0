-- The levels, then the carries.
use native.Mathlib.Omega.{arith}
use Rattle.long_numbers.proofs.Numbers.{times-up, times-natural, table-near}
use Rattle.long_numbers.proofs.long_times.Goals as goal

pub carried-requires : goal.carried-requires
carried-requires c = let t = c.times_levels-products.ensures in record {
  levels_le_max_levels = (c.requires.levels_le_max_levels.0, omega (arith, t.size, c.requires.levels_le_max_levels.0));
  by_index = table-near t;
  pos = times-up c.args.levels c.args.d.now c.args.count t;
}

pub returns : goal.returns
returns c = times-natural c.args.levels c.args.d.now c.args.count c.times_levels-products.ensures c.carried.ensures
