-- The levels, their sign, then the carries.
use native.Mathlib.Omega.{arith}
use Rattle.long_sums.proofs.Filling.{stored}
use Rattle.long_numbers.proofs.Numbers.{table-near, total-near, total-up, wide_up, total-down, wide-down}
use Rattle.long_numbers.proofs.long_total.Goals as goal

pub sign-requires : goal.sign-requires
sign-requires c = record {
  levels_in_bounds = omega (arith, c.total_levels-sums.ensures.size, c.requires.levels_le_max_levels.0);
  by_index = total-near c.args.edges c.args.levels c.args.digits.now c.total_levels-sums.ensures c.requires.levels_le_max_levels.1 c.requires.by_index;
}

pub negated-others-requires : goal.negated-others-requires
negated-others-requires c = record {
  levels_le_max_levels = (c.requires.levels_le_max_levels.0, omega (arith, c.total_levels-sums.ensures.size, c.requires.levels_le_max_levels.0));
  by_index = table-near c.total_levels-sums.ensures;
}

pub carried-requires : goal.carried-requires
carried-requires c = let o = c.negated-others.ensures in record {
  levels_le_max_levels = (c.requires.levels_le_max_levels.0, omega (arith, o.size, c.requires.levels_le_max_levels.0));
  by_index = table-near o;
  pos = total-down c.args.edges c.args.levels c.args.digits.now c.total_levels-sums.ensures o _ (stored _ _ c.sign.ensures) c.if-sign-lt0.true;
}

pub returns-then-sign-lt0 : goal.returns-then-sign-lt0
returns-then-sign-lt0 c = wide-down c.args.edges c.args.levels c.args.digits.now c.total_levels-sums.ensures c.negated-others.ensures _ (stored _ _ c.sign.ensures) c.if-sign-lt0.true c.carried.ensures

pub carried-requires-2 : goal.carried-requires-2
carried-requires-2 c = record {
  levels_le_max_levels = (c.requires.levels_le_max_levels.0, omega (arith, c.total_levels-sums.ensures.size, c.requires.levels_le_max_levels.0));
  by_index = table-near c.total_levels-sums.ensures;
  pos = total-up c.args.edges c.args.levels c.args.digits.now c.total_levels-sums.ensures _ (stored _ _ c.sign.ensures) c.if-sign-lt0.false;
}

pub returns : goal.returns
returns c = wide_up c.args.edges c.args.levels c.args.digits.now c.total_levels-sums.ensures _ (stored _ _ c.sign.ensures) c.if-sign-lt0.false c.carried-2.ensures
