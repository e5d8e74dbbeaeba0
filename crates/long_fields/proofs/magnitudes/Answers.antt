-- One digit a turn.
use mathlib.Core.Path.{◌∙◌, ap}
use Prim.Native.Nat.{◌+◌, ◌*◌, ◌-◌}
use native.Mathlib.Omega.{arith}
use lib.IntN.{nat_abs}
use Rattle.long_fields.proofs.Numbers.{take-start, take-turn, take-end, place-low, digit-back}
use Rattle.long_fields.proofs.magnitudes.Goals as goal

pub loop-k-init : goal.loop-k-init
loop-k-init c = take-start _ _ _ _ _ c.filled-held.ensures.throughout

pub overflow_mul-k : goal.overflow_mul-k
overflow_mul-k c = omega (arith, place-low c.args.levels c.args.edges c.args.digits.now c.args.v c.requires.long_row c.requires.levels_le_max_levels.1 c.loop-k.k c.loop-k-test.true)

pub overflow_add-k : goal.overflow_add-k
overflow_add-k c = omega (arith, place-low c.args.levels c.args.edges c.args.digits.now c.args.v c.requires.long_row c.requires.levels_le_max_levels.1 c.loop-k.k c.loop-k-test.true)

pub offset_bounds-digits-k : goal.offset_bounds-digits-k
offset_bounds-digits-k c = omega (arith, place-low c.args.levels c.args.edges c.args.digits.now c.args.v c.requires.long_row c.requires.levels_le_max_levels.1 c.loop-k.k c.loop-k-test.true)

pub bounds-digits-k : goal.bounds-digits-k
bounds-digits-k c = omega (arith, place-low c.args.levels c.args.edges c.args.digits.now c.args.v c.requires.long_row c.requires.levels_le_max_levels.1 c.loop-k.k c.loop-k-test.true)

pub overflow_cast-held : goal.overflow_cast-held
overflow_cast-held c = let k = c.loop-k.k in record { fits = omega (arith, c.magnitude.ensures, ap nat_abs (digit-back c.args.levels c.args.edges c.args.digits.now c.args.v c.requires.long_row c.requires.levels_le_max_levels.1 k c.loop-k-test.true), c.requires.levels_le_max_levels.1 (k * c.args.edges + c.args.v)) }

pub loop-k-preserved : goal.loop-k-preserved
loop-k-preserved c = let k = c.loop-k.k in take-turn c.args.levels c.args.edges c.args.digits.now c.args.v c.requires.levels_le_max_levels.0 k _ _ c.loop-k-test.true (c.magnitude.ensures ∙ ap nat_abs (digit-back c.args.levels c.args.edges c.args.digits.now c.args.v c.requires.long_row c.requires.levels_le_max_levels.1 k c.loop-k-test.true)) c.loop-k.invariant

pub returns : goal.returns
returns c = take-end c.args.levels c.args.edges c.args.digits.now c.args.v c.requires.levels_le_max_levels.1 c.loop-k.k _ c.loop-k-test.false c.loop-k.invariant
