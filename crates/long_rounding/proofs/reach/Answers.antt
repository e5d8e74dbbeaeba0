-- The factor fits an i64.
use mathlib.Core.Path.{◌∙◌, ap}
use lib.IntN.{ℤ, pos}
use Rattle.long_digits.specs.Clamp.{clamp, most}
use Rattle.long_theory.specs.Long.{long_denominator, long_numerator}
use Rattle.long_lengths.specs.Edge.{measure}
use Rattle.long_rounding.proofs.Searching.{bits, twice-fits, factor_fits, factor_is, factor_low}
use Rattle.long_rounding.proofs.reach.Goals as goal

pub overflow_mul-u : goal.overflow_mul-u
overflow_mul-u c = twice-fits c.args.u c.requires.u_bound

pub overflow_sub-u : goal.overflow_sub-u
overflow_sub-u c = factor_fits c.args.u c.requires.u_bound

pub compare-requires : goal.compare-requires
compare-requires c = record {
  long_edge = c.requires.long_edge;
  b_bound = factor_low c.args.u c.requires.u_bound;
}

pub returns : goal.returns
returns c = bits _ _ c.compare.ensures
    ∙ ap (λ (z : ℤ). clamp most (measure z (pos (long_denominator c.args.levels c.args.d.now)) (long_numerator c.args.levels c.args.edges c.args.digits.now c.args.v))) (factor_is c.args.u c.requires.u_bound)
