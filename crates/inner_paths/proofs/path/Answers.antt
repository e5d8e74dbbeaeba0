-- An edge from each strain, and what lies between their parents.
use native.Mathlib.Omega.{arith}
use Rattle.inner_paths.proofs.Reaching.{few, first-few, second-few, ends-fit, whole-fits, whole_is}
use Rattle.inner_paths.proofs.path.Goals as goal

pub overflow_cast-first : goal.overflow_cast-first
overflow_cast-first c = let a = c.args in omega (arith, c.requires.lengthened.allowed.top a.i (omega (arith, c.requires.lengthened.allowed.edges)), few c.requires.lengthened)

pub overflow_sub-first : goal.overflow_sub-first
overflow_sub-first c = let a = c.args in c.requires.lengthened.allowed.top a.i (omega (arith, c.requires.lengthened.allowed.edges))

pub overflow_cast-second : goal.overflow_cast-second
overflow_cast-second c = let a = c.args in omega (arith, c.requires.lengthened.allowed.top a.j (omega (arith, c.requires.lengthened.allowed.edges)), few c.requires.lengthened)

pub overflow_sub-second : goal.overflow_sub-second
overflow_sub-second c = let a = c.args in c.requires.lengthened.allowed.top a.j (omega (arith, c.requires.lengthened.allowed.edges))

pub overflow_add-result : goal.overflow_add-result
overflow_add-result c = let a = c.args in ends-fit c.requires.lengthened _ c.requires.between a.i a.j c.requires.i_lt_j.0 c.requires.i_lt_j.1

pub apart-requires : goal.apart-requires
apart-requires c = let a = c.args in (c.requires.between.size, first-few c.requires.lengthened _ c.requires.between a.i a.j c.requires.i_lt_j.0 c.requires.i_lt_j.1, second-few c.requires.lengthened _ c.requires.between a.i a.j c.requires.i_lt_j.0 c.requires.i_lt_j.1)

pub overflow_add-result-2 : goal.overflow_add-result-2
overflow_add-result-2 c = let a = c.args in whole-fits c.requires.lengthened _ c.requires.between a.i a.j c.requires.i_lt_j.0 c.requires.i_lt_j.1 c.apart.result c.apart.ensures

pub returns : goal.returns
returns c = let a = c.args in whole_is c.requires.lengthened _ c.requires.between a.i a.j c.requires.i_lt_j.0 c.requires.i_lt_j.1 c.apart.result c.apart.ensures
