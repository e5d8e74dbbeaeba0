-- The table has the child at its place.
use native.Mathlib.Omega.{arith}
use lib.ListN.{length}
use Rattle.tree_theory.specs.Chain.{parent_of}
use Rattle.neighbours.proofs.Listing.{child-le}
use Rattle.neighbours.proofs.child.Goals as goal

pub returns : goal.returns
returns c = c.requires.listed.child c.args.w c.args.k (omega (arith, c.requires.w_in_bounds)) c.requires.w_in_bounds.2

pub overflow_cast-result : goal.overflow_cast-result
overflow_cast-result c = record { fits = omega (arith, returns c, child-le (parent_of c.args.parents.now) c.args.w c.args.k (length c.args.parents.now), c.requires.w_in_bounds) }
