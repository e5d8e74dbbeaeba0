-- By cases on whether c is its parent's first child.
use mathlib.Core.Path.{sym, ◌∙◌}
use native.Mathlib.Omega.{arith}
use lib.ListN.{length}
use Rattle.tree_theory.specs.Chain.{parent_of}
use Rattle.neighbours.proofs.Listing.{sibling-first, sibling-second}
use Rattle.neighbours.proofs.sibling.Goals as goal

pub returns-then-c-first : goal.returns-then-c-first
returns-then-c-first c = c.child.ensures ∙ sym (sibling-second (length c.args.parents.now) (parent_of c.args.parents.now) c.args.c (omega (arith, c.if-c-first.true) ∙ c.child-first.ensures))

pub returns : goal.returns
returns c = c.child-first.ensures ∙ sym (sibling-first (length c.args.parents.now) (parent_of c.args.parents.now) c.args.c (omega (arith, c.if-c-first.false, c.child-first.ensures)))
