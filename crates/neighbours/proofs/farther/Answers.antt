-- By cases on whether c is one of its parent's first two children, and on whether the parent is the root.
use mathlib.Core.Path.{◌≡◌, sym, ◌∙◌}
use mathlib.Core.Logic.{◌≢◌}
use native.Mathlib.Omega.{arith}
use lib.ListN.{length}
use Rattle.tree_theory.specs.Chain.{parent_of}
use Rattle.direct_theory.specs.Children.{child_of}
use Rattle.neighbours.proofs.Listing.{farther-second, farther-child, farther-own}
use Rattle.neighbours.proofs.farther.Goals as goal
use Rattle.neighbours.proofs.farther.Goals.{then-c-first+else-c-second, else-c-first}

pub returns-then-c-second : goal.returns-then-c-second
returns-then-c-second c = c.child-second.ensures ∙ sym (farther-second (length c.args.parents.now) (parent_of c.args.parents.now) c.args.c
    (omega (arith, c.if-c-first.true, c.child-first.ensures)) (omega (arith, c.if-c-second.true, c.child-second.ensures)))

-- c is one of the first two where neither test returned
pub returns-then-w-parents : goal.returns-then-w-parents
returns-then-w-parents c = let K = length c.args.parents.now in let par = parent_of c.args.parents.now in let v = c.args.c in
    let two : v ≢ child_of K par (par v) 0 → v ≡ child_of K par (par v) 1 =
    elim c.if-c-first.branch [
      | then-c-first+else-c-second w ↦ λ n. omega (arith, w.if-c-second.false, c.child-second.ensures)
      | else-c-first w ↦ λ n. absurd (omega (arith, w.if-c-first.false, n, c.child-first.ensures))
    ] in
    c.child.ensures ∙ sym (farther-child K par v two (omega (arith, c.if-w-parents.true)))

pub returns : goal.returns
returns c = let K = length c.args.parents.now in let par = parent_of c.args.parents.now in let v = c.args.c in
    let two : v ≢ child_of K par (par v) 0 → v ≡ child_of K par (par v) 1 =
    elim c.if-c-first.branch [
      | then-c-first+else-c-second w ↦ λ n. omega (arith, w.if-c-second.false, c.child-second.ensures)
      | else-c-first w ↦ λ n. absurd (omega (arith, w.if-c-first.false, n, c.child-first.ensures))
    ] in
    sym (farther-own K par v two (omega (arith, c.if-w-parents.false)))
