-- `check_degrees`: the first vertex out with no children to spare is the first not of degree three.
use mathlib.Core.Path.{◌≡◌, sym, ◌∙◌}
use mathlib.Core.List.{List}
use Prim.Native.Nat.{ℕ, ◌+◌, ◌≤◌, ◌<◌}
use native.Mathlib.Omega.{arith}
use borrow.Author.Tests.{le-ltb}
use lib.ListN.{length}
use Rattle.verdict.specs.declared.Place.TheVariants.{Vertex}
use Rattle.verdict.specs.Answer.{fault, pass}
use Rattle.verdict.specs.Table.{first}
use Rattle.verdict.proofs.Answers.{at_first_lem}
use Rattle.tree_theory.specs.Chain.{parent_of}
use Rattle.tree_theory.specs.Tests.{children_out}
use Rattle.direct_theory.specs.Tests.{degree_tests}
use Rattle.direct_theory.specs.Children.{degree_out}
use Rattle.direct_theory.proofs.Degrees.{degree-is}
use Rattle.direct_fit.proofs.check_degrees.Goals as goal

-- the answer at the vertex that the code found to be the first
module _ (N : ℕ) (ps : List ℕ) (w : ℕ) (e : w ≡ first (length ps + 1) (children_out 0 N (length ps) (parent_of ps))) where
  lowest : first (length ps + 1) (degree_out N (length ps) (parent_of ps)) ≡ w
  lowest = sym (e ∙ degree-is N (length ps) (parent_of ps))

  found : w ≤ length ps → fault 25 (Vertex w) ≡ degree_tests N ps
  found l = sym (at_first_lem (length ps + 1) (degree_out N (length ps) (parent_of ps)) (λ v. fault 25 (Vertex v)) w (omega arith) lowest)

  none : length ps < w → pass ≡ degree_tests N ps
  none l = rw (lowest, le-ltb w (length ps + 1) (omega arith))

pub returns-then-w-parents : goal.returns-then-w-parents
returns-then-w-parents c = let a = c.args in found a.n a.parents.now c.first_children_out-w.result c.first_children_out-w.ensures c.if-w-parents.true

pub returns : goal.returns
returns c = let a = c.args in none a.n a.parents.now c.first_children_out-w.result c.first_children_out-w.ensures c.if-w-parents.false
