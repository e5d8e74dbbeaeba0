-- What `Tree::new` gives: the tree, where it is accepted.
use Rattle.std.specs.Prelude.{◌≡◌, List, ℕ, Result, IfOk, length}
use Rattle.exact.specs.Table.{table}
use Rattle.verdict.specs.Answer.{answer_of}
use Rattle.verdict.specs.declared.Refusal.{Refusal}
use Rattle.tree.specs.declared.Tree.{Tree}
use Rattle.tree_theory.specs.Chain.{parent_of}
use Rattle.tree_theory.specs.Limits.{max_edges}
use Rattle.tree_theory.specs.Tests.{tree_tests}

-- an allowed tree: its parents, followed by zeros
pub record Kept (N : ℕ) (ps : List ℕ) (t : Tree) : Type 0 where
  pub strains : t.n ≡ N
  pub size : t.edges ≡ length ps
  pub parents : t.parents ≡ table max_edges (parent_of ps)

-- the whole answer
pub record TreeAnswer (N : ℕ) (ps : List ℕ) (r : Result Tree Refusal) : Type 0 where
  pub answer : answer_of r ≡ tree_tests N ps
  pub kept : IfOk r (λ t. Kept N ps t)
