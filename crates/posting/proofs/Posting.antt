-- The tests of a matrix with a tree in order, by the answers to each by itself.
use mathlib.Core.Path.{◌≡◌, sym, ◌∙◌, ap}
use mathlib.Core.Bool.{false}
use mathlib.Core.List.{List}
use Prim.Native.Nat.{ℕ, ◌<◌, ◌≤◌}
use borrow.Author.Tests.{le-ltb}
use lib.ListN.{length}
use Rattle.verdict.specs.Answer.{Answer, pass, fault, answer_of, refusal_of, at_first, ◌or_else◌}
use Rattle.verdict.specs.Table.{first}
use Rattle.verdict.specs.declared.Place.TheVariants.{Edge}
use Rattle.verdict.proofs.Answers.{pass_or_else, at_first_lem}
use Rattle.matrix.specs.Place.{some_missing}
use Rattle.matrix.specs.Tests.{matrix_tests}
use Rattle.tree_theory.specs.Tests.{tree_tests}
use Rattle.fit_theory.specs.Stands.{Shaped}
use Rattle.fit_theory.specs.Tests.{shape_tests, unseen, seen_tests, posted_tests}
use Rattle.fit_theory.proofs.Exactly.{→shaped, posted→}
use Rattle.fit_theory.proofs.Complete.{complete-posted}

-- the answer at the edge that the code found to be the first
module _ (N : ℕ) (ds ps : List ℕ) (v : ℕ) (e : v ≡ first (length ps) (unseen N ds ps)) where
  pub found : v < length ps → fault 26 (Edge v) ≡ seen_tests N ds ps
  found l = sym (at_first_lem (length ps) (unseen N ds ps) (λ u. fault 26 (Edge u)) v l (sym e))

  pub none : length ps ≤ v → pass ≡ seen_tests N ds ps
  none l = rw (sym e, le-ltb v (length ps) l)

-- ---- the matrix and the tree that pass, each by itself
module _ (N : ℕ) (ds ps : List ℕ) (e : pass ≡ matrix_tests N ds) (f : pass ≡ tree_tests N ps) where
  pub shaped : Shaped N ds ps
  shaped = →shaped N ds ps (pass_or_else (sym e) (sym f))

  pub complete : some_missing ds ≡ false → pass ≡ posted_tests N ds ps
  complete z = sym (posted→ N ds ps (complete-posted N ds ps shaped z))
