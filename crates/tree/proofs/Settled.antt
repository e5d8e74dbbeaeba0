-- The contracts leave no choice: any two results that meet one on the same input are equal.
use mathlib.Core.Path.{◌≡◌, sym, ◌∙◌, ap, ap₂}
use mathlib.Core.List.{List}
use Prim.Native.Nat.{ℕ}
use Rattle.std.specs.Prelude.{Result}
use Rattle.verdict.specs.Answer.{Verdict}
use Rattle.verdict.specs.Answer.{answer_of}
use Rattle.verdict.proofs.Answers.{same_answer, one_result}
use Rattle.tree.specs.declared.Tree.{Tree}
use Rattle.verdict.specs.declared.Refusal.{Refusal}
use Rattle.tree_theory.specs.Tests.{tree_tests}
use Rattle.tree.specs.Kept.{Kept, TreeAnswer}

-- `check_tree`
pub one_answer : (N : ℕ) (ps : List ℕ) (v w : Verdict) → answer_of v ≡ tree_tests N ps → answer_of w ≡ tree_tests N ps → v ≡ w
one_answer N ps v w p q = same_answer v w (p ∙ sym q)

same-tree : (s t : Tree) → s.n ≡ t.n → s.edges ≡ t.edges → s.parents ≡ t.parents → s ≡ t
same-tree s t a b c = ap₂ (λ x y. made x y s.parents) a b ∙ ap (made t.n t.edges) c
  where
    made : ℕ → ℕ → List ℕ → Tree
    made x y z = record { n = x; edges = y; parents = z }

same_kept : (N : ℕ) (ps : List ℕ) (s t : Tree) → Kept N ps s → Kept N ps t → s ≡ t
same_kept N ps s t p q = same-tree s t (p.strains ∙ sym q.strains) (p.size ∙ sym q.size) (p.parents ∙ sym q.parents)

-- `Tree::new`
pub one-tree : (N : ℕ) (ps : List ℕ) (r s : Result Tree Refusal) → TreeAnswer N ps r → TreeAnswer N ps s → r ≡ s
one-tree N ps r s p q = one_result (Kept N ps) (Kept N ps) (same_kept N ps) r s (p.answer ∙ sym q.answer) p.kept q.kept
