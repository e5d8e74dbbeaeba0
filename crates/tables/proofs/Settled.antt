-- What a contract leaves open: nothing. Any two results that meet it, of the same input, are the same.
-- `one_split`: of split sums. `one-paths`: of path lengths.
use mathlib.Core.Path.{◌≡◌, sym, ◌∙◌, subst}
use mathlib.Core.List.{List}
use Prim.Native.Nat.{ℕ, ◌<◌}
use native.Mathlib.Omega.{arith}
use lib.IntN.{ℤ, pos}
use lib.ListN.{length, get_or}
use lib.Seq.{ext_get_or}
use borrow.Author.Tests.{eqb-true, not-false}
use lib.Dec.{eqb}
use Rattle.exact.proofs.Decide.{by_cases}
use Rattle.verdict.specs.Answer.{pass, test, ◌or_else◌}
use Rattle.verdict.specs.Answer.{Verdict}
use Rattle.verdict.proofs.Answers.{passes, same_answer, or_else_pass, test-pass}
use Rattle.matrix.specs.Place.{pair_count, row_place}
use Rattle.matrix.proofs.Places.{row-place-onto}
use Rattle.tree_theory.specs.Tests.{tree_tests}
use Rattle.lengths.specs.Tests.{lengths_tests}
use Rattle.fit_theory.specs.Tests.{split_tests, paths_tests, buffer_out}
use Rattle.tables.specs.Answers.{SplitAnswer, PathsAnswer}

pub one_split : {N : ℕ} {ds ps : List ℕ} {before after after' : List ℤ} {r r' : Verdict}
    → SplitAnswer N ds ps before after r → SplitAnswer N ds ps before after' r' → (after ≡ after') × (r ≡ r')
one_split {N} {ds} {ps} {before} {r = r} {r' = r'} a b = (
  by_cases (passes (split_tests N ds ps (length before))) (λ z. a.filled z ∙ sym (b.filled z)) (λ z. a.kept z ∙ sym (b.kept z)),
  same_answer r r' (a.answer ∙ sym b.answer),
)

-- two buffers of one entry for each pair that agree at every pair
same-pairs : (N : ℕ) (l l' : List ℤ) → length l ≡ pair_count N → length l' ≡ length l
    → ((i j : ℕ) → i < j → j < N → get_or l (row_place N i j) (pos 0) ≡ get_or l' (row_place N i j) (pos 0)) → l ≡ l'
same-pairs N l l' e f h = ext_get_or (pos 0) l l' (sym f) (λ k lt.
    let at = row-place-onto N k (omega arith) in
    subst (λ (p : ℕ). get_or l p (pos 0) ≡ get_or l' p (pos 0)) at.there (h at.i at.j at.rising at.strain))

-- what passed has a buffer of the right size
paths-sized : (N : ℕ) (ps : List ℕ) (D : ℕ) (ns : List ℤ) (size : ℕ) → paths_tests N ps D ns size ≡ pass → size ≡ pair_count N
paths-sized N ps D ns size z =
    let rest = (or_else_pass (tree_tests N ps) (lengths_tests (length ps) D ns or_else test 15 (buffer_out size (pair_count N))) z).1 in
    let last = (or_else_pass (lengths_tests (length ps) D ns) (test 15 (buffer_out size (pair_count N))) rest).1 in
    eqb-true size (pair_count N) (not-false (eqb size (pair_count N)) (test-pass 15 (buffer_out size (pair_count N)) last))

pub one-paths : {N : ℕ} {ps : List ℕ} {D : ℕ} {ns before after after' : List ℤ} {r r' : Verdict}
    → PathsAnswer N ps D ns before after r → PathsAnswer N ps D ns before after' r' → (after ≡ after') × (r ≡ r')
one-paths {N} {ps} {D} {ns} {before} {after} {after'} {r} {r'} a b = (
  by_cases (passes (paths_tests N ps D ns (length before)))
      (λ z. same-pairs N after after' (a.size ∙ paths-sized N ps D ns (length before) z) (b.size ∙ sym a.size)
      (λ i j h k. a.filled z i j h k ∙ sym (b.filled z i j h k)))
      (λ z. a.kept z ∙ sym (b.kept z)),
  same_answer r r' (a.answer ∙ sym b.answer),
)
