-- The answers that each function can give, in their order (RULES, Numbers of refusal).
use Rattle.std.specs.Prelude.{Bool, not, ◌&&◌, List, ℕ, eqb, ℤ, pos, nat_abs, length}
use Rattle.std.specs.Int.Signed.{lt_z}
use Rattle.exact.specs.Table.{entry_of}
use Rattle.verdict.specs.Answer.{Answer, fault, test, at_first, ◌or_else◌}
use Rattle.verdict.specs.declared.Place.TheVariants.{Edge, EdgeSum}
use Rattle.verdict.specs.Table.{some}
use Rattle.verdict.specs.declared.Rule.{Rule}
use Rattle.verdict.specs.declared.Rule.TheVariants.{Plain, Drawable}
use Rattle.matrix.specs.Place.{pair_count}
use Rattle.matrix.specs.Tests.{matrix_tests}
use Rattle.tree_theory.specs.Tests.{tree_tests}
use Rattle.lengths.specs.Tests.{lengths_tests, sign_tests}
use Rattle.fit_theory.specs.Quantities.{parts_in, edge_sum_of}

-- an entry that is not zero
abbrev pub not_zero : (ℕ → ℤ) → ℕ → Bool
not_zero x v = not (eqb (nat_abs (x v)) 0)

-- an entry above zero
abbrev pub is_positive : (ℕ → ℤ) → ℕ → Bool
is_positive x v = lt_z (pos 0) (x v)

-- 14: a positive edge whose sum x is not zero
abbrev pub unbalanced : (ℕ → ℤ) → (ℕ → ℤ) → ℕ → Bool
unbalanced n x v = is_positive n v && not_zero x v

-- 23: a zero edge whose sum x is above zero
abbrev pub pulled : (ℕ → ℤ) → (ℕ → ℤ) → ℕ → Bool
pulled n x v = not (not_zero n v) && is_positive x v

-- what the sums x of the K edges with the numerators n are asked: 14, the lowest edge whose sum is not zero, with its sum; where no
-- length may be negative 14 of positive edges only, then 23
abbrev pub balance_tests : Rule → ℕ → (ℕ → ℤ) → (ℕ → ℤ) → Answer
balance_tests Plain K n x = at_first K (not_zero x) (λ v. fault 14 (EdgeSum v (x v)))
balance_tests Drawable K n x =
    at_first K (unbalanced n x) (λ v. fault 14 (EdgeSum v (x v)))
    or_else at_first K (pulled n x) (λ v. fault 23 (EdgeSum v (x v)))

-- 14, 23: the edges' sums of remainders
abbrev pub sums_tests : Rule → ℕ → List ℕ → List ℕ → ℕ → List ℤ → Answer
sums_tests rule N ds ps D ns = balance_tests rule (length ps) (entry_of ns) (edge_sum_of N ds ps D ns)

-- 15: a lent result buffer of size entries, where due are wanted
abbrev pub buffer_out : ℕ → ℕ → Bool
buffer_out size due = not (eqb size due)

-- what a matrix and a tree are asked, each by itself: 4, 6 to 10, 16
abbrev pub shape_tests : ℕ → List ℕ → List ℕ → Answer
shape_tests N ds ps = matrix_tests N ds or_else tree_tests N ps

-- 26: the lowest edge that parts no measured pair
abbrev pub unseen : ℕ → List ℕ → List ℕ → ℕ → Bool
unseen N ds ps v = not (some N (λ j. some j (λ i. parts_in ds ps v (i, j))))

abbrev pub seen_tests : ℕ → List ℕ → List ℕ → Answer
seen_tests N ds ps = at_first (length ps) (unseen N ds ps) (λ v. fault 26 (Edge v))

-- what a matrix and a tree are asked together: 4, 6 to 10, 16, 26
abbrev pub posted_tests : ℕ → List ℕ → List ℕ → Answer
posted_tests N ds ps = shape_tests N ds ps or_else seen_tests N ds ps

-- what lengths are asked beside a matrix and a tree that pass: 11 to 13, 22, 14, 23
abbrev pub proposal_tests : Rule → ℕ → List ℕ → List ℕ → ℕ → List ℤ → Answer
proposal_tests rule N ds ps D ns = lengths_tests (length ps) D ns or_else sign_tests rule ns or_else sums_tests rule N ds ps D ns

-- the verdict: 4, 6 to 14, 16, 22, 23, 26
abbrev pub judge_tests : Rule → ℕ → List ℕ → List ℕ → ℕ → List ℤ → Answer
judge_tests rule N ds ps D ns = posted_tests N ds ps or_else proposal_tests rule N ds ps D ns

-- the report: 4, 6 to 16, 22, 23, 26
abbrev pub report_tests : Rule → ℕ → List ℕ → List ℕ → ℕ → List ℤ → ℕ → Answer
report_tests rule N ds ps D ns size = judge_tests rule N ds ps D ns or_else test 15 (buffer_out size (length ps))

-- split sums: 4, 6 to 10, 15, 16, 26
abbrev pub split_tests : ℕ → List ℕ → List ℕ → ℕ → Answer
split_tests N ds ps size = posted_tests N ds ps or_else test 15 (buffer_out size (length ps))

-- path lengths: 6, 8 to 13, 15, 16
abbrev pub paths_tests : ℕ → List ℕ → ℕ → List ℤ → ℕ → Answer
paths_tests N ps D ns size = tree_tests N ps or_else lengths_tests (length ps) D ns or_else test 15 (buffer_out size (pair_count N))
