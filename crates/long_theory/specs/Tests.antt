-- The tests of long lengths, in their order (RULES, Long sheets), beside a tree with K edges. Numbers are cut off at 10^12 where only their signs are asked, so the
-- sum of a refusal is the edge's where that is smaller, and else 10^12 with its sign.
use Rattle.std.specs.Prelude.{Bool, not, ◌||◌, ◌&&◌, List, ℕ, ◌*◌, eqb, ltb, ℤ, pos, nat_abs, length, get_or}
use Rattle.std.specs.Int.Signed.{lt_z}
use Rattle.exact.specs.Table.{table, entry_of}
use Rattle.long_digits.specs.Clamp.{clamp, most}
use Rattle.verdict.specs.Answer.{Answer, fault, test, at_first, ◌or_else◌}
use Rattle.verdict.specs.Table.{some}
use Rattle.verdict.specs.declared.Place.TheVariants.{Edge}
use Rattle.verdict.specs.declared.Rule.{Rule}
use Rattle.tree_theory.specs.Limits.{max_edges}
use Rattle.lengths.specs.Tests.{sign_tests}
use Rattle.fit_theory.specs.Quantities.{edge_sum_of}
use Rattle.fit_theory.specs.Tests.{posted_tests, balance_tests}
use Rattle.long_theory.specs.Long.{max_levels, max_length, digit_of, long_denominator, long_numerator, long_numerators}

-- 11: not as many digits as K numerators of as many digits as D has. No allowed tree has more than 125 edges, so more are refused here too
abbrev pub long_edges_out : ℕ → ℕ → List ℤ → Bool
long_edges_out K L ns = not (eqb (length ns) (L * K)) || ltb max_edges K

-- 12: no digits or more than 52, one of them above 999,999, or D zero
abbrev pub long_denominator_out : List ℕ → Bool
long_denominator_out Ds = ltb max_levels (length Ds) || some (length Ds) (λ k. ltb 999999 (get_or Ds k 0)) || eqb (long_denominator (length Ds) Ds) 0

-- digits of an edge's numerator: one beyond 999,999 on either side, or one of each sign
abbrev pub digits_out : ℕ → ℕ → List ℤ → ℕ → Bool
digits_out L K ns v =
    some L (λ k. ltb 999999 (nat_abs (digit_of K ns k v)))
    || (some L (λ k. lt_z (digit_of K ns k v) (pos 0)) && some L (λ k. lt_z (pos 0) (digit_of K ns k v)))

-- 13: these, or a length that is too far from 0
abbrev pub long_numerator_out : ℕ → List ℕ → List ℤ → ℕ → Bool
long_numerator_out K Ds ns v = digits_out (length Ds) K ns v || ltb (max_length * long_denominator (length Ds) Ds) (nat_abs (long_numerator (length Ds) K ns v))

abbrev pub long_lengths_tests : ℕ → List ℕ → List ℤ → Answer
long_lengths_tests K Ds ns =
    test 11 (long_edges_out K (length Ds) ns)
    or_else test 12 (long_denominator_out Ds)
    or_else at_first K (long_numerator_out K Ds ns) (λ v. fault 13 (Edge v))

-- each numerator, cut off
abbrev pub tops_of : ℕ → ℕ → List ℤ → List ℤ
tops_of L K ns = table K (λ v. clamp most (long_numerator L K ns v))

-- each edge's sum, cut off
abbrev pub long_sum_of : ℕ → List ℕ → List ℕ → List ℕ → List ℤ → ℕ → ℤ
long_sum_of N ds ps Ds ns v = clamp most (edge_sum_of N ds ps (long_denominator (length Ds) Ds) (long_numerators (length Ds) (length ps) ns) v)

-- 14, 23
abbrev pub long_sums_tests : Rule → ℕ → List ℕ → List ℕ → List ℕ → List ℤ → Answer
long_sums_tests rule N ds ps Ds ns = balance_tests rule (length ps) (entry_of (tops_of (length Ds) (length ps) ns)) (long_sum_of N ds ps Ds ns)

-- 22, 14, 23
abbrev pub long_fit_tests : Rule → ℕ → List ℕ → List ℕ → List ℕ → List ℤ → Answer
long_fit_tests rule N ds ps Ds ns = sign_tests rule (tops_of (length Ds) (length ps) ns) or_else long_sums_tests rule N ds ps Ds ns

-- what long lengths are asked beside a matrix and a tree that pass
abbrev pub long_proposal_tests : Rule → ℕ → List ℕ → List ℕ → List ℕ → List ℤ → Answer
long_proposal_tests rule N ds ps Ds ns = long_lengths_tests (length ps) Ds ns or_else long_fit_tests rule N ds ps Ds ns

-- the answer to long lengths
abbrev pub long_tests : Rule → ℕ → List ℕ → List ℕ → List ℕ → List ℤ → Answer
long_tests rule N ds ps Ds ns = posted_tests N ds ps or_else long_proposal_tests rule N ds ps Ds ns
