-- The tests of proposed lengths, in their order (RULES, Numbers of refusal), beside a tree with the given number of
-- edges.
use Rattle.std.specs.Prelude.{Bool, not, ◌||◌, List, ℕ, eqb, ltb, ℤ, pos, nat_abs, length, get_or}
use Rattle.std.specs.Int.Signed.{lt_z}
use Rattle.verdict.specs.Answer.{Answer, pass, fault, test, at_first, ◌or_else◌}
use Rattle.verdict.specs.declared.Place.TheVariants.{Edge}
use Rattle.verdict.specs.declared.Rule.{Rule}
use Rattle.verdict.specs.declared.Rule.TheVariants.{Plain, Drawable}
use Rattle.tree_theory.specs.Limits.{max_edges}
use Rattle.lengths.specs.declared.Ask.{Ask}
use Rattle.lengths.specs.declared.Ask.TheVariants.{InRange, NotNegative}
use Rattle.lengths.specs.Limits.{max_denominator, max_numerator}

-- 11: K, the count of numerators, not V - 1. No allowed tree has more than 125 edges, so more are refused here too.
abbrev pub edges_out : ℕ → List ℤ → Bool
edges_out edges ns = not (eqb (length ns) edges) || ltb max_edges edges

-- 12: D not 1 to 1,000,000
abbrev pub denominator_out : ℕ → Bool
denominator_out D = ltb D 1 || ltb max_denominator D

-- a numerator at fault: beyond its range, or negative where none may be
abbrev pub fault_by : Ask → ℤ → Bool
fault_by InRange n = ltb max_numerator (nat_abs n)
fault_by NotNegative n = lt_z n (pos 0)

-- 13: a numerator beyond its range
abbrev pub numerator_out : List ℤ → ℕ → Bool
numerator_out ns v = fault_by InRange (get_or ns v (pos 0))

-- 22: a negative numerator
abbrev pub is_negative : List ℤ → ℕ → Bool
is_negative ns v = fault_by NotNegative (get_or ns v (pos 0))

-- what the signs of the numerators are asked
abbrev pub sign_tests : Rule → List ℤ → Answer
sign_tests Plain ns = pass
sign_tests Drawable ns = at_first (length ns) (is_negative ns) (λ v. fault 22 (Edge v))

-- the answer that a proposal gets
abbrev pub lengths_tests : ℕ → ℕ → List ℤ → Answer
lengths_tests edges D ns =
    test 11 (edges_out edges ns)
    or_else test 12 (denominator_out D)
    or_else at_first (length ns) (numerator_out ns) (λ v. fault 13 (Edge v))
