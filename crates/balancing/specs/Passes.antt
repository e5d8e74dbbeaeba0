-- The passes over the edges' sums: which edges are asked, and the answer at the lowest one at fault.
use Rattle.std.specs.Prelude.{Bool, not, ◌&&◌, ℕ, eqb, ℤ, pos, nat_abs}
use Rattle.std.specs.Int.Signed.{lt_z}
use Rattle.verdict.specs.Answer.{Answer, fault, at_first}
use Rattle.verdict.specs.declared.Place.TheVariants.{EdgeSum}
use Rattle.balancing.specs.declared.Pass.{Pass}
use Rattle.balancing.specs.declared.Pass.TheVariants.{All, Positive, Zero}

-- an edge with the numerator n and the sum x is at fault
abbrev pub fault_by : Pass → ℤ → ℤ → Bool
fault_by All n x = not (eqb (nat_abs x) 0)
fault_by Positive n x = lt_z (pos 0) n && not (eqb (nat_abs x) 0)
fault_by Zero n x = not (not (eqb (nat_abs n) 0)) && lt_z (pos 0) x

abbrev pub number_by : Pass → ℕ
number_by All = 14
number_by Positive = 14
number_by Zero = 23

abbrev pub pass_tests : Pass → ℕ → (ℕ → ℤ) → (ℕ → ℤ) → Answer
pass_tests pass K n x = at_first K (λ v. fault_by pass (n v) (x v)) (λ v. fault (number_by pass) (EdgeSum v (x v)))
