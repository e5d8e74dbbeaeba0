-- The answer is nothing where a read failed, and else the print that is asked for.
use mathlib.Core.Path.{◌≡◌, refl, sym, ap, subst⁻¹}
use mathlib.Core.Bool.{Bool, true, false, cond}
use mathlib.Core.List.{List, []}
use Prim.Native.Nat.{ℕ, ◌≤◌}
use native.Mathlib.Omega.{arith}
use lib.ListN.{take}
use Rattle.writing.specs.Text.{Wrote}
use Rattle.std.specs.Prelude.{Result, Ok, Err}
use Rattle.pages.specs.Texts.{Shown}
use Rattle.programs.specs.declared.Print.{Print}
use Rattle.programs.specs.Answers.{print_of, answer_text}

pub nothing : (print : Print) (taken : Result ℕ ℕ) (before : ℕ) (space text : List ℕ) → taken ≡ Err before → Shown (answer_text print taken space) text text 0
unfolding answer_text
nothing print taken before space text failed =
    subst⁻¹ (λ (t : Result ℕ ℕ). Shown (answer_text print t space) text text 0) failed
    (record { written = λ _. record { place = refl; buffer = refl }; short = λ _. (refl, refl); within = omega arith })

pub printed : (print asked : Print) (taken : Result ℕ ℕ) (count : ℕ) (space before after : List ℕ) (next : ℕ) → taken ≡ Ok count → print ≡ asked → Shown (print_of asked (take count space)) before after next → Shown (answer_text print taken space) before after next
unfolding answer_text
printed print asked taken count space before after next came is shown =
    subst⁻¹ (λ (t : Result ℕ ℕ). Shown (answer_text print t space) before after next) came
    (subst⁻¹ (λ (p : Print). Shown (print_of p (take count space)) before after next) is shown)
