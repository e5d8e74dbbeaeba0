-- The answer is nothing where a read failed, and else the print by the rule.
use mathlib.Core.Path.{◌≡◌, refl, subst⁻¹}
use mathlib.Core.Bool.{Bool, true, false, cond}
use mathlib.Core.List.{List, []}
use Prim.Native.Nat.{ℕ}
use native.Mathlib.Omega.{arith}
use lib.ListN.{take}
use Rattle.verdict.specs.declared.Rule.{Rule}
use Rattle.std.specs.Prelude.{Result, Ok, Err}
use Rattle.pages.specs.Texts.{ShownOn}
use Rattle.long_lines.specs.LongLines.{long_page_size}
use Rattle.long_prints.specs.LongPrints.{long_text}
use Rattle.long_programs.specs.LongAnswers.{long_answer_text}

pub nothing : (rule : Rule) (taken : Result ℕ ℕ) (before : ℕ) (space text : List ℕ) → taken ≡ Err before → ShownOn long_page_size (long_answer_text rule taken space) text text 0
unfolding long_answer_text
nothing rule taken before space text failed =
    subst⁻¹ (λ (t : Result ℕ ℕ). ShownOn long_page_size (long_answer_text rule t space) text text 0) failed
    (record { written = λ _. record { place = refl; buffer = refl }; short = λ _. (refl, refl); within = omega arith })

pub printed : (rule asked : Rule) (taken : Result ℕ ℕ) (count : ℕ) (space before after : List ℕ) (next : ℕ) → taken ≡ Ok count → rule ≡ asked → ShownOn long_page_size (long_text asked (take count space)) before after next → ShownOn long_page_size (long_answer_text rule taken space) before after next
unfolding long_answer_text
printed rule asked taken count space before after next came is shown =
    subst⁻¹ (λ (t : Result ℕ ℕ). ShownOn long_page_size (long_answer_text rule t space) before after next) came
    (subst⁻¹ (λ (p : Rule). ShownOn long_page_size (long_text p (take count space)) before after next) is shown)
