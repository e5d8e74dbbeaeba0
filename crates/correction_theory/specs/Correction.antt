-- RULES, One distance corrected: what a correction is asked, and the matrix after it.
use Rattle.std.specs.Prelude.{Bool, ◌||◌, ◌&&◌, List, ℕ, eqb, ltb, leb, get_or, set}
use Rattle.verdict.specs.Answer.{Answer, pass, fault, test, ◌or_else◌}
use Rattle.matrix.specs.Limits.{max_distance}
use Rattle.matrix.specs.Place.{place, pair_place, known}
use Rattle.fit_theory.specs.Tests.{seen_tests}

-- two strains, in either order, and what stands for them from now on: a distance, or the mark of a pair that was not measured
pub record Correction : Type 0 where
  pub i : ℕ
  pub j : ℕ
  pub far : ℕ

-- 24: the two strains are equal, or one is not below N
abbrev pub strains_wrong : ℕ → Correction → Bool
strains_wrong N c = eqb c.i c.j || (leb N c.i || leb N c.j)

-- 7: the distance is above 50,000; the mark passes
abbrev pub far_out : Correction → Bool
far_out c = ltb max_distance (known c.far)

-- what a correction is asked by itself: 24, then 7
abbrev pub pair_tests : ℕ → Correction → Answer
pair_tests N c = test 24 (strains_wrong N c) or_else test 7 (far_out c)

-- the matrix with the new distance in its pair's place
abbrev pub corrected : List ℕ → Correction → List ℕ
corrected ds c = set ds (pair_place c.i c.j) c.far

-- the answer to a correction: 24, 7, then 26 of the corrected matrix
abbrev pub correction_tests : ℕ → List ℕ → List ℕ → Correction → Answer
correction_tests N ds ps c = pair_tests N c or_else seen_tests N (corrected ds c) ps

-- what passes takes effect, what is refused changes nothing
abbrev pub on_pass : {A : Type 0} → Answer → A → A → A
on_pass pass new old = new
on_pass (fault k p) new old = old

-- the matrix after a correction
abbrev pub correct : ℕ → List ℕ → Correction → List ℕ → List ℕ
correct N ps c ds = on_pass (correction_tests N ds ps c) (corrected ds c) ds

-- a correction is of the pair ab, its strains named in either order
abbrev pub of_pair : ℕ → ℕ → Correction → Bool
of_pair a b c = (eqb c.i a && eqb c.j b) || (eqb c.i b && eqb c.j a)

-- what stands for the pair ab, a below b
abbrev pub standing : List ℕ → ℕ → ℕ → ℕ
standing ds a b = get_or ds (place a b) 0
