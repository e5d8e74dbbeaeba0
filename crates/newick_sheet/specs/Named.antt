-- A sheet with names (RULES, The sheet with names): its answer, and the text of its fitted tree.
use Rattle.std.specs.Prelude.{◌≡◌, List, ℕ, ◌-◌, ◌≤◌, ℤ, length, take, drop, Result, IfOk}
use Rattle.exact.specs.Table.{table}
use Rattle.verdict.specs.Answer.{Answer, pass, answer_of, ◌or_else◌}
use Rattle.verdict.specs.declared.Refusal.{Refusal}
use Rattle.verdict.specs.declared.Rule.TheVariants.{Plain}
use Rattle.tree_theory.specs.Tests.{tree_tests}
use Rattle.fit_theory.specs.Quantities.{rounded_of}
use Rattle.reading.specs.Holds.{strains_of, parents_of, denominator_of, numerators_of}
use Rattle.reading.specs.Tests.{held_tests}
use Rattle.sheet_names.specs.Labels.{names_from, named_tests}
use Rattle.newick_write.specs.Answers.{tree_text, room_out}
use Rattle.newick_sheet.specs.declared.Fitting.{Fitting}

-- with a buffer of so many bytes: 15
abbrev pub sheet_text_tests : List ℕ → ℕ → Answer
sheet_text_tests s room = named_tests s or_else room_out room

-- the lengths in thousandths, an entry for each edge
abbrev pub thousandths_of : List ℕ → List ℤ
thousandths_of s = table (length (parents_of s)) (rounded_of (denominator_of s) (numerators_of s))

-- the text of the tree that it fits
abbrev pub named_text : List ℕ → List ℕ
named_text s = tree_text s (names_from s) (strains_of s) (parents_of s) (thousandths_of s)

-- ---- what is found on the way
-- the fit: the answer, and where it passes the strains, where the parents stand among the bytes, the edges and their thousandths
pub record Fitted (s : List ℕ) (r : Fitting) : Type 0 where
  pub allowed : tree_tests (strains_of s) (parents_of s) ≡ pass
  pub strains : r.strains ≡ strains_of s
  pub starts : r.parents ≤ r.end
  pub ends : r.end ≤ length s
  pub parents : take (r.end - r.parents) (drop r.parents s) ≡ parents_of s
  pub room : r.edges ≤ length r.lengths
  pub size : r.edges ≡ length (take r.edges r.lengths)
  pub lengths : take r.edges r.lengths ≡ thousandths_of s

pub record FittingAnswer (s : List ℕ) (r : Result Fitting Refusal) : Type 0 where
  pub answer : answer_of r ≡ held_tests Plain s
  pub fitted : IfOk r (λ x. Fitted s x)
