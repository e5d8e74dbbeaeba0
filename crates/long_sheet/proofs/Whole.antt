-- The whole answer to a long sheet by its reader's. A reader that refuses has given the whole answer; one that accepts leaves it to what the
-- lengths are asked.
use mathlib.Core.Path.{◌≡◌, refl, sym, ap, ◌∙◌}
use mathlib.Core.List.{List}
use Prim.Native.Nat.{ℕ}
use Rattle.verdict.specs.declared.Refusal.{Refusal}
use Rattle.std.specs.Prelude.{Err}
use Rattle.verdict.specs.declared.Rule.{Rule}
use Rattle.verdict.specs.Answer.{Answer, pass, fault, refusal_of, test, ◌or_else◌}
use Rattle.matrix.specs.Tests.{matrix_tests}
use Rattle.fit_theory.specs.Tests.{posted_tests}
use Rattle.front.specs.Holds.{strains_of, distances_of, parents_of}
use Rattle.front.specs.Tests.{strains_differ}
use Rattle.long_records.specs.LongForm.{long_form_tests}
use Rattle.long_reading.specs.LongTests.{long_edges_differ, levels_out, long_read_tests}
use Rattle.long_reading.specs.LongReads.{LongAnswer}
use Rattle.long_sheet.specs.LongSheets.{long_lengths_of, long_sheet_tests}

-- the first six tests are the reader's
grouped : (f m d p k l x : Answer) → (f or_else m or_else d or_else p or_else k or_else l or_else x) ≡ ((f or_else (m or_else d or_else p) or_else k or_else l) or_else x)
grouped (fault n q) m d p k l x = refl
grouped pass (fault n q) d p k l x = refl
grouped pass pass (fault n q) p k l x = refl
grouped pass pass pass (fault n q) k l x = refl
grouped pass pass pass pass (fault n q) l x = refl
grouped pass pass pass pass pass l x = refl

module _ (rule : Rule) (s : List ℕ) where
  pub by_reader : long_sheet_tests rule s ≡ (long_read_tests s or_else long_lengths_of rule s)
  by_reader = grouped (long_form_tests s) (matrix_tests (strains_of s) (distances_of s)) (test 8 (strains_differ s)) (posted_tests (strains_of s) (distances_of s) (parents_of s))
      (test 11 (long_edges_differ s)) (test 12 (levels_out s)) (long_lengths_of rule s)

  pub lengths-asked : long_read_tests s ≡ pass → long_sheet_tests rule s ≡ long_lengths_of rule s
  lengths-asked z = by_reader ∙ ap (λ (a : Answer). a or_else long_lengths_of rule s) z

  pub refused-whole : (q : Refusal) → LongAnswer s (Err q) → refusal_of q ≡ long_sheet_tests rule s
  refused-whole q a = sym (by_reader ∙ ap (λ (b : Answer). b or_else long_lengths_of rule s) (sym a.answer))
