-- The print by names or by numbers, and that the rounded paths of what is accepted are close.
use mathlib.Core.Path.{◌≡◌, refl, sym, ◌∙◌, ap, ap₂, subst}
use mathlib.Core.Bool.{Bool, true, false, cond}
use mathlib.Core.List.{List}
use Prim.Native.Nat.{ℕ, ◌≤◌}
use native.Mathlib.Omega.{arith}
use lib.ListN.{length}
use Rattle.verdict.specs.Answer.{Answer, pass, fault, reason_number, refusal_of, test, ◌or_else◌}
use Rattle.std.specs.Prelude.{Ok, Err}
use Rattle.verdict.specs.declared.Refusal.{Refusal}
use Rattle.verdict.specs.declared.Rule.TheVariants.{Plain}
use Rattle.verdict.proofs.Answers.{or_else_pass}
use Rattle.matrix.specs.Limits.{max_strains}
use Rattle.matrix.specs.Tests.{matrix_tests}
use Rattle.fit_theory.specs.Stands.{Stands}
use Rattle.fit_theory.specs.Tests.{judge_tests}
use Rattle.fit_theory.proofs.Exactly.{→stands}
use Rattle.fit_theory.proofs.Demand3.{least}
use Rattle.writing.specs.Text.{decimal, Wrote}
use Rattle.writing.proofs.Writing.{wrote-within}
use Rattle.lines.specs.Lines.{refused_line}
use Rattle.answer_lines.specs.Texts.{by_answer}
use Rattle.pages.specs.Texts.{ShownOn}
use Rattle.records.specs.Form.{form_tests}
use Rattle.reading.specs.Holds.{strains_of, distances_of, parents_of, denominator_of, numerators_of}
use Rattle.reading.specs.Tests.{strains_differ, read_tests, held_tests, sheet_tests}
use Rattle.reading.proofs.Parts.{shaped}
use Rattle.names.specs.Record.{name_of}
use Rattle.names.proofs.Laws.{name-long, name-size, names-formed}
use Rattle.sheet_names.specs.Labels.{has_names, names_from, label_tests, named_tests, Labelled}
use Rattle.sheet_names.proofs.Labels.{label_form, label_within}
use Rattle.labels.specs.Labels.{number_names}
use Rattle.labels.proofs.Called.{number-name}
use Rattle.pair_lines.specs.Lines.{pairs_page, NamesFrom}
use Rattle.pair_lines.proofs.Numbered.{numbers_from, text-alike}
use Rattle.paths_pages.specs.Texts.{pairs_of_sheet, paths_text, PathsClose}
use Rattle.paths_pages.proofs.Printing.{refusal-written}

-- ---- what passes
pub held-stands : (s : List ℕ) → held_tests Plain s ≡ pass → Stands Plain (strains_of s) (distances_of s) (parents_of s) (denominator_of s) (numerators_of s)
held-stands s e =
    let judge = judge_tests Plain (strains_of s) (distances_of s) (parents_of s) (denominator_of s) (numerators_of s) in
    let behind = (or_else_pass (matrix_tests (strains_of s) (distances_of s)) (test 8 (strains_differ s) or_else judge) e).1 in
    →stands Plain (strains_of s) (distances_of s) (parents_of s) (denominator_of s) (numerators_of s) (or_else_pass (test 8 (strains_differ s)) judge behind).1

-- a sheet that passes, with names or without, holds what stands
held_of : (s : List ℕ) (b : Bool) → cond b (named_tests s) (sheet_tests Plain s) ≡ pass → held_tests Plain s ≡ pass
held_of s true e = (or_else_pass (label_tests s) (held_tests Plain s) e).1
held_of s false e = (or_else_pass (form_tests 3 s) (held_tests Plain s) e).1

pub paths-close : (s : List ℕ) → PathsClose s
paths-close s e = (least Plain (strains_of s) (distances_of s) (parents_of s) (denominator_of s) (numerators_of s) (held-stands s (held_of s (has_names s) e)).fitted).paths

-- ---- a text that was written is shown
pub shown : (s before after : List ℕ) (next : ℕ) (t : List ℕ) → pairs_page ≤ length before → t ≡ paths_text s → Wrote before after 0 t next → ShownOn pairs_page (paths_text s) before after next
shown s before after next t big e w =
    let whole : Wrote before after 0 (paths_text s) next = subst (λ (l : List ℕ). Wrote before after 0 l next) e w in
    record { written = λ _. whole; short = λ l. absurd (omega arith); within = wrote-within whole }

-- ---- by numbers
module _ (s : List ℕ) (no : has_names s ≡ false) (r : List ℕ) (e : r ≡ number_names) where
  pub numbers_lent : read_tests 3 s ≡ pass → NamesFrom r 0 (strains_of s)
  numbers_lent z = numbers_from (strains_of s) (shaped 3 s z).matrix.few r e

  alike : (x : Answer) → (x ≡ pass → strains_of s ≤ max_strains) → by_answer x (pairs_of_sheet (name_of r 0) s) ≡ by_answer x (pairs_of_sheet decimal s)
  alike pass few = text-alike (strains_of s) (distances_of s) (parents_of s) (denominator_of s) (numerators_of s) (name_of r 0) decimal
      (λ i h. ap (λ (l : List ℕ). name_of l 0 i) e ∙ number-name i (omega (arith, few refl)))
  alike (fault k p) few = refl

  pub numbered-text : by_answer (form_tests 3 s or_else held_tests Plain s) (pairs_of_sheet (name_of r 0) s) ≡ paths_text s
  numbered-text = alike (sheet_tests Plain s) (λ z. (held-stands s (held_of s false z)).fitted.posted.matrix.few)
      ∙ sym (ap (λ (b : Bool). cond b (by_answer (named_tests s) (pairs_of_sheet (name_of s (names_from s)) s)) (by_answer (sheet_tests Plain s) (pairs_of_sheet decimal s))) no)

-- ---- by names
module _ (s : List ℕ) (yes : has_names s ≡ true) where
  by_names : by_answer (named_tests s) (pairs_of_sheet (name_of s (names_from s)) s) ≡ paths_text s
  by_names = sym (ap (λ (b : Bool). cond b (by_answer (named_tests s) (pairs_of_sheet (name_of s (names_from s)) s)) (by_answer (sheet_tests Plain s) (pairs_of_sheet decimal s))) yes)

  pub names-refused : {b c : List ℕ} {next : ℕ} (q : Refusal) (k : ℕ) → Labelled s (Err q) → k ≡ reason_number q.reason → pairs_page ≤ length b
      → Wrote b c 0 (refused_line k q.place) next → ShownOn pairs_page (paths_text s) b c next
  names-refused {b} {c} {next} q k a f big w =
      let told : refusal_of q ≡ named_tests s = ap (λ (y : Answer). y or_else held_tests Plain s) a.answer in
      shown s b c next _ big by_names (refusal-written (named_tests s) (pairs_of_sheet (name_of s (names_from s)) s) q k told f w)

  module _ {from : ℕ} (a : Labelled s (Ok from)) where
    passed : label_tests s ≡ pass
    passed = sym a.answer

    pub names-lent : NamesFrom s from (strains_of s)
    names-lent = rw (a.from) (record {
      within = label_within s passed;
      short = λ i h. omega (arith, name-size s (names_from s) (strains_of s) (label_within s passed) i h, (name-long (name_of s (names_from s) i) (names-formed s (names_from s) (strains_of s) (label_form s passed).1 i h)).1);
    })

    pub named-text : by_answer (form_tests 4 s or_else held_tests Plain s) (pairs_of_sheet (name_of s from) s) ≡ paths_text s
    named-text =
        ap₂ (λ (y : Answer) (n : ℕ). by_answer (y or_else held_tests Plain s) (pairs_of_sheet (name_of s n) s)) ((label_form s passed).0 ∙ sym passed) a.from
        ∙ by_names
