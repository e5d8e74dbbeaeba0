-- The writer of a sheet with names, by what was found on the way.
use mathlib.Core.Path.{◌≡◌, refl, sym, ◌∙◌, ap}
use mathlib.Core.Bool.{Bool, not}
use mathlib.Core.List.{List}
use Prim.Native.Nat.{ℕ, ◌-◌}
use native.Mathlib.Omega.{arith}
use borrow.Author.Tests.{eq-eqb}
use lib.ListN.{length, take, drop}
use Rattle.exact.proofs.Fill.{length-table}
use Rattle.verdict.specs.Answer.{Answer, pass, refusal_of, test, ◌or_else◌}
use Rattle.verdict.specs.declared.Rule.TheVariants.{Plain}
use Rattle.std.specs.Prelude.{Ok, Err}
use Rattle.verdict.specs.declared.Refusal.{Refusal}
use Rattle.fit_theory.specs.Quantities.{rounded_of}
use Rattle.writing.specs.Text.{Wrote}
use Rattle.records.specs.Form.{form_tests}
use Rattle.reading.specs.Holds.{parents_of, denominator_of, numerators_of}
use Rattle.reading.specs.Tests.{held_tests}
use Rattle.newick_text.specs.Tree.{max_text}
use Rattle.newick_write.specs.Answers.{tree_text, Tellable, room_out, Told}
use Rattle.newick_sheet.specs.declared.Fitting.{Fitting}
use Rattle.sheet_names.specs.Labels.{label_tests, Labelled}
use Rattle.newick_sheet.specs.Named.{sheet_text_tests, named_text, FittingAnswer}
use Rattle.sheet_names.proofs.Labels.{label_form, label_within}

module _ (s before : List ℕ) where
  abbrev answer : Answer
  answer = sheet_text_tests s (length before)

  -- a refusal, as it is handed back
  pub refused-told : (q : Refusal) → refusal_of q ≡ answer → Told answer (named_text s) before before (Err q)
  refused-told q f = record { answer = f; written = tt; kept = refl }

  pub label_refused : (q : Refusal) → Labelled s (Err q) → refusal_of q ≡ answer
  label_refused q a = ap (λ (b : Answer). (b or_else held_tests Plain s) or_else room_out (length before)) a.answer

  module _ {from : ℕ} (a : Labelled s (Ok from)) where
    passed : label_tests s ≡ pass
    passed = sym a.answer

    pub form-there : form_tests 4 s ≡ pass
    form-there = (label_form s passed).0

    behind : answer ≡ (held_tests Plain s or_else room_out (length before))
    behind = ap (λ (b : Answer). (b or_else held_tests Plain s) or_else room_out (length before)) passed

    pub fit_refused : (q : Refusal) → FittingAnswer s (Err q) → refusal_of q ≡ answer
    fit_refused q f = ap (λ (b : Answer). b or_else room_out (length before)) f.answer ∙ sym behind

    module _ {y : Fitting} (f : FittingAnswer s (Ok y)) where
      -- what is asked of the buffer is what is left to ask
      pub room_told : (v : Answer) → v ≡ room_out (length before) → v ≡ answer
      room_told v e = e ∙ sym (behind ∙ ap (λ (b : Answer). b or_else room_out (length before)) (sym f.answer))

      module _ (room : length before ≡ max_text) where
        pub tell : Tellable s from y.strains (take (y.end - y.parents) (drop y.parents s)) (take y.edges y.lengths) before
        tell = rw (a.from, f.fitted.strains, f.fitted.parents, f.fitted.lengths) (record {
          within = label_within s passed;
          named = (label_form s passed).1;
          allowed = f.fitted.allowed;
          edges = omega (arith, length-table (length (parents_of s)) (rounded_of (denominator_of s) (numerators_of s)));
          room = room;
        })

        pub told : (after : List ℕ) (next : ℕ) → Wrote before after 0 (tree_text s from y.strains (take (y.end - y.parents) (drop y.parents s)) (take y.edges y.lengths)) next
            → Told answer (named_text s) before after (Ok next)
        told after next w = record {
          answer = room_told pass (sym (ap (λ (b : Bool). test 15 (not b)) (eq-eqb (length before) max_text room)));
          written = rw (a.from, f.fitted.strains, f.fitted.parents, f.fitted.lengths) at w;
          kept = tt;
        }
