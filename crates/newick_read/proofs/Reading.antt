-- What is gone through becomes the answer: the sizes, and the buffers. Room counts only where the row passes, and there it is room for the
-- row's edges.
use mathlib.Core.Path.{◌≡◌, refl, sym, ◌∙◌, ap, subst}
use mathlib.Core.Bool.{Bool, not, ◌||◌}
use mathlib.Core.List.{List}
use Prim.Native.Nat.{ℕ, ◌≤◌}
use native.Mathlib.Omega.{arith}
use borrow.Author.Tests.{eqb-true, not-false}
use lib.Dec.{eqb}
use lib.IntN.{ℤ, pos}
use lib.ListN.{length, take, length-take}
use Rattle.exact.specs.Table.{table}
use Rattle.exact.proofs.Fill.{length-table}
use Rattle.verdict.specs.Answer.{Answer, pass, refusal_of, test, ◌or_else◌}
use Rattle.verdict.specs.declared.Refusal.{Refusal}
use Rattle.std.specs.Prelude.{Ok, Err}
use Rattle.verdict.specs.declared.Place.TheVariants.{Nowhere}
use Rattle.verdict.proofs.Answers.{refuses, not_pass, test-pass, or_none}
use Rattle.names.specs.Record.{record_count}
use Rattle.newick_text.specs.Length.{value_of}
use Rattle.newick_text.specs.Tree.{Row, node}
use Rattle.newick_text.specs.Tests.{edges_in, row_tests, room_out}
use Rattle.newick_text.proofs.Filling.{filled-length}
use Rattle.newick_form.specs.Form.{Found}
use Rattle.newick_survey.specs.declared.Survey.{Survey}
use Rattle.newick_survey.specs.Text.{find_in, Held, Answered, by_names, by_form, by_row, Surveyed}
use Rattle.newick_read.specs.Answers.{read_tests, Reads}

-- ---- what passes has a row
pub passed-row : (names text : List ℕ) (rows : Row → Answer) (a : Answer) → Answered names text rows a → a ≡ pass → Found text
passed-row names text rows a (by_names n e) ok = absurd (n (sym e ∙ ok))
passed-row names text rows a (by_form h n e) ok = absurd (refuses 28 Nowhere (sym e ∙ ok))
passed-row names text rows a (by_row h r x e) ok = record { row = r; text = x }

module _ (names text : List ℕ) (p : List ℕ) (x : List ℤ) where
  -- a refusal of the names or of the text
  pub read_refused : (f : Refusal) → Surveyed names text (Err f) → Reads names text p p x x (refusal_of f)
  read_refused f w = record { answer = go w.answer; filled = λ ok. absurd (not_pass f ok); kept = λ _. (refl, refl) }
    where
      go : Answered names text (row_tests (find_in names) (record_count names)) (refusal_of f) → Answered names text (read_tests names p x) (refusal_of f)
      go (by_names n e) = by_names n e
      go (by_form g n e) = by_form g n e
      go (by_row g r y e) = by_row g r y (ap (λ (a : Answer). a or_else test 15 (room_out (find_in names) (record_count names) r (length p) (length x))) e)

  -- what is gone through has a row; o is whether the buffers have other room
  module _ {s : Survey} (w : Surveyed names text (Ok s)) (o : Bool) (eo : o ≡ (not (eqb (length p) s.edges) || not (eqb (length x) s.edges))) where
    found : Found text
    found = passed-row names text (row_tests (find_in names) (record_count names)) pass w.answer refl

    held : Held (find_in names) (record_count names) found.row s
    held = w.held found.row found.text

    answered : Answered names text (read_tests names p x) (test 15 o)
    answered = go w.answer
      where
        go : Answered names text (row_tests (find_in names) (record_count names)) pass → Answered names text (read_tests names p x) (test 15 o)
        go (by_names n e) = absurd (n (sym e))
        go (by_form g n e) = absurd (refuses 28 Nowhere (sym e))
        go (by_row g r y e) = by_row g r y (ap (test 15) (eo ∙ ap (λ (k : ℕ). not (eqb (length p) k) || not (eqb (length x) k)) (w.held r y).edges)
            ∙ ap (λ (a : Answer). a or_else test 15 (room_out (find_in names) (record_count names) r (length p) (length x))) e)

    pub room_refused : (f : Refusal) → refusal_of f ≡ test 15 o → Reads names text p p x x (refusal_of f)
    room_refused f e = record {
      answer = subst (Answered names text (read_tests names p x)) (sym e) answered;
      filled = λ ok. absurd (not_pass f ok);
      kept = λ _. (refl, refl);
    }

    -- both pass
    module _ (e : pass ≡ test 15 o) where
      rooms : (length p ≡ s.edges) × (length x ≡ s.edges)
      rooms = let n = or_none (not (eqb (length p) s.edges)) (not (eqb (length x) s.edges)) (sym eo ∙ test-pass 15 o (sym e)) in
          (eqb-true (length p) s.edges (not-false (eqb (length p) s.edges) n.0), eqb-true (length x) s.edges (not-false (eqb (length x) s.edges) n.1))

      -- the fronts of both tables are as long as the buffers
      pub fronts : (s.edges ≤ length s.parents) × (s.edges ≤ length s.numerators) × (length (take s.edges s.parents) ≡ length p) × (length (take s.edges s.numerators) ≡ length x)
      fronts =
          let find = find_in names in
          let N = record_count names in
          let r = found.row in
          let a : length (take s.edges s.parents) ≡ edges_in find N r = ap length held.parents ∙ filled-length find (λ v l. v) (node r) N (table (edges_in find N r) (λ _. 0)) ∙ length-table (edges_in find N r) (λ _. 0) in
          let b : length (take s.edges s.numerators) ≡ edges_in find N r = ap length held.numerators ∙ filled-length find (λ v l. value_of l) (node r) N (table (edges_in find N r) (λ _. pos 0)) ∙ length-table (edges_in find N r) (λ _. pos 0) in
          (omega (arith, a, held.edges, length-take s.edges s.parents), omega (arith, b, held.edges, length-take s.edges s.numerators), omega (arith, a, held.edges, rooms.0), omega (arith, b, held.edges, rooms.1))

      pub read-filled : (q : List ℕ) (y : List ℤ) → q ≡ take s.edges s.parents → y ≡ take s.edges s.numerators → Reads names text p q x y pass
      read-filled q y eq ey = record {
        answer = subst (Answered names text (read_tests names p x)) (sym e) answered;
        filled = λ _ r z. let k = w.held r z in (eq ∙ k.parents, ey ∙ k.numerators);
        kept = λ n. absurd (n refl);
      }
