-- The contracts leave one answer and one content of each buffer for every names record and every text: two results that meet them are
-- the same. A text of the form has one row, so it has one answer.
use mathlib.Core.Path.{◌≡◌, refl, sym, ◌∙◌, ap, ap₂}
use mathlib.Core.List.{List}
use Prim.Native.Nat.{ℕ}
use lib.IntN.{ℤ}
use Rattle.exact.proofs.Decide.{by_cases}
use Rattle.verdict.specs.Answer.{Answer, pass, number, answer_of}
use Rattle.verdict.specs.Answer.{Verdict}
use Rattle.std.specs.Prelude.{Result, Ok, Err}
use Rattle.verdict.specs.declared.Refusal.{Refusal}
use Rattle.verdict.proofs.Answers.{passes, not_pass, same_answer, same_refusal}
use Rattle.names.specs.Record.{record_count}
use Rattle.newick_text.specs.Tree.{Row}
use Rattle.newick_text.specs.Tests.{row_tests}
use Rattle.newick_text.proofs.Unique.{one-row}
use Rattle.newick_survey.specs.Text.{find_in, Answered, by_names, by_form, by_row}
use Rattle.newick_read.specs.declared.Sizes.{Sizes}
use Rattle.newick_read.specs.Answers.{SizesAnswer, read_tests, Reads, NumberAnswer}
use Rattle.newick_read.proofs.Reading.{passed-row}

-- names and a text have one answer
one_answer : (names text : List ℕ) (rows : Row → Answer) (a b : Answer) → Answered names text rows a → Answered names text rows b → a ≡ b
one_answer names text rows a b (by_names n e) (by_names m f) = e ∙ sym f
one_answer names text rows a b (by_names n e) (by_form h m f) = absurd (n h)
one_answer names text rows a b (by_names n e) (by_row h r x f) = absurd (n h)
one_answer names text rows a b (by_form h n e) (by_names m f) = absurd (m h)
one_answer names text rows a b (by_form h n e) (by_form g m f) = e ∙ sym f
one_answer names text rows a b (by_form h n e) (by_row g r x f) = absurd (n r x)
one_answer names text rows a b (by_row h r x e) (by_names m f) = absurd (m h)
one_answer names text rows a b (by_row h r x e) (by_form g m f) = absurd (m r x)
one_answer names text rows a b (by_row h r x e) (by_row g q y f) = e ∙ ap rows (one-row text r q x y) ∙ sym f

module _ (names text : List ℕ) where
  pub one_survey : (v w : Result Sizes Refusal) → SizesAnswer names text v → SizesAnswer names text w → v ≡ w
  one_survey v w a b = go v w a b (one_answer names text rows (answer_of v) (answer_of w) a.answer b.answer)
    where
      rows : Row → Answer
      rows = row_tests (find_in names) (record_count names)

      sized : ℕ → ℕ → Sizes
      sized n k = record { strains = n; edges = k }

      go : (v w : Result Sizes Refusal) → SizesAnswer names text v → SizesAnswer names text w → answer_of v ≡ answer_of w → v ≡ w
      go (Ok x) (Ok y) a b e =
          let f = passed-row names text rows pass a.answer refl in
          let i = a.held f.row f.text in
          let j = b.held f.row f.text in
          ap Ok (ap₂ sized (i.0 ∙ sym j.0) (i.1 ∙ sym j.1))
      go (Ok x) (Err g) a b e = absurd (not_pass g (sym e))
      go (Err f) (Ok y) a b e = absurd (not_pass f e)
      go (Err f) (Err g) a b e = ap Err (same_refusal f g e)

  module _ (p q q' : List ℕ) (x y y' : List ℤ) where
    one_reading : (a b : Answer) → Reads names text p q x y a → Reads names text p q' x y' b → (a ≡ b) × (q ≡ q') × (y ≡ y')
    one_reading a b s t =
        let e = one_answer names text (read_tests names p x) a b s.answer t.answer in
        by_cases (passes a)
        (λ ok. let f = passed-row names text (read_tests names p x) a s.answer ok in
        let i = s.filled ok f.row f.text in
        let j = t.filled (sym e ∙ ok) f.row f.text in
        (e, i.0 ∙ sym j.0, i.1 ∙ sym j.1))
        (λ no. let i = s.kept no in let j = t.kept (λ z. no (e ∙ z)) in (e, i.0 ∙ sym j.0, i.1 ∙ sym j.1))

    pub settled : (v w : Verdict) → Reads names text p q x y (answer_of v) → Reads names text p q' x y' (answer_of w) → (v ≡ w) × (q ≡ q') × (y ≡ y')
    settled v w s t = let o = one_reading (answer_of v) (answer_of w) s t in (same_answer v w o.0, o.1, o.2)

    pub settled-number : (n m : ℕ) → NumberAnswer names text p q x y n → NumberAnswer names text p q' x y' m → (n ≡ m) × (q ≡ q') × (y ≡ y')
    settled-number n m s t = let o = one_reading s.answer t.answer s.reads t.reads in (s.number_is ∙ ap number o.0 ∙ sym t.number_is, o.1, o.2)
