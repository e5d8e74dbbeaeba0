-- The whole answer to a sheet by its reader's. A reader that refuses has given the whole answer; one that accepts leaves it to what is
-- asked of the matrix and the tree that it read, and, with lengths, of those.
use mathlib.Core.Path.{◌≡◌, refl, sym, ap, ap₂, ◌∙◌}
use mathlib.Core.Bool.{Bool, true, false, cond, not, ◌&&◌, ◌||◌}
use mathlib.Core.List.{List}
use Prim.Native.Nat.{ℕ, ◌-◌, ◌<◌}
use native.Mathlib.Omega.{arith}
use borrow.Author.Tests.{lt-ltb}
use lib.Dec.{eqb, ltb}
use lib.ListN.{length}
use Rattle.exact.proofs.Decide.{by_cases}
use Rattle.exact.proofs.Fill.{length-table}
use Rattle.verdict.specs.declared.Place.TheVariants.{Nowhere, Edge}
use Rattle.verdict.specs.declared.Refusal.{Refusal}
use Rattle.verdict.specs.Answer.{Answer, pass, fault, answer_of, refusal_of, test, at_first, ◌or_else◌}
use Rattle.verdict.specs.declared.Rule.{Rule}
use Rattle.verdict.proofs.Answers.{passes, or_else_pass, or_else_assoc, not_pass}
use Rattle.matrix.specs.Tests.{matrix_tests}
use Rattle.tree_theory.specs.Limits.{max_edges}
use Rattle.lengths.specs.Tests.{denominator_out, numerator_out, sign_tests}
use Rattle.fit_theory.specs.Tests.{shape_tests, posted_tests, proposal_tests, sums_tests}
use Rattle.records.specs.Form.{form_tests}
use Rattle.records.proofs.InTurn.{stays}
use Rattle.reading.specs.Holds.{strains_of, distances_of, vertices_of, parents_of, denominator_of, edges_of, numerators_of}
use Rattle.reading.specs.Tests.{strains_differ, edges_differ, both_tests, pair_tests, read_tests, held_tests, sheet_tests}

-- the answer where the matrix and the tree pass on to a further test
abbrev pub further_tests : ℕ → List ℕ → Answer → Answer
further_tests count s x =
    form_tests count s
    or_else matrix_tests (strains_of s) (distances_of s)
    or_else test 8 (strains_differ s)
    or_else both_tests count (strains_of s) (distances_of s) (parents_of s)
    or_else x

module _ (count : ℕ) (s : List ℕ) where
  -- the form, the matrix and the tree
  abbrev front : Answer
  front = form_tests count s or_else pair_tests count s

  read_is : read_tests count s ≡ (front or_else test 11 (edges_differ count s))
  read_is = sym (or_else_assoc (form_tests count s) (pair_tests count s) (test 11 (edges_differ count s)))

  further-is : (x : Answer) → further_tests count s x ≡ (front or_else x)
  further-is x = grouped (form_tests count s) (matrix_tests (strains_of s) (distances_of s)) (test 8 (strains_differ s)) (both_tests count (strains_of s) (distances_of s) (parents_of s))
    where
      grouped : (f m d p : Answer) → (f or_else m or_else d or_else p or_else x) ≡ ((f or_else m or_else d or_else p) or_else x)
      grouped f m d p =
          sym (or_else_assoc f (m or_else d or_else p) x
          ∙ ap (λ (k : Answer). f or_else k) (or_else_assoc m (d or_else p) x ∙ ap (λ (k : Answer). m or_else k) (or_else_assoc d p x)))

  -- an accepting reader leaves the answer to the further test
  pub further-asked : read_tests count s ≡ pass → (x : Answer) → further_tests count s x ≡ x
  further-asked z x =
      further-is x ∙ ap (λ (k : Answer). k or_else x) (or_else_pass front (test 11 (edges_differ count s)) (sym read_is ∙ z)).0

  -- a refusing one does not, unless it is for the count of lengths
  refused-by : (x : Answer) → (front ≡ pass → x ≡ test 11 (edges_differ count s)) → (read_tests count s ≡ pass → ⊥) → further_tests count s x ≡ read_tests count s
  refused-by x h n =
      by_cases (passes front)
      (λ z. further-is x ∙ ap (λ (k : Answer). front or_else k) (h z) ∙ sym read_is)
      (λ z. further-is x ∙ stays front x z ∙ sym (stays front (test 11 (edges_differ count s)) z) ∙ sym read_is)

-- ---- without lengths
pub two-asked : (s : List ℕ) → read_tests 2 s ≡ pass → (x : Answer) → further_tests 2 s x ≡ x
two-asked s z x = further-asked 2 s z x

pub two-refused : (s : List ℕ) → (read_tests 2 s ≡ pass → ⊥) → (x : Answer) → further_tests 2 s x ≡ read_tests 2 s
two-refused s n x =
    let z : (front 2 s ≡ pass → ⊥) = λ e. n (read_is 2 s ∙ ap (λ (k : Answer). k or_else pass) e) in
    further-is 2 s x ∙ stays (front 2 s) x z ∙ sym (stays (front 2 s) pass z) ∙ sym (read_is 2 s)

-- ---- with lengths
-- K out is what the lengths are refused for first
first_eleven : (rule : Rule) (s : List ℕ) → edges_differ 3 s ≡ true → proposal_tests rule (strains_of s) (distances_of s) (parents_of s) (denominator_of s) (numerators_of s) ≡ fault 11 Nowhere
first_eleven rule s e =
    ap (λ (b : Bool). (test 11 b or_else test 12 (denominator_out (denominator_of s)) or_else at_first (length (numerators_of s)) (numerator_out (numerators_of s)) (λ v. fault 13 (Edge v)))
    or_else sign_tests rule (numerators_of s) or_else sums_tests rule (strains_of s) (distances_of s) (parents_of s) (denominator_of s) (numerators_of s))
    (ap₂ (λ (a b : ℕ). not (eqb a b) || ltb max_edges (length (parents_of s))) (length-table (edges_of s) _) (length-table (vertices_of s - 1) _)
    ∙ ap (λ (b : Bool). b || ltb max_edges (length (parents_of s))) e)

by_count : (b : Bool) (x : Answer) → (b ≡ true → x ≡ fault 11 Nowhere) → (test 11 b ≡ pass → ⊥) → x ≡ test 11 b
by_count true x h n = h refl
by_count false x h n = absurd (n refl)

-- of three records or four
module _ (count : ℕ) (three : 2 < count) (rule : Rule) (s : List ℕ) where
  abbrev proposal : Answer
  proposal = proposal_tests rule (strains_of s) (distances_of s) (parents_of s) (denominator_of s) (numerators_of s)

  in_further : (form_tests count s or_else held_tests rule s) ≡ further_tests count s proposal
  in_further = let N = strains_of s in let ds = distances_of s in let ps = parents_of s in
      ap (λ (b : Bool). form_tests count s or_else matrix_tests N ds or_else test 8 (strains_differ s) or_else cond b (posted_tests N ds ps) (shape_tests N ds ps) or_else proposal) (sym (lt-ltb 2 count three))

  pub lengths-asked : read_tests count s ≡ pass → (form_tests count s or_else held_tests rule s) ≡ proposal
  lengths-asked z = in_further ∙ further-asked count s z proposal

  pub lengths-refused : (read_tests count s ≡ pass → ⊥) → (form_tests count s or_else held_tests rule s) ≡ read_tests count s
  lengths-refused n =
      let same : edges_differ 3 s ≡ edges_differ count s = ap (λ (b : Bool). b && not (eqb (edges_of s) (vertices_of s - 1))) (sym (lt-ltb 2 count three)) in
      in_further ∙ refused-by count s proposal
      (λ z. by_count (edges_differ count s) proposal (λ e. first_eleven rule s (same ∙ e)) (λ e. n (read_is count s ∙ ap₂ ◌or_else◌ z e)))
      n

  -- the same behind a form that stands
  module _ (form : form_tests count s ≡ pass) where
    behind-form : held_tests rule s ≡ (form_tests count s or_else held_tests rule s)
    behind-form = ap (λ (k : Answer). k or_else held_tests rule s) (sym form)

    pub held-asked : read_tests count s ≡ pass → held_tests rule s ≡ proposal
    held-asked z = behind-form ∙ lengths-asked z

    pub held-refused : (q : Refusal) → refusal_of q ≡ read_tests count s → refusal_of q ≡ held_tests rule s
    held-refused q told = told ∙ sym (behind-form ∙ lengths-refused (λ z. not_pass q (told ∙ z)))

pub sheet-asked : (rule : Rule) (s : List ℕ) → read_tests 3 s ≡ pass
    → sheet_tests rule s ≡ proposal_tests rule (strains_of s) (distances_of s) (parents_of s) (denominator_of s) (numerators_of s)
sheet-asked rule s z = lengths-asked 3 (omega arith) rule s z

pub sheet-refused : (rule : Rule) (s : List ℕ) → (read_tests 3 s ≡ pass → ⊥) → sheet_tests rule s ≡ read_tests 3 s
sheet-refused rule s n = lengths-refused 3 (omega arith) rule s n

-- ---- by the reader's answer: a refusal is the whole answer
pub refused-whole : (rule : Rule) (s : List ℕ) (q : Refusal) → refusal_of q ≡ read_tests 3 s → refusal_of q ≡ sheet_tests rule s
refused-whole rule s q told = told ∙ sym (sheet-refused rule s (λ z. not_pass q (told ∙ z)))

pub refused-two : (s : List ℕ) (q : Refusal) (x : Answer) → refusal_of q ≡ read_tests 2 s → refusal_of q ≡ further_tests 2 s x
refused-two s q x told = told ∙ sym (two-refused s (λ z. not_pass q (told ∙ z)) x)
