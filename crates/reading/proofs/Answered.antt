-- The reader's answer by the answers to the form, to matrix and tree, and to the count of the lengths.
use mathlib.Core.Path.{◌≡◌, sym, ap, ◌∙◌}
use mathlib.Core.List.{List}
use Prim.Native.Nat.{ℕ}
use Rattle.verdict.specs.declared.Refusal.{Refusal}
use Rattle.verdict.specs.Answer.{Answer, pass, refusal_of, test, ◌or_else◌}
use Rattle.records.specs.Form.{form_tests}
use Rattle.reading.specs.Tests.{edges_differ, pair_tests, read_tests}

module _ (count : ℕ) (s : List ℕ) where
  -- the form's
  pub form-refused : (r : Refusal) → refusal_of r ≡ form_tests count s → refusal_of r ≡ read_tests count s
  form-refused r e = ap (λ (k : Answer). k or_else pair_tests count s or_else test 11 (edges_differ count s)) e

  module _ (z : form_tests count s ≡ pass) where
    past-form : read_tests count s ≡ (pair_tests count s or_else test 11 (edges_differ count s))
    past-form = ap (λ (k : Answer). k or_else pair_tests count s or_else test 11 (edges_differ count s)) z

    -- the matrix's and the tree's
    pub pair-refused : (r : Refusal) → refusal_of r ≡ pair_tests count s → refusal_of r ≡ read_tests count s
    pair-refused r e = ap (λ (k : Answer). k or_else test 11 (edges_differ count s)) e ∙ sym past-form

    -- past them, the lengths'
    pub past-pair : pass ≡ pair_tests count s → test 11 (edges_differ count s) ≡ read_tests count s
    past-pair e = ap (λ (k : Answer). k or_else test 11 (edges_differ count s)) e ∙ sym past-form
