-- The reader's answer by the answers to the form, to matrix and tree, and to the two counts of the lengths.
use mathlib.Core.Path.{◌≡◌, sym, ap, ap₂, ◌∙◌}
use mathlib.Core.Bool.{Bool, false, not, ◌||◌}
use mathlib.Core.List.{List}
use Prim.Native.Nat.{ℕ, ◌-◌, ◌<◌, ◌≤◌}
use native.Mathlib.Omega.{arith}
use borrow.Author.Tests.{lt-ltb, le-ltb, eq-eqb, ne_eqb}
use lib.Dec.{eqb, ltb}
use Rattle.verdict.specs.declared.Reason.TheVariants.{Edges, Denominator}
use Rattle.verdict.specs.declared.Place.TheVariants.{Nowhere}
use Rattle.verdict.specs.declared.Refusal.{Refusal}
use Rattle.std.specs.Prelude.{Ok, Err}
use Rattle.verdict.specs.Answer.{Answer, pass, refusal_of, test, ◌or_else◌}
use Rattle.front.specs.Holds.{vertices_of}
use Rattle.front.specs.Tests.{pair_tests}
use Rattle.long_theory.specs.Long.{max_levels}
use Rattle.long_records.specs.LongForm.{long_form_tests}
use Rattle.long_reading.specs.declared.LongSheet.{LongSheet}
use Rattle.long_reading.specs.LongHolds.{levels_of, long_edges_of}
use Rattle.long_reading.specs.LongTests.{levels_out, long_counts_tests, long_read_tests}
use Rattle.long_reading.specs.LongReads.{LongHeld, LongAnswer}

module _ (s : List ℕ) where
  answer-refused : (r : Refusal) → long_read_tests s ≡ refusal_of r → LongAnswer s (Err r)
  answer-refused r f = record { answer = sym f; held = tt }

  -- the form's
  pub form-refused : (r : Refusal) → refusal_of r ≡ long_form_tests s → LongAnswer s (Err r)
  form-refused r f = answer-refused r (sym (ap (λ (k : Answer). k or_else pair_tests 3 s or_else long_counts_tests s) f))

  module _ (z : long_form_tests s ≡ pass) where
    past-form : long_read_tests s ≡ (pair_tests 3 s or_else long_counts_tests s)
    past-form = ap (λ (k : Answer). k or_else pair_tests 3 s or_else long_counts_tests s) z

    -- the matrix's and the tree's
    pub pair-refused : (r : Refusal) → refusal_of r ≡ pair_tests 3 s → LongAnswer s (Err r)
    pair-refused r f = answer-refused r (past-form ∙ sym (ap (λ (k : Answer). k or_else long_counts_tests s) f))

    -- the lengths', by what was read of L and K and by how many parents there are
    module _ (y : pair_tests 3 s ≡ pass) (l k edges : ℕ) (e : l ≡ levels_of s) (f : k ≡ long_edges_of s) (g : edges ≡ vertices_of s - 1) where
      past-pair : long_read_tests s ≡ long_counts_tests s
      past-pair = past-form ∙ ap (λ (a : Answer). a or_else long_counts_tests s) y

      pub edges-refused : (k ≡ edges → ⊥) → LongAnswer s (Err (record { reason = Edges; place = Nowhere }))
      edges-refused h = answer-refused (record { reason = Edges; place = Nowhere })
          (past-pair ∙ ap (λ (b : Bool). test 11 (not b) or_else test 12 (levels_out s)) (ne_eqb (long_edges_of s) (vertices_of s - 1) (λ p. h (f ∙ p ∙ sym g))))

      module _ (h : k ≡ edges) where
        past-edges : long_read_tests s ≡ test 12 (levels_out s)
        past-edges = past-pair ∙ ap (λ (b : Bool). test 11 (not b) or_else test 12 (levels_out s)) (eq-eqb (long_edges_of s) (vertices_of s - 1) (sym f ∙ h ∙ g))

        pub none-refused : l ≡ 0 → LongAnswer s (Err (record { reason = Denominator; place = Nowhere }))
        none-refused n = answer-refused (record { reason = Denominator; place = Nowhere })
            (past-edges ∙ ap (λ (b : Bool). test 12 (b || ltb max_levels (levels_of s))) (eq-eqb (levels_of s) 0 (sym e ∙ n)))

        module _ (n : l ≡ 0 → ⊥) where
          some : eqb (levels_of s) 0 ≡ false
          some = ne_eqb (levels_of s) 0 (λ p. n (e ∙ p))

          pub many-refused : max_levels < l → LongAnswer s (Err (record { reason = Denominator; place = Nowhere }))
          many-refused m = answer-refused (record { reason = Denominator; place = Nowhere })
              (past-edges ∙ ap₂ (λ (a b : Bool). test 12 (a || b)) some (lt-ltb max_levels (levels_of s) (omega arith)))

          pub all_held : l ≤ max_levels → (x : LongSheet) → LongHeld s x → LongAnswer s (Ok x)
          all_held m x q =
              let t = past-edges ∙ ap₂ (λ (a b : Bool). test 12 (a || b)) some (le-ltb max_levels (levels_of s) (omega arith)) in
              record { answer = sym t; held = q }
