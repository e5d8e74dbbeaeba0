-- The tests of `fit_resolved`: the first refusal counts, and what passes all of them is a resolved tree with a complete matrix, beside three buffers
-- of the right size. A refusal writes nothing.
use mathlib.Core.Path.{◌≡◌, refl, sym, ◌∙◌, ap, ap₂}
use mathlib.Core.Bool.{Bool, true, false, ◌||◌, false≢true}
use mathlib.Core.List.{List}
use Prim.Native.Nat.{ℕ}
use native.Mathlib.Decide.{ℕ_discrete}
use borrow.Author.Tests.{ne_eqb}
use lib.IntN.{ℤ, pos}
use lib.ListN.{length}
use Rattle.exact.proofs.Decide.{by_cases, eq_yes}
use Rattle.verdict.specs.Answer.{Answer, pass, number, number_of, refusal_of, test, ◌or_else◌}
use Rattle.verdict.specs.declared.Refusal.{Refusal}
use Rattle.std.specs.Prelude.{Result, Ok, Err}
use Rattle.verdict.proofs.Answers.{or_else_pass, or_else_assoc, not_pass, test-pass, or_none}
use Rattle.matrix.specs.Place.{some_missing}
use Rattle.fit_theory.specs.Stands.{Shaped}
use Rattle.fit_theory.specs.Tests.{buffer_out, shape_tests}
use Rattle.fit_theory.proofs.Exactly.{→shaped}
use Rattle.direct_theory.specs.Tests.{degree_tests, direct_only, buffers_out, resolved_tests, direct_tests}
use Rattle.direct_fit.specs.declared.DirectFit.{DirectFit}
use Rattle.direct_fit.specs.Answers.{DirectAnswer, LengthsAnswer}

same_size : (a b : ℕ) → buffer_out a b ≡ false → a ≡ b
same_size a b e = by_cases (ℕ_discrete a b) (λ q. q) (λ n. absurd (false≢true (sym e ∙ off n)))
  where
    off : (a ≡ b → ⊥) → buffer_out a b ≡ true
    off n = rw (ne_eqb a b n)

-- ---- the tests in order, behind those of the matrix with the tree
module _ (N : ℕ) (ds ps : List ℕ) (a b c : ℕ) where
  abbrev rest : Answer
  rest = direct_only N ds ps or_else test 15 (buffers_out (length ps) a b c)

  pub in_order : (shape_tests N ds ps or_else rest) ≡ direct_tests N ds ps a b c
  in_order = sym (or_else_assoc (shape_tests N ds ps) (direct_only N ds ps) (test 15 (buffers_out (length ps) a b c)))

  pub first : (k : Refusal) → refusal_of k ≡ shape_tests N ds ps → refusal_of k ≡ direct_tests N ds ps a b c
  first k e = ap (λ (x : Answer). x or_else rest) e ∙ in_order

  module _ (z : pass ≡ shape_tests N ds ps) where
    pub shaped : Shaped N ds ps
    shaped = →shaped N ds ps (sym z)

    behind : rest ≡ direct_tests N ds ps a b c
    behind = ap (λ (x : Answer). x or_else rest) z ∙ in_order

    pub second : (k : Refusal) → refusal_of k ≡ direct_only N ds ps → refusal_of k ≡ direct_tests N ds ps a b c
    second k e = ap (λ (x : Answer). x or_else test 15 (buffers_out (length ps) a b c)) e ∙ behind

    pub third : pass ≡ direct_only N ds ps → test 15 (buffers_out (length ps) a b c) ≡ direct_tests N ds ps a b c
    third e = ap (λ (x : Answer). x or_else test 15 (buffers_out (length ps) a b c)) e ∙ behind

-- ---- what passes all tests
pub record Passed (N : ℕ) (ds ps : List ℕ) (a b c : ℕ) : Type 0 where
  pub shaped : Shaped N ds ps
  pub resolved : direct_only N ds ps ≡ pass
  pub first : a ≡ length ps
  pub second : b ≡ length ps
  pub third : c ≡ length ps

pub passed : (N : ℕ) (ds ps : List ℕ) (a b c : ℕ) → direct_tests N ds ps a b c ≡ pass → Passed N ds ps a b c
passed N ds ps a b c z = record {
  shaped = →shaped N ds ps before.0;
  resolved = before.1;
  first = same_size a (length ps) sizes.0;
  second = same_size b (length ps) others.0;
  third = same_size c (length ps) others.1;
}
  where
    all : (resolved_tests N ds ps ≡ pass) × (test 15 (buffers_out (length ps) a b c) ≡ pass)
    all = or_else_pass (resolved_tests N ds ps) (test 15 (buffers_out (length ps) a b c)) z

    before : (shape_tests N ds ps ≡ pass) × (direct_only N ds ps ≡ pass)
    before = or_else_pass (shape_tests N ds ps) (direct_only N ds ps) all.0

    sizes : (buffer_out a (length ps) ≡ false) × ((buffer_out b (length ps) || buffer_out c (length ps)) ≡ false)
    sizes = or_none (buffer_out a (length ps)) (buffer_out b (length ps) || buffer_out c (length ps)) (test-pass 15 (buffers_out (length ps) a b c) all.1)

    others : (buffer_out b (length ps) ≡ false) × (buffer_out c (length ps) ≡ false)
    others = or_none (buffer_out b (length ps)) (buffer_out c (length ps)) sizes.1

-- ---- the same as a number
module _ (N : ℕ) (ds ps : List ℕ) (nb na : List ℤ) (eb ea : List ℕ) (mb ma : List ℤ) (k : ℕ) where
  pub lengths-told : (r : Result DirectFit Refusal) → DirectAnswer N ds ps nb na eb ea mb ma r → k ≡ number_of r → LengthsAnswer N ds ps nb na eb ea mb ma k
  lengths-told (Ok x) p e = record {
    number = e ∙ ap number p.answer;
    tops = λ _. p.fit.tops;
    bottoms = λ _. p.fit.bottoms;
    rounded = λ _. p.fit.rounded;
    kept = λ n. absurd (n (sym p.answer));
  }
  lengths-told (Err q) p e = record {
    number = e ∙ ap number p.answer;
    tops = λ z. absurd (not_pass q (p.answer ∙ z));
    bottoms = λ z. absurd (not_pass q (p.answer ∙ z));
    rounded = λ z. absurd (not_pass q (p.answer ∙ z));
    kept = λ _. p.kept;
  }
