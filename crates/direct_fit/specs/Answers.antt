-- What `fit_resolved` and `resolved_lengths` give.
use Rattle.std.specs.Prelude.{◌≡◌, List, ℕ, ℤ, Result, IfOk, IfErr, length}
use Rattle.exact.specs.Table.{table}
use Rattle.verdict.specs.Answer.{pass, number, answer_of}
use Rattle.verdict.specs.declared.Refusal.{Refusal}
use Rattle.fit_theory.specs.Quantities.{h_of}
use Rattle.direct_theory.specs.Lengths.{top_of, bottom_of, thousandth_of, square_of, Direct}
use Rattle.direct_theory.specs.Tests.{direct_tests}
use Rattle.direct_fit.specs.declared.DirectFit.{DirectFit}

-- a resolved tree: its lengths in the three buffers, their R and H
pub record Resolves (N : ℕ) (ds ps : List ℕ) (ns : List ℤ) (es : List ℕ) (ms : List ℤ) (x : DirectFit) : Type 0 where
  pub tops : ns ≡ table (length ps) (top_of N ds ps)
  pub bottoms : es ≡ table (length ps) (bottom_of N ds ps)
  pub rounded : ms ≡ table (length ps) (thousandth_of N ds ps)
  pub r : x.r ≡ square_of N ds ps
  pub h : x.h ≡ h_of N ds ps
  pub direct : Direct N ds ps

-- the whole answer; a refusal leaves the three buffers as they were
pub record DirectAnswer (N : ℕ) (ds ps : List ℕ) (nb na : List ℤ) (eb ea : List ℕ) (mb ma : List ℤ) (r : Result DirectFit Refusal) : Type 0 where
  pub answer : answer_of r ≡ direct_tests N ds ps (length nb) (length eb) (length mb)
  pub fit : IfOk r (λ x. Resolves N ds ps na ea ma x)
  pub kept : IfErr r (λ _. (na ≡ nb) × (ea ≡ eb) × (ma ≡ mb))

-- the same without R and H: the number, and the three buffers
pub record LengthsAnswer (N : ℕ) (ds ps : List ℕ) (nb na : List ℤ) (eb ea : List ℕ) (mb ma : List ℤ) (r : ℕ) : Type 0 where
  pub number : r ≡ number (direct_tests N ds ps (length nb) (length eb) (length mb))
  pub tops : direct_tests N ds ps (length nb) (length eb) (length mb) ≡ pass → na ≡ table (length ps) (top_of N ds ps)
  pub bottoms : direct_tests N ds ps (length nb) (length eb) (length mb) ≡ pass → ea ≡ table (length ps) (bottom_of N ds ps)
  pub rounded : direct_tests N ds ps (length nb) (length eb) (length mb) ≡ pass → ma ≡ table (length ps) (thousandth_of N ds ps)
  pub kept : (direct_tests N ds ps (length nb) (length eb) (length mb) ≡ pass → ⊥) → (na ≡ nb) × (ea ≡ eb) × (ma ≡ mb)
