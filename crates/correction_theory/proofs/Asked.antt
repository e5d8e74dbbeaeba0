-- What a correction is told: 24 whatever its distance is, then 7 whatever the matrix is (`strains-first`, `distance_next`). And what the tests
-- say where they pass: 24 that there are two strains (`→apart`), 7 that the distance is in range (`far-near`), 26 that every edge
-- keeps a measured pair; so the corrected matrix passes beside the tree (`corrected-posted`).
use mathlib.Core.Path.{◌≡◌, ◌∙◌}
use mathlib.Core.Bool.{true, false, ◌||◌}
use mathlib.Core.List.{List}
use mathlib.Core.Logic.{◌≢◌}
use Prim.Native.Nat.{ℕ, ◌≤◌, ◌<◌}
use native.Mathlib.Decide.{ℕ_discrete}
use native.Mathlib.Omega.{arith}
use borrow.Author.Tests.{ltb-false, leb-false, eqb-false}
use lib.Dec.{eqb, leb}
use lib.ListN.{set, length-set}
use lib.Seq.{get_or-set_same, get_or-set_other}
use Rattle.exact.proofs.Decide.{by_cases}
use Rattle.verdict.specs.Answer.{pass, fault, test}
use Rattle.verdict.specs.declared.Place.TheVariants.{Nowhere}
use Rattle.verdict.proofs.Answers.{or_else_pass, test-pass, or_none}
use Rattle.matrix.specs.Limits.{max_distance}
use Rattle.matrix.specs.Place.{known}
use Rattle.matrix.specs.Proper.{Proper}
use Rattle.fit_theory.specs.Stands.{Posted}
use Rattle.fit_theory.proofs.Exactly.{→all_seen}
use Rattle.correction_theory.specs.Correction.{Correction, strains_wrong, far_out, pair_tests, corrected, correction_tests}

module _ (N : ℕ) (ds ps : List ℕ) (c : Correction) where
  pub strains-first : strains_wrong N c ≡ true → correction_tests N ds ps c ≡ fault 24 Nowhere
  strains-first e = rw e

  pub distance_next : strains_wrong N c ≡ false → far_out c ≡ true → correction_tests N ds ps c ≡ fault 7 Nowhere
  distance_next e f = rw (e, f)

-- two different strains below N
pub record Apart (N : ℕ) (c : Correction) : Type 0 where
  pub apart : c.i ≢ c.j
  pub i-strain : c.i < N
  pub j-strain : c.j < N

module _ (N : ℕ) (c : Correction) (e : pair_tests N c ≡ pass) where
  strains-right : strains_wrong N c ≡ false
  strains-right = test-pass 24 (strains_wrong N c) (or_else_pass (test 24 (strains_wrong N c)) (test 7 (far_out c)) e).0

  pub →apart : Apart N c
  →apart =
      let (same, out) = or_none (eqb c.i c.j) (leb N c.i || leb N c.j) strains-right in
      let (i-out, j-out) = or_none (leb N c.i) (leb N c.j) out in
      record { apart = eqb-false c.i c.j same; i-strain = leb-false N c.i i-out; j-strain = leb-false N c.j j-out }

  pub far-near : known c.far ≤ max_distance
  far-near = ltb-false max_distance (known c.far) (test-pass 7 (far_out c) (or_else_pass (test 24 (strains_wrong N c)) (test 7 (far_out c)) e).1)

-- a matrix with one entry changed to another in range
set-proper : (N : ℕ) (ds : List ℕ) (k x : ℕ) → Proper N ds → known x ≤ max_distance → Proper N (set ds k x)
set-proper N ds k x s h = record {
  whole = length-set ds k x ∙ s.whole;
  three = s.three;
  few = s.few;
  near = λ m l. by_cases (ℕ_discrete m k)
      (λ q. rw (q, get_or-set_same ds k x 0 (omega (arith, length-set ds k x))) h)
      (λ q. rw (get_or-set_other ds k m x 0 q) (s.near m (omega (arith, length-set ds k x))));
}

module _ (N : ℕ) (ps ds : List ℕ) (c : Correction) (e : correction_tests N ds ps c ≡ pass) where
  pub pair-passes : pair_tests N c ≡ pass
  pair-passes = (or_else_pass (pair_tests N c) _ e).0

  pub corrected-posted : Posted N ds ps → Posted N (corrected ds c) ps
  corrected-posted s = record {
    matrix = set-proper N ds _ c.far s.matrix (far-near N c pair-passes);
    tree = s.tree;
    seen = →all_seen N (corrected ds c) ps (or_else_pass (pair_tests N c) _ e).1;
  }
