-- After any run of corrections what is kept is what would be worked afresh (`kept-after`). The idea: one step keeps it so (`kept_step`), since the
-- counts tell 26 (`tests_agree`) and the tables move as the sums do; the run is then an induction over its list.
use mathlib.Core.Path.{◌≡◌, refl, sym, ◌∙◌, ap, ap₂, fun_ext}
use mathlib.Core.Bool.{Bool, true, false, cond, ◌||◌, ◌&&◌, false≢true}
use mathlib.Core.List.{List, [], ◌∷◌}
use mathlib.Core.Logic.{◌⊎◌, inl, inr, ⊎_elim}
use Prim.Native.Nat.{ℕ, ◌<◌}
use native.Mathlib.Decide.{dec_lt}
use native.Mathlib.Omega.{arith}
use borrow.Author.Tests.{eqb-true}
use lib.Dec.{eqb}
use lib.IntN.{ℤ, nat_abs}
use lib.ListN.{length, set, get_or}
use lib.Seq.{get_or-set_same, get_or-set_other}
use Rattle.exact.proofs.Decide.{by_cases, eq_yes}
use Rattle.verdict.specs.Answer.{Answer, pass, fault, at_first, ◌or_else◌}
use Rattle.verdict.specs.declared.Place.TheVariants.{Edge}
use Rattle.verdict.proofs.Answers.{at_first_cong}
use Rattle.matrix.specs.Place.{pair_count, place, pair_place}
use Rattle.matrix.proofs.Places.{place-bound, place-one, pair-place-up, pair-place-down}
use Rattle.fit_theory.specs.Stands.{Posted}
use Rattle.fit_theory.specs.Tests.{unseen, seen_tests}
use Rattle.correction_theory.specs.Correction.{Correction, pair_tests, corrected, correction_tests, on_pass, correct, of_pair, standing}
use Rattle.correction_theory.specs.Kept.{afresh, effect, emptied, kept_tests, keep}
use Rattle.correction_theory.specs.Run.{keep_all, passing, last_of, KeptAfter}
use Rattle.correction_theory.proofs.Asked.{Apart, →apart, pair-passes, corrected-posted}
use Rattle.correction_theory.proofs.Moves.{sum_moves, count_moves}
use Rattle.correction_theory.proofs.Counted.{unseen-counts}

-- two rows of tests that differ where the first of them passes only
same_row : (a x y : Answer) → (a ≡ pass → x ≡ y) → (a or_else x) ≡ (a or_else y)
same_row pass x y h = h refl
same_row (fault k p) x y h = refl

module _ (N : ℕ) (ds ps : List ℕ) (whole : length ds ≡ pair_count N) (c : Correction) where
  -- the answer that is read off what is kept is the one that RULES gives
  pub tests_agree : kept_tests N ps c (afresh N ds ps) ≡ correction_tests N ds ps c
  tests_agree = same_row (pair_tests N c) (at_first (length ps) (emptied ps c (afresh N ds ps)) (λ v. fault 26 (Edge v))) (seen_tests N (corrected ds c) ps)
      (λ e. at_first_cong (length ps) (emptied ps c (afresh N ds ps)) (unseen N (corrected ds c) ps) (λ v. fault 26 (Edge v)) (λ v. fault 26 (Edge v))
      (λ v _. ap (λ (z : ℤ). eqb (nat_abs z) 0) (sym (count_moves N ds ps whole c (→apart N c e) v)) ∙ sym (unseen-counts N (corrected ds c) ps v))
      (λ v _. refl))

  -- what a correction that passes makes of what is kept is what is worked afresh
  effect-afresh : Apart N c → effect ps c (afresh N ds ps) ≡ afresh N (corrected ds c) ps
  effect-afresh a = ap₂ (λ (s t : ℕ → ℤ). record { distances = corrected ds c; sums = s; counts = t })
      (fun_ext (λ v. sym (sum_moves N ds ps whole c a v)))
      (fun_ext (λ v. sym (count_moves N ds ps whole c a v)))

  on-afresh : (x : Answer) → (x ≡ pass → Apart N c) → on_pass x (effect ps c (afresh N ds ps)) (afresh N ds ps) ≡ afresh N (on_pass x (corrected ds c) ds) ps
  on-afresh pass h = effect-afresh (h refl)
  on-afresh (fault k p) h = refl

  pub kept_step : keep N ps c (afresh N ds ps) ≡ afresh N (correct N ps c ds) ps
  kept_step = ap (λ (x : Answer). on_pass x (effect ps c (afresh N ds ps)) (afresh N ds ps)) tests_agree
      ∙ on-afresh (correction_tests N ds ps c) (λ e. →apart N c (pair-passes N ps ds c e))

-- two tests that both hold, and the second or the first of two such
both : (x y : Bool) → (x && y) ≡ true → (x ≡ true) × (y ≡ true)
both true y e = (refl, e)
both false y e = absurd (false≢true e)

one_of : (x y : Bool) → (x || y) ≡ true → (x ≡ true) ⊎ (y ≡ true)
one_of true y e = inl refl
one_of false y e = inr e

or_second : (x : Bool) {y : Bool} → y ≡ true → (x || y) ≡ true
or_second true e = refl
or_second false e = e

-- the corrected matrix: the new distance where the correction is of the pair, what stood there where it is not
module _ (N : ℕ) (ds : List ℕ) (whole : length ds ≡ pair_count N) (c : Correction) (t : Apart N c) (a b : ℕ) (h : a < b) (l : b < N) where
  in_place : of_pair a b c ≡ true → pair_place c.i c.j ≡ place a b
  in_place e = ⊎_elim
      (λ (z : (eqb c.i a && eqb c.j b) ≡ true). let (q, r) = both (eqb c.i a) (eqb c.j b) z in ap₂ pair_place (eqb-true c.i a q) (eqb-true c.j b r) ∙ pair-place-up a b h)
      (λ (z : (eqb c.i b && eqb c.j a) ≡ true). let (q, r) = both (eqb c.i b) (eqb c.j a) z in ap₂ pair_place (eqb-true c.i b q) (eqb-true c.j a r) ∙ pair-place-down b a (omega arith))
      (one_of (eqb c.i a && eqb c.j b) (eqb c.i b && eqb c.j a) e)

  of-place : place a b ≡ pair_place c.i c.j → of_pair a b c ≡ true
  of-place e = by_cases (dec_lt c.i c.j)
      (λ m. let (q, r) = place-one a b c.i c.j h m (e ∙ pair-place-up c.i c.j m) in rw (eq_yes (sym q), eq_yes (sym r)))
      (λ m. let n = t.apart in let m' : c.j < c.i = omega arith in
      let (q, r) = place-one a b c.j c.i h m' (e ∙ pair-place-down c.i c.j (omega arith)) in
      or_second (eqb c.i a && eqb c.j b) (rw (eq_yes (sym r), eq_yes (sym q))))

  entry-after : standing (corrected ds c) a b ≡ cond (of_pair a b c) c.far (standing ds a b)
  entry-after = by (of_pair a b c) refl
    where
      by : (q : Bool) → of_pair a b c ≡ q → standing (corrected ds c) a b ≡ cond q c.far (standing ds a b)
      by true e = ap (λ (k : ℕ). get_or (set ds k c.far) (place a b) 0) (in_place e) ∙ get_or-set_same ds (place a b) c.far 0 (omega (arith, whole, place-bound N a b h l))
      by false e = get_or-set_other ds (pair_place c.i c.j) (place a b) c.far 0 (λ p. false≢true (sym e ∙ of-place p))

module _ (N : ℕ) (ps : List ℕ) where
  on-entry : (ds : List ℕ) (c : Correction) → length ds ≡ pair_count N → (a b : ℕ) → a < b → b < N → (cs : List Correction) (x : Answer) → (x ≡ pass → Apart N c)
      → last_of a b cs (standing (on_pass x (corrected ds c) ds) a b) ≡ last_of a b (on_pass x (c ∷ cs) cs) (standing ds a b)
  on-entry ds c whole a b h l cs pass t = ap (last_of a b cs) (entry-after N ds whole c (t refl) a b h l)
  on-entry ds c whole a b h l cs (fault k p) t = refl

  on-posted : (ds : List ℕ) (c : Correction) (x : Answer) → correction_tests N ds ps c ≡ x → Posted N ds ps → Posted N (on_pass x (corrected ds c) ds) ps
  on-posted ds c pass e s = corrected-posted N ps ds c e s
  on-posted ds c (fault k p) e s = s

  pub step-posted : (ds : List ℕ) (c : Correction) → Posted N ds ps → Posted N (correct N ps c ds) ps
  step-posted ds c = on-posted ds c (correction_tests N ds ps c) refl

  pub kept-after : (cs : List Correction) (ds : List ℕ) → Posted N ds ps → KeptAfter N ds ps cs
  kept-after [] ds s = record { kept = refl; entries = λ a b h l. refl; posted = s }
  kept-after (c ∷ cs) ds s = let r = kept-after cs (correct N ps c ds) (step-posted ds c s) in record {
    kept = ap (keep_all N ps cs) (kept_step N ds ps s.matrix.whole c) ∙ r.kept;
    entries = λ a b h l. r.entries a b h l
        ∙ on-entry ds c s.matrix.whole a b h l (passing N ps cs (correct N ps c ds)) (correction_tests N ds ps c) (λ e. →apart N c (pair-passes N ps ds c e));
    posted = r.posted;
  }
