-- A refusal hands back what was lent. What passes has its new distance in the matrix, and each table moved by the change is that of the
-- corrected matrix.
use mathlib.Core.Path.{◌≡◌, refl, sym, ◌∙◌, ap}
use Prim.Native.Nat.{ℕ}
use native.Mathlib.Omega.{arith}
use lib.IntN.{pos, ◌-ℤ◌}
use lib.ListN.{get_or, set}
use mir.Syntax.{w64}
use mir.Val.{to_z, of_z}
use Rattle.exact.specs.Sum.{ind}
use Rattle.verdict.specs.Answer.{pass}
use Rattle.verdict.proofs.Answers.{handed_on}
use Rattle.matrix.specs.Place.{pair_place, is_measured, known}
use Rattle.correction_theory.specs.Correction.{Correction, pair_tests}
use Rattle.correction_theory.specs.Kept.{before, sum_change, count_change}
use Rattle.correction_theory.proofs.Asked.{Apart, →apart, far-near, pair-passes}
use Rattle.correcting.proofs.Changing.{ind-small, known_small, still}
use Rattle.correcting.proofs.Correcting.{slot, slot-fits, ends, movable-counts, movable-sums, counts-after, sums-after, old_near, refused, passed}
use Rattle.correcting.specs.Answers.{CorrectAnswer}
use Rattle.correcting.proofs.correct.Goals as goal
use Rattle.correcting.proofs.correct.Goals.{After-count_change-of_counts, After-pair_place-at, After-sum_change-of_sums, In_ok-check_correction}

abbrev corr : ℕ → ℕ → ℕ → Correction
corr i j far = record { i = i; j = j; far = far }

-- where every test passed there are two strains, and a distance in range
module _ (e : In_ok-check_correction) where
  tests : pair_tests e.args.n (corr e.args.i e.args.j e.args.far) ≡ pass
  tests = pair-passes e.args.n e.args.parents.now e.args.distances.now (corr e.args.i e.args.j e.args.far) (sym e.in_ok-check_correction.ensures)

  told : Apart e.args.n (corr e.args.i e.args.j e.args.far)
  told = →apart e.args.n (corr e.args.i e.args.j e.args.far) tests

-- by how much the sums move, and the counts, as the machine holds it
module _ (c : After-sum_change-of_sums) where
  abbrev of-sums : In_ok-check_correction
  of-sums = (goal.at.After-sum_change-of_sums c).In_ok-check_correction

  sum_moved : to_z w64 (of_z w64 c.sum_change-of_sums.result) ≡ sum_change of-sums.args.distances.now (corr of-sums.args.i of-sums.args.j of-sums.args.far)
  sum_moved = still (pos (known of-sums.args.far)) (pos (known (before of-sums.args.distances.now (corr of-sums.args.i of-sums.args.j of-sums.args.far)))) (known_small of-sums.args.far (omega arith))
      (omega (arith, old_near of-sums.requires.posted (pair_place of-sums.args.i of-sums.args.j))) c.sum_change-of_sums.result
      (c.sum_change-of_sums.ensures ∙ ap (λ (k : ℕ). pos (known of-sums.args.far) -ℤ pos (known (get_or of-sums.args.distances.now k 0))) c.pair_place-at.ensures)

module _ (c : After-count_change-of_counts) where
  abbrev of-counts : In_ok-check_correction
  of-counts = (goal.at.After-count_change-of_counts c).In_ok-check_correction

  count-moved : to_z w64 (of_z w64 c.count_change-of_counts.result) ≡ count_change of-counts.args.distances.now (corr of-counts.args.i of-counts.args.j of-counts.args.far)
  count-moved = still (ind (is_measured of-counts.args.far)) (ind (is_measured (before of-counts.args.distances.now (corr of-counts.args.i of-counts.args.j of-counts.args.far)))) (ind-small _ _ refl) (ind-small _ _ refl) c.count_change-of_counts.result
      (c.count_change-of_counts.ensures ∙ ap (λ (k : ℕ). ind (is_measured of-counts.args.far) -ℤ ind (is_measured (get_or of-counts.args.distances.now k 0))) c.pair_place-at.ensures)

pub returns-in_err-check_correction : goal.returns-in_err-check_correction
returns-in_err-check_correction c = let a = c.args in
    handed_on (CorrectAnswer a.n a.parents.now (corr a.i a.j a.far) a.distances.now a.distances.now a.sums.now a.counts.now) _ _ c.from_residual.ensures
    (refused a.n a.distances.now a.parents.now (corr a.i a.j a.far) _ c.in_err-check_correction.ensures c.requires)

pub pair_place-at-requires : goal.pair_place-at-requires
pair_place-at-requires c = let a = told c in (omega (arith, a.i-strain, c.requires.posted.matrix.few), omega (arith, a.j-strain, c.requires.posted.matrix.few), a.apart)

pub offset_bounds-distances-at : goal.offset_bounds-distances-at
offset_bounds-distances-at c = omega (arith, c.pair_place-at.ensures, slot-fits c.requires.posted (told (goal.at.offset_bounds-distances-at c).In_ok-check_correction))

pub bounds-distances-at : goal.bounds-distances-at
bounds-distances-at c = omega (arith, c.pair_place-at.ensures, slot c.requires.posted (told (goal.at.bounds-distances-at c).In_ok-check_correction))

pub offset_bounds-distances-at-2 : goal.offset_bounds-distances-at-2
offset_bounds-distances-at-2 c = offset_bounds-distances-at (goal.at.offset_bounds-distances-at-2 c).After-pair_place-at

pub bounds-distances-at-2 : goal.bounds-distances-at-2
bounds-distances-at-2 c = omega (arith, c.pair_place-at.ensures, slot c.requires.posted (told (goal.at.bounds-distances-at-2 c).In_ok-check_correction))

pub move_between-requires : goal.move_between-requires
move_between-requires c = let e = of-sums (goal.at.move_between-requires c).After-sum_change-of_sums in let p = e in
    record {
      movable = movable-sums p.requires.posted _ (known p.args.far) (known (before p.args.distances.now (corr p.args.i p.args.j p.args.far))) p.args.sums.now (sum_moved (goal.at.move_between-requires c).After-sum_change-of_sums) (far-near p.args.n (corr p.args.i p.args.j p.args.far) (tests e)) (old_near p.requires.posted _) p.requires.split;
      i_le_edges = ends p.requires.posted (told e);
    }

pub move_between-requires-2 : goal.move_between-requires-2
move_between-requires-2 c = let e = of-counts (goal.at.move_between-requires-2 c).After-count_change-of_counts in let p = e in
    record {
      movable = movable-counts p.requires.posted _ (is_measured p.args.far) (is_measured (before p.args.distances.now (corr p.args.i p.args.j p.args.far))) p.args.counts.now (count-moved (goal.at.move_between-requires-2 c).After-count_change-of_counts) p.requires.counted;
      i_le_edges = ends p.requires.posted (told e);
    }

pub returns : goal.returns
returns c = let e = of-sums (goal.at.returns c).After-sum_change-of_sums in let p = e in
    passed p.args.n p.args.distances.now p.args.parents.now (corr p.args.i p.args.j p.args.far) e.in_ok-check_correction.ensures _ p.requires.posted
    (ap (λ (k : ℕ). set p.args.distances.now k p.args.far) c.pair_place-at.ensures)
    (sums-after p.requires.posted (told e) _ p.args.sums.now _ (sum_moved (goal.at.returns c).After-sum_change-of_sums) p.requires.split c.move_between.ensures)
    (counts-after p.requires.posted (told e) _ p.args.counts.now _ (count-moved (goal.at.returns c).After-count_change-of_counts) p.requires.counted c.move_between-2.ensures)
