-- What the correction is asked by itself, then 26 by a copy of the counts, moved: they are the counts of the corrected matrix.
use mathlib.Core.Path.{◌≡◌, refl, sym, ◌∙◌, ap}
use Prim.Native.Nat.{ℕ}
use native.Mathlib.Omega.{arith}
use lib.IntN.{◌-ℤ◌}
use lib.ListN.{length, get_or}
use mir.Syntax.{w64}
use mir.Val.{to_z, of_z}
use Rattle.exact.specs.Sum.{ind}
use Rattle.verdict.specs.Answer.{Answer, ◌or_else◌}
use Rattle.matrix.specs.Place.{is_measured}
use Rattle.tree_theory.specs.EdgeTable.{EdgeTable}
use Rattle.fit_theory.specs.Tests.{seen_tests}
use Rattle.correction_theory.specs.Correction.{Correction, corrected, correction_tests}
use Rattle.correction_theory.specs.Kept.{split_count, before, count_change}
use Rattle.correction_theory.proofs.Asked.{Apart, →apart}
use Rattle.correcting.proofs.Changing.{ind-small, still}
use Rattle.correcting.proofs.Correcting.{slot, slot-fits, ends, movable-counts, counts-after, emptied-at, emptied-none}
use Rattle.correcting.proofs.check_correction.Goals as goal
use Rattle.correcting.proofs.check_correction.Goals.{After-count_change-change, After-move_between, In_ok-check_pair}

abbrev corr : ℕ → ℕ → ℕ → Correction
corr i j far = record { i = i; j = j; far = far }

-- where the first two tests passed there are two strains, and their pair has a place
told : (e : In_ok-check_pair) → Apart e.args.n (corr e.args.i e.args.j e.args.far)
told e = →apart e.args.n (corr e.args.i e.args.j e.args.far) (sym e.in_ok-check_pair.ensures)

-- the counts as they would be
-- by how much they move, as the machine holds it
module _ (c : After-count_change-change) where
  abbrev e : In_ok-check_pair
  e = (goal.at.After-count_change-change c).In_ok-check_pair

  abbrev p : In_ok-check_pair
  p = e

  change : to_z w64 (of_z w64 c.count_change-change.result) ≡ count_change p.args.distances.now (corr p.args.i p.args.j p.args.far)
  change = still (ind (is_measured p.args.far)) (ind (is_measured (before p.args.distances.now (corr p.args.i p.args.j p.args.far)))) (ind-small _ _ refl) (ind-small _ _ refl) c.count_change-change.result
      (c.count_change-change.ensures ∙ ap (λ (k : ℕ). ind (is_measured p.args.far) -ℤ ind (is_measured (get_or p.args.distances.now k 0))) c.pair_place.ensures)

-- the counts as they would be, and 26 read off them
counts : (c : After-move_between) → let p = e (goal.at.After-move_between c).After-count_change-change in
    EdgeTable (length p.args.parents.now) (split_count p.args.n (corrected p.args.distances.now (corr p.args.i p.args.j p.args.far)) p.args.parents.now) c.move_between.new.table
counts c = let q = p (goal.at.After-move_between c).After-count_change-change in
    counts-after q.requires.posted (told (e (goal.at.After-move_between c).After-count_change-change)) _ q.args.counts.now _ (change (goal.at.After-move_between c).After-count_change-change) q.requires.edge_table c.move_between.ensures

behind : (c : In_ok-check_pair) (a : Answer) → a ≡ seen_tests c.args.n (corrected c.args.distances.now (corr c.args.i c.args.j c.args.far)) c.args.parents.now
    → a ≡ correction_tests c.args.n c.args.distances.now c.args.parents.now (corr c.args.i c.args.j c.args.far)
behind c a g = g ∙ ap (λ (z : Answer). z or_else seen_tests c.args.n (corrected c.args.distances.now (corr c.args.i c.args.j c.args.far)) c.args.parents.now) c.in_ok-check_pair.ensures

pub pair_place-requires : goal.pair_place-requires
pair_place-requires c = let a = told c in (omega (arith, a.i-strain, c.requires.posted.matrix.few), omega (arith, a.j-strain, c.requires.posted.matrix.few), a.apart)

pub offset_bounds-distances-pair_place : goal.offset_bounds-distances-pair_place
offset_bounds-distances-pair_place c = omega (arith, c.pair_place.ensures, slot-fits c.requires.posted (told (goal.at.offset_bounds-distances-pair_place c).In_ok-check_pair))

pub bounds-distances-pair_place : goal.bounds-distances-pair_place
bounds-distances-pair_place c = omega (arith, c.pair_place.ensures, slot c.requires.posted (told (goal.at.bounds-distances-pair_place c).In_ok-check_pair))

pub move_between-requires : goal.move_between-requires
move_between-requires c = let q = p (goal.at.move_between-requires c).After-count_change-change in
    record {
      movable = movable-counts q.requires.posted _ (is_measured q.args.far) (is_measured (before q.args.distances.now (corr q.args.i q.args.j q.args.far))) q.args.counts.now (change (goal.at.move_between-requires c).After-count_change-change) q.requires.edge_table;
      i_le_edges = ends q.requires.posted (told (e (goal.at.move_between-requires c).After-count_change-change));
    }

pub returns-then-edge-parents : goal.returns-then-edge-parents
returns-then-edge-parents c = let q = p (goal.at.returns-then-edge-parents c).After-count_change-change in
    behind (e (goal.at.returns-then-edge-parents c).After-count_change-change) _ (emptied-at q.args.n (corrected q.args.distances.now (corr q.args.i q.args.j q.args.far)) q.args.parents.now _ (counts (goal.at.returns-then-edge-parents c).After-move_between) c.first_emptied-edge.result c.first_emptied-edge.ensures c.if-edge-parents.true)

pub returns : goal.returns
returns c = let q = p (goal.at.returns c).After-count_change-change in
    behind (e (goal.at.returns c).After-count_change-change) _ (emptied-none q.args.n (corrected q.args.distances.now (corr q.args.i q.args.j q.args.far)) q.args.parents.now _ (counts (goal.at.returns c).After-move_between) c.first_emptied-edge.result c.first_emptied-edge.ensures c.if-edge-parents.false)
