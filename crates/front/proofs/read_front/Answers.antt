-- What was read is what the records hold; more strains than there may be are refused before a distance is read.
use mathlib.Core.Path.{◌≡◌, refl, sym, ap, ap₂, ◌∙◌}
use mathlib.Core.List.{List}
use Prim.Native.Nat.{ℕ, ◌+◌, ◌-◌, ◌*◌}
use Rattle.endian.specs.Bytes.{number}
use native.Mathlib.Omega.{arith}
use mathlib.Core.Bool.{not}
use lib.Dec.{eqb}
use lib.ListN.{take, drop}
use Rattle.verdict.specs.Answer.{test, ◌or_else◌}
use Rattle.verdict.proofs.Answers.{handed_on}
use Rattle.matrix.specs.Tests.{matrix_tests}
use Rattle.matrix.specs.Limits.{max_pairs}
use Rattle.matrix.specs.Place.{pair_count, from_rows}
use Rattle.exact.specs.Table.{padded}
use Rattle.records.proofs.Decoding.{front_length}
use Rattle.front.specs.Holds.{row_at, distances_of, strains_of}
use Rattle.front.specs.Tests.{both_tests, pair_tests}
use Rattle.front.specs.Reads.{FrontAnswer}
use Rattle.front.proofs.Formed.{Fronted, fronted, pairs-fit, distances_are, parents-start, parents_are, pair_is}
use Rattle.front.proofs.Answered.{many-strains}
use Rattle.front.proofs.read_front.Goals as goal
use Rattle.front.proofs.read_front.Goals.{After-distances_into, After-posted, After-shared_slice_known-1}

abbrev bytes : After-shared_slice_known-1 → List ℕ
bytes c = c.args.s.now

abbrev counted : After-shared_slice_known-1 → ℕ
counted c = c.args.count

here : (c : After-shared_slice_known-1) → Fronted (bytes c) c.args.tree c.args.end
here c = let pre = c.requires.s_value in fronted 2 (bytes c) (omega arith) pre.0 _ _ pre.1 pre.2

-- the lent table, filled
abbrev filled : After-distances_into → List ℕ
filled c = c.distances_into.new.held

-- with the pairs as they are counted there
taken : (c : After-distances_into) → filled c ≡ padded 0 max_pairs c.pair_count-pairs.result (from_rows c.u16_at-n.result (λ k. number 2 (bytes (goal.at.After-distances_into c).After-shared_slice_known-1) (8 + 2 * k)))
taken c = c.distances_into.ensures ∙ ap (λ (p : ℕ). padded 0 max_pairs p (from_rows c.u16_at-n.result (λ k. number 2 (bytes (goal.at.After-distances_into c).After-shared_slice_known-1) (8 + 2 * k)))) (sym c.pair_count-pairs.ensures)

measured : (c : After-distances_into) → take c.pair_count-pairs.result (filled c) ≡ distances_of (bytes (goal.at.After-distances_into c).After-shared_slice_known-1)
measured c =
    distances_are (here (goal.at.After-distances_into c).After-shared_slice_known-1) _ _ _ c.u16_at-n.ensures c.pair_count-pairs.ensures (taken c)

-- what the two are asked together
asked : (c : After-posted) → let n = c.u16_at-n.result in
    let ds = take c.pair_count-pairs.result (filled (goal.at.After-posted c).After-distances_into) in
    let ps = take (c.args.end - (c.args.tree + 6 + 4)) (drop (c.args.tree + 6 + 4) c.args.s.now) in
    (matrix_tests n ds or_else test 8 (not (eqb c.u16_at-of_tree.result n)) or_else both_tests c.args.count n ds ps) ≡ pair_tests c.args.count c.args.s.now
asked c = pair_is (here (goal.at.After-posted c).After-shared_slice_known-1) _ _ _ _ _ c.u16_at-n.ensures c.u16_at-of_tree.ensures
    (measured (goal.at.After-posted c).After-distances_into) (parents_are (here (goal.at.After-posted c).After-shared_slice_known-1))

pub u16_at-n-requires : goal.u16_at-n-requires
u16_at-n-requires c = let w = here c in omega (arith, w.matrix, w.tree, w.there)

pub returns-then-strains-gt-MAX_STRAINS : goal.returns-then-strains-gt-MAX_STRAINS
returns-then-strains-gt-MAX_STRAINS c = many-strains _ _ _ _ c.u16_at-n.ensures c.if-strains-gt-MAX_STRAINS.true

pub distances_into-requires : goal.distances_into-requires
distances_into-requires c = let few = c.if-strains-gt-MAX_STRAINS.false in
    record {
      n_le_max_strains = (few, (pairs-fit (here (goal.at.distances_into-requires c).After-shared_slice_known-1) _ _ c.u16_at-n.ensures few refl).1);
      held_value = c.requires.distances_value;
    }

pub overflow_add-body : goal.overflow_add-body
overflow_add-body c = let w = here (goal.at.overflow_add-body c).After-shared_slice_known-1 in record { fits = omega (arith, w.tree, w.there) }

pub u16_at-of_tree-requires : goal.u16_at-of_tree-requires
u16_at-of_tree-requires c = let w = here (goal.at.u16_at-of_tree-requires c).After-shared_slice_known-1 in omega (arith, w.tree, w.there)

pub overflow_add-parents : goal.overflow_add-parents
overflow_add-parents c = let w = here (goal.at.overflow_add-parents c).After-shared_slice_known-1 in record { fits = omega (arith, w.tree, w.there) }

pub slice_bounds-posted-end : goal.slice_bounds-posted-end
slice_bounds-posted-end c = front_length 0 max_pairs _ _ _ (taken (goal.at.slice_bounds-posted-end c).After-distances_into)

pub slice_bounds-posted-count : goal.slice_bounds-posted-count
slice_bounds-posted-count c = parents-start (here (goal.at.slice_bounds-posted-count c).After-shared_slice_known-1)

pub slice_bounds-posted-start : goal.slice_bounds-posted-start
slice_bounds-posted-start c = parents-start (here (goal.at.slice_bounds-posted-start c).After-shared_slice_known-1)

pub slice_bounds-posted-end-2 : goal.slice_bounds-posted-end-2
slice_bounds-posted-end-2 c = (here (goal.at.slice_bounds-posted-end-2 c).After-shared_slice_known-1).there

pub returns-in_err-posted : goal.returns-in_err-posted
returns-in_err-posted c = handed_on (FrontAnswer c.args.count c.args.s.now (filled (goal.at.returns-in_err-posted c).After-distances_into)) _ _ c.from_residual.ensures
    (record { answer = c.in_err-posted.ensures ∙ asked (goal.at.returns-in_err-posted c).After-posted; held = tt })

pub returns : goal.returns
returns c = let pairs : c.pair_count-pairs.result ≡ pair_count (strains_of (bytes (goal.at.returns c).After-shared_slice_known-1)) = c.pair_count-pairs.ensures ∙ ap pair_count c.u16_at-n.ensures in
    record {
      answer = c.in_ok-posted.ensures ∙ asked (goal.at.returns c).After-posted;
      held = record {
        strains = c.u16_at-n.ensures;
        pairs = pairs;
        distances = taken (goal.at.returns c).After-distances_into ∙ ap₂ (λ (k m : ℕ). padded 0 max_pairs k (from_rows m (row_at (bytes (goal.at.returns c).After-shared_slice_known-1)))) pairs c.u16_at-n.ensures;
        parents = ap (λ (a : ℕ). a + 6 + 4) (here (goal.at.returns c).After-shared_slice_known-1).tree-at;
        end = (here (goal.at.returns c).After-shared_slice_known-1).end-at;
      };
    }
