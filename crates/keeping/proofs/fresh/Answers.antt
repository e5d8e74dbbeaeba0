-- The ones pass beside the same tree, and their split sums are the counts.
use mathlib.Core.Path.{sym, ◌∙◌, subst}
use mathlib.Core.List.{List}
use Prim.Native.Nat.{ℕ, ◌≤◌}
use native.Mathlib.Omega.{arith}
use lib.ListN.{length}
use lib.Seq.{length-take-le}
use Rattle.matrix.specs.Limits.{max_pairs}
use Rattle.matrix.proofs.Places.{pairs-few}
use Rattle.tree_theory.specs.EdgeTable.{EdgeTable}
use Rattle.fit_theory.specs.Quantities.{split_sum}
use Rattle.fit_theory.specs.Stands.{Posted}
use Rattle.pairs.proofs.Lent.{standing}
use Rattle.correction_theory.proofs.Afresh.{counts-afresh, ones-posted}
use Rattle.keeping.proofs.fresh.Goals as goal

-- a matrix has no more pairs than there is room for
few : (n : ℕ) (ds ps : List ℕ) → Posted n ds ps → length ds ≤ max_pairs
few n ds ps p = omega (arith, p.matrix.whole, pairs-few n p.matrix.few)

pub split-sums-requires : goal.split-sums-requires
split-sums-requires c = record {
  posted = c.requires;
  standing = standing c.args.n c.args.parents.now c.clusters-masks.result c.clusters-masks.ensures c.requires.tree;
}

pub ones_of-held-requires : goal.ones_of-held-requires
ones_of-held-requires c = few _ _ _ c.requires

pub slice_bounds-held-end : goal.slice_bounds-held-end
slice_bounds-held-end c = omega (arith, few _ _ _ c.requires, c.ones_of-held.ensures.0)

pub slice_bounds-split-end : goal.slice_bounds-split-end
slice_bounds-split-end c = sym (length-take-le _ c.ones_of-held.result (omega (arith, few _ _ _ c.requires, c.ones_of-held.ensures.0)))

pub split-counts-requires : goal.split-counts-requires
split-counts-requires c = record {
  posted = subst (λ (l : List ℕ). Posted c.args.n l c.args.parents.now) (sym c.ones_of-held.ensures.1) (ones-posted c.args.n c.args.distances.now c.args.parents.now c.requires);
  standing = standing c.args.n c.args.parents.now c.clusters-masks.result c.clusters-masks.ensures c.requires.tree;
}

pub returns : goal.returns
returns c = let a = c.args in
    let t = subst (λ (l : List ℕ). EdgeTable (length a.parents.now) (split_sum a.n l a.parents.now) c.split-counts.result) c.ones_of-held.ensures.1 c.split-counts.ensures in
    record {
      posted = c.requires;
      split = c.split-sums.ensures;
      counted = record {
        size = t.size;
        entries = λ v l. t.entries v l ∙ counts-afresh a.n a.distances.now a.parents.now v c.requires.matrix.whole;
        rest = t.rest;
      };
    }
