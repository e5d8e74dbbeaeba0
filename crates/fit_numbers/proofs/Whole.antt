-- Where no pair is missing: what the sums by the edges ask of the lent tables.
use mathlib.Core.Path.{subst}
use mathlib.Core.List.{List}
use Prim.Native.Nat.{ℕ}
use lib.IntN.{ℤ, pos}
use Rattle.exact.specs.Fits.{Fits63}
use Rattle.exact.specs.Sum.{pairs}
use Rattle.exact.specs.Table.{entry_of}
use Rattle.exact.specs.LeastSquares.{sum_f, sum_r, sum_h}
use Rattle.matrix.specs.Place.{distance, Complete}
use Rattle.tree_theory.specs.Chain.{parent_of, parts_pair}
use Rattle.fit_theory.specs.Quantities.{parts_in}
use Rattle.inner_paths.proofs.Reaching.{few}
use Rattle.splits.specs.Sums.{entry_at, Splittable}
use Rattle.edge_numbers.proofs.Complete.{table-splits, table-f, table-x}
use Rattle.fit_numbers.specs.Terms.{Summable}
use Rattle.fit_numbers.proofs.Squares.{h_fits}

module _ {N K D : ℕ} {ds ps : List ℕ} {ns : List ℤ} (w : Summable N K D ds ps ns) where
  module _ (all : Complete ds) where
    pub splittable : Splittable N K ds ps
    splittable = table-splits ds ps all w.lengthened.room w.lengthened.allowed w.room w.near

    pub f-whole : Fits63 (sum_f (pairs N) K (parts_in ds ps) (distance ds) (pos D) (entry_of ns)) → Fits63 (sum_f (pairs N) K (parts_pair (parent_of ps)) (entry_at ds) (pos D) (entry_of ns))
    f-whole = subst Fits63 (table-f ds ps all N K (pos D) (entry_of ns))

    pub r-whole : Fits63 (sum_r (pairs N) K (parts_in ds ps) (distance ds) (entry_of ns)) → Fits63 (sum_r (pairs N) K (parts_pair (parent_of ps)) (entry_at ds) (entry_of ns))
    r-whole = subst Fits63 (table-x ds ps all N K (pos 1000) (entry_of ns))

  -- H over every pair
  pub h-all : Fits63 (sum_h (pairs N) K (parts_pair (parent_of ps)))
  h-all = h_fits K (few w.lengthened) (parts_pair (parent_of ps)) N w.lengthened.allowed.few
