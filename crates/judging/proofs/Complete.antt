-- Where no pair is missing: what was posted and proposed is what the sums by edges ask, and what they give is what the verdict asks.
use mathlib.Core.Path.{◌≡◌, sym, ◌∙◌}
use mathlib.Core.List.{List}
use Prim.Native.Nat.{ℕ, ◌<◌}
use native.Mathlib.Omega.{arith}
use lib.IntN.{ℤ, pos}
use lib.ListN.{length}
use Rattle.exact.specs.Sum.{pairs}
use Rattle.exact.specs.LeastSquares.{edge_sum}
use Rattle.exact.specs.Table.{entry_of}
use Rattle.matrix.specs.Place.{Complete}
use Rattle.matrix.proofs.Completes.{known-near}
use Rattle.tree_theory.specs.Chain.{parent_of, parts_pair}
use Rattle.tree_theory.specs.EdgeTable.{EdgeTable}
use Rattle.lengths.specs.Proper.{Proper}
use Rattle.fit_theory.specs.Quantities.{edge_sum_of}
use Rattle.fit_theory.specs.Stands.{Posted}
use Rattle.inner_paths.specs.Between.{Lengthened}
use Rattle.pairs.proofs.Lent.{small}
use Rattle.splits.specs.Sums.{entry_at, Splittable}
use Rattle.edge_numbers.proofs.Complete.{table-splits, table-edge}

module _ {N : ℕ} {ds ps : List ℕ} (p : Posted N ds ps) where
  pub splittable : Complete ds → Splittable N (length ps) ds ps
  splittable all = table-splits ds ps all (omega arith) p.tree (omega (arith, p.matrix.whole)) (known-near p.matrix)

  pub lengthened : {D : ℕ} {ns : List ℤ} → Proper (length ps) D ns → Lengthened N (length ps) ps ns
  lengthened l = record { room = omega arith; allowed = p.tree; small = small l }

pub sums_are : (N : ℕ) (ds ps : List ℕ) (D : ℕ) (ns r : List ℤ) → Complete ds
    → EdgeTable (length ps) (edge_sum (pairs N) (length ps) (parts_pair (parent_of ps)) (entry_at ds) (pos D) (entry_of ns)) r
    → (v : ℕ) → v < length ps → entry_of r v ≡ edge_sum_of N ds ps D ns v
sums_are N ds ps D ns r all t v h = t.entries v h ∙ sym (table-edge ds ps all N (length ps) (pos D) (entry_of ns) v)
