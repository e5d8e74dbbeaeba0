-- The sums of one digit where no pair is missing: what is lent is what the sums by edges ask, and what they give is each edge's sum.
use mathlib.Core.Path.{◌≡◌, sym, ◌∙◌}
use mathlib.Core.List.{List}
use Prim.Native.Nat.{ℕ}
use lib.IntN.{ℤ, pos}
use Rattle.exact.specs.Sum.{pairs}
use Rattle.exact.specs.LeastSquares.{edge_sum}
use Rattle.exact.specs.Table.{entry_of}
use Rattle.matrix.specs.Place.{Complete}
use Rattle.tree_theory.specs.Chain.{parent_of, parts_pair}
use Rattle.tree_theory.specs.EdgeTable.{EdgeTable}
use Rattle.inner_paths.specs.Between.{Lengthened}
use Rattle.pairs.specs.Ready.{Ready}
use Rattle.edge_sums.specs.Sums.{EdgeSums}
use Rattle.splits.specs.Sums.{entry_at, Splittable}
use Rattle.edge_numbers.proofs.Complete.{table-splits, table-edge}

module _ {N K D : ℕ} {ds ps cs : List ℕ} {ns : List ℤ} (w : Ready N K D ds ps cs ns) where
  pub level-splits : Complete ds → Splittable N K ds ps
  level-splits all = table-splits ds ps all w.standing.room w.standing.allowed w.room w.near

  pub level-lengths : Lengthened N K ps ns
  level-lengths = record { room = w.standing.room; allowed = w.standing.allowed; small = w.small }

pub level-edges : (N K D : ℕ) (ds ps : List ℕ) (ns r : List ℤ) → Complete ds
    → EdgeTable K (edge_sum (pairs N) K (parts_pair (parent_of ps)) (entry_at ds) (pos D) (entry_of ns)) r → EdgeSums N K D ds ps ns r
level-edges N K D ds ps ns r all t = record {
  size = t.size;
  entries = λ v h. t.entries v h ∙ sym (table-edge ds ps all N K (pos D) (entry_of ns) v);
  rest = t.rest;
}
