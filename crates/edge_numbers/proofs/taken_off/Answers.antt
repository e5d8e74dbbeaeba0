-- The split sums, turned below zero.
use Rattle.std.proofs.Common.{arith}
use Rattle.edge_numbers.proofs.Bounds.{few-edges, sums-low, mixable}
use Rattle.edge_numbers.proofs.Tables.{zeros-low, taken-table}
use Rattle.edge_numbers.proofs.taken_off.Goals as goal

pub mix-requires : goal.mix-requires
mix-requires c = let p = c.requires in
    let t = c.splits.ensures in record {
      edges_le_max_edges = (few-edges p, t.size);
      mixable = mixable _ _ _ _ _ (omega arith) (omega arith) (sums-low p t) (zeros-low _ c.filled-none.ensures.throughout _);
    }

pub returns : goal.returns
returns c = let a = c.args in
    taken-table a.n a.edges a.distances.now a.parents.now _ _ _ c.splits.ensures c.mix.ensures
