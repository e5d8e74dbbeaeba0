-- The split sums times d, less the path sums.
use Rattle.std.proofs.Common.{nat_abs, ap, arith}
use Rattle.exact.proofs.Sign.{back-pos}
use Rattle.edge_numbers.proofs.Bounds.{few-edges, sums-low, paths-low, mixable}
use Rattle.edge_numbers.proofs.Tables.{remainders_table}
use Rattle.edge_numbers.proofs.remainders.Goals as goal

pub mix-requires : goal.mix-requires
mix-requires c =
    let t = c.splits.ensures in record {
      edges_le_max_edges = (few-edges c.requires.splittable, t.size);
      mixable = mixable _ _ _ _ _ (omega (arith, ap nat_abs (back-pos c.args.d (omega (arith, c.requires.d_le_max_denominator))), c.requires.d_le_max_denominator)) (omega arith) (sums-low c.requires.splittable t) (paths-low c.requires.lengthened c.path_sums.ensures);
    }

pub returns : goal.returns
returns c = let a = c.args in
    remainders_table a.n a.edges a.distances.now a.parents.now _ _ _ c.splits.ensures a.d _ a.numerators.now (back-pos a.d (omega (arith, c.requires.d_le_max_denominator)))
    c.path_sums.ensures c.mix.ensures
