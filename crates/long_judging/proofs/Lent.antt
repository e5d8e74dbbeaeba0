-- What passed its tests is what the sums ask, and the tables that they give are those of the tests.
use mathlib.Core.Path.{◌≡◌, sym, ◌∙◌, ap}
use mathlib.Core.Bool.{cond}
use mathlib.Core.List.{List}
use Prim.Native.Nat.{ℕ, ◌≤◌, ◌<◌}
use native.Mathlib.Omega.{arith}
use lib.Dec.{leb}
use lib.IntN.{ℤ, pos, ◌-ℤ◌, ◌*ℤ◌}
use lib.ListN.{length, take}
use lib.Seq.{length-take-le, get_or-take}
use Rattle.exact.specs.Sum.{pairs, ind}
use Rattle.exact.specs.LeastSquares.{edge_sum}
use Rattle.exact.specs.Table.{table, entry_of}
use Rattle.exact.proofs.Fill.{table_is, get_or_table}
use Rattle.exact.proofs.LeastSquares.{path_cong}
use Rattle.exact.proofs.Sum.{pairs-sums, S-cong}
use Rattle.long_digits.specs.Clamp.{clamp, most}
use Rattle.matrix.specs.Place.{distance}
use Rattle.matrix.proofs.Completes.{known-near}
use Rattle.tree_theory.specs.Limits.{max_edges, max_vertices}
use Rattle.tree_theory.specs.EdgeTable.{EdgeTable}
use Rattle.tree_theory.specs.Chain.{parent_of}
use Rattle.tree_theory.specs.Cluster.{cluster}
use Rattle.fit_theory.specs.Quantities.{parts_in}
use Rattle.fit_theory.specs.Stands.{Posted}
use Rattle.pairs.proofs.Lent.{standing}
use Rattle.long_theory.specs.Long.{long_denominator, long_numerator, long_numerators, LongProper}
use Rattle.long_theory.specs.Tests.{long_sum_of}
use Rattle.long_sums.specs.Ready.{LongReady, LongSums, LongDigits}

pub prefix : (K : ℕ) (f : ℕ → ℤ) (r : List ℤ) → K ≤ max_edges → EdgeTable K f r → take K r ≡ table K f
prefix K f r few t = table_is (pos 0) f K (take K r) (length-take-le K r (omega (arith, t.size))) (λ k h. get_or-take K r k (pos 0) h ∙ t.entries k h)

pub prefix-long : (K : ℕ) (f : ℕ → ℤ) (r : List ℤ) → K ≤ max_edges → EdgeTable K f r → K ≡ length (take K r)
prefix-long K f r few t = sym (length-take-le K r (omega (arith, t.size)))

module _ {N : ℕ} {ds ps Ds : List ℕ} {ns : List ℤ} (p : Posted N ds ps) (l : LongProper (length ps) Ds ns) where
  abbrev L : ℕ
  L = length Ds

  pub digits-ready : LongDigits (length ps) L ns
  digits-ready = record { few = l.few; table = omega (arith, l.whole); tops = l.tops }

  pub long-ready : (cs : List ℕ) → cs ≡ table max_vertices (λ v. cond (leb v (length ps)) (cluster N (parent_of ps) v) 0) → LongReady N (length ps) L Ds ds ps cs ns
  long-ready cs e = record {
    standing = standing N ps cs e p.tree;
    room = omega (arith, p.matrix.whole);
    near = known-near p.matrix;
    levels = omega arith;
    digits = l.digits;
    table = omega (arith, l.whole);
    tops = l.tops;
  }

  -- each sum is that of the numerators as a list
  pub sums_are : (r : List ℤ) → LongSums N (length ps) L Ds ds ps ns r → (v : ℕ) → v < length ps → entry_of r v ≡ long_sum_of N ds ps Ds ns v
  sums_are r t v h = t.entries v h ∙ ap (clamp most) (S-cong (pairs-sums N) (λ q. ap (λ z. ind (parts_in ds ps v q) *ℤ (pos (long_denominator L Ds) *ℤ distance ds q -ℤ z))
      (path_cong (length ps) (parts_in ds ps) (long_numerator L (length ps) ns) (entry_of (long_numerators L (length ps) ns))
      (λ u k. sym (get_or_table (length ps) (long_numerator L (length ps) ns) (pos 0) u k)) q)))
