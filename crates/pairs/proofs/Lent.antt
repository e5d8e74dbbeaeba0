-- What passed its tests is what the sums ask: the tables that were lent, and the clusters that were made of the parents.
use mathlib.Core.Path.{◌≡◌, ◌∙◌, ap}
use mathlib.Core.Bool.{cond}
use mathlib.Core.List.{List}
use Prim.Native.Nat.{ℕ, ◌≤◌, ◌<◌}
use native.Mathlib.Omega.{arith}
use borrow.Author.Tests.{le-leb}
use lib.Dec.{leb}
use lib.IntN.{ℤ}
use lib.ListN.{length, get_or}
use Rattle.exact.specs.Table.{table}
use Rattle.exact.proofs.Fill.{get_or_table}
use Rattle.matrix.proofs.Completes.{known-near}
use Rattle.tree_theory.specs.Limits.{max_edges, max_vertices}
use Rattle.tree_theory.specs.Chain.{parent_of}
use Rattle.tree_theory.specs.Allowed.{Allowed}
use Rattle.tree_theory.specs.Cluster.{cluster}
use Rattle.lengths.specs.Proper as lengths
use Rattle.fit_theory.specs.Stands.{Posted}
use Rattle.paths.specs.Standing.{Standing, Small}
use Rattle.pairs.specs.Ready.{Ready, InRange}

-- an allowed tree has few enough edges
pub few-edges : {N K : ℕ} {par : ℕ → ℕ} → Allowed N K par → K ≤ max_edges
few-edges a = omega (arith, a.few, a.most)

pub small : {K D : ℕ} {ns : List ℤ} → lengths.Proper K D ns → Small K ns
small l = record { room = omega (arith, l.whole); near = λ v h. omega (arith, l.near v (omega (arith, l.whole))) }

pub in_range : {K D : ℕ} {ns : List ℤ} → lengths.Proper K D ns → InRange K ns
in_range l = record { room = omega (arith, l.whole); near = λ v h. l.near v (omega (arith, l.whole)) }

module _ (N : ℕ) (ps cs : List ℕ) (e : cs ≡ table max_vertices (λ v. cond (leb v (length ps)) (cluster N (parent_of ps) v) 0)) where
  pub standing : Allowed N (length ps) (parent_of ps) → Standing N (length ps) ps cs
  standing a = record {
    room = omega arith;
    allowed = a;
    masks = λ v h.
        ap (λ (l : List ℕ). get_or l v 0) e
        ∙ get_or_table max_vertices (λ u. cond (leb u (length ps)) (cluster N (parent_of ps) u) 0) 0 v (omega (arith, few-edges a))
        ∙ ap (λ b. cond b (cluster N (parent_of ps) v) 0) (le-leb v (length ps) h);
  }

  pub ready : {ds : List ℕ} {D : ℕ} {ns : List ℤ} → Posted N ds ps → lengths.Proper (length ps) D ns → Ready N (length ps) D ds ps cs ns
  ready p l = record {
    standing = standing p.tree;
    most = l.most;
    room = omega (arith, p.matrix.whole);
    near = known-near p.matrix;
    small = small l;
  }
