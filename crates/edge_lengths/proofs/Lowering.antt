-- Filling the buffers with lowest terms: below v they hold the fractions' own, from v on what was lent; the table of rounded
-- lengths is zero from v on.
use mathlib.Core.Path.{◌≡◌, refl, ◌∙◌, ap, ap₂}
use mathlib.Core.Bool.{cond}
use mathlib.Core.List.{List}
use Prim.Native.Nat.{ℕ, ◌+◌, ◌≤◌, ◌<◌}
use native.Mathlib.Omega.{arith}
use borrow.Author.Tests.{lt-ltb, le-ltb}
use lib.Dec.{ltb}
use lib.IntN.{ℤ, pos}
use lib.ListN.{length, get_or, set, length-set}
use Rattle.exact.specs.Table.{table, entry_of}
use Rattle.exact.specs.Nearest.{nearest}
use Rattle.exact.proofs.Fill.{Filled, fill_none, fill_more, filled-whole, length-table, get_or_table_const, table_is}
use Rattle.tree_theory.specs.Limits.{max_edges}
use Rattle.exact.specs.Fraction.{Fraction, lowest_top, lowest_bottom}
use Rattle.edge_lengths.specs.Tables.{Lowered}

pub record Lowering (K : ℕ) (f : ℕ → Fraction) (nb : List ℤ) (eb : List ℕ) (v : ℕ) (ns : List ℤ) (es : List ℕ) (ms : List ℤ) : Type 0 where
  pub few : v ≤ K
  pub tops-size : length ns ≡ K
  pub bottoms-size : length es ≡ K
  pub rounded-size : length ms ≡ max_edges
  pub tops : Filled (pos 0) (λ k. lowest_top (f k)) (entry_of nb) v ns
  pub bottoms : Filled 0 (λ k. lowest_bottom (f k)) (λ k. get_or eb k 0) v es
  pub rounded : Filled (pos 0) (λ k. cond (ltb k K) (nearest (lowest_bottom (f k)) (lowest_top (f k))) (pos 0)) (λ _. pos 0) v ms

module _ (K : ℕ) (f : ℕ → Fraction) (nb : List ℤ) (eb : List ℕ) where
  pub lowering_start : (ms : List ℤ) → length nb ≡ K → length eb ≡ K → ms ≡ table max_edges (λ _. pos 0) → Lowering K f nb eb 0 nb eb ms
  lowering_start ms p q e = record {
    few = omega arith;
    tops-size = p;
    bottoms-size = q;
    rounded-size = ap length e ∙ length-table max_edges (λ _. pos 0);
    tops = fill_none (pos 0) _ _ nb (λ k. refl);
    bottoms = fill_none 0 _ _ eb (λ k. refl);
    rounded = fill_none (pos 0) _ _ ms (λ k. ap (λ (l : List ℤ). get_or l k (pos 0)) e ∙ get_or_table_const max_edges (pos 0) k);
  }

  pub lowering_turn : (v : ℕ) (ns : List ℤ) (es : List ℕ) (ms : List ℤ) (n : ℤ) (e : ℕ) (m : ℤ) → v < K → K ≤ max_edges
      → n ≡ lowest_top (f v) → e ≡ lowest_bottom (f v) → m ≡ nearest e n → Lowering K f nb eb v ns es ms → Lowering K f nb eb (v + 1) (set ns v n) (set es v e) (set ms v m)
  lowering_turn v ns es ms n e m l k hn he hm w = record {
    few = omega arith;
    tops-size = simp length-set w.tops-size;
    bottoms-size = simp length-set w.bottoms-size;
    rounded-size = simp length-set w.rounded-size;
    tops = fill_more (pos 0) _ _ v ns n (omega (arith, w.tops-size)) hn w.tops;
    bottoms = fill_more 0 _ _ v es e (omega (arith, w.bottoms-size)) he w.bottoms;
    rounded = fill_more (pos 0) _ _ v ms m (omega (arith, w.rounded-size)) (hm ∙ ap₂ nearest he hn ∙ simp (lt-ltb v K l)) w.rounded;
  }

  pub lowering_end : (v : ℕ) (ns : List ℤ) (es : List ℕ) (ms : List ℤ) → K ≤ v → Lowering K f nb eb v ns es ms → Lowered K f ns es ms
  lowering_end v ns es ms l w = record {
    tops = table_is (pos 0) (λ k. lowest_top (f k)) K ns w.tops-size (λ k h. w.tops.below k (omega arith));
    bottoms = table_is 0 (λ k. lowest_bottom (f k)) K es w.bottoms-size (λ k h. w.bottoms.below k (omega arith));
    rounded = table_is (pos 0) _ max_edges ms w.rounded-size (λ i _. filled-whole (pos 0) _ _ v ms w.rounded (λ k h. simp (le-ltb k K (omega arith))) i);
  }
