-- An array that a loop fills with an entry for each edge.
use mathlib.Core.Path.{◌≡◌, ap, ◌∙◌, sym}
use mathlib.Core.List.{List}
use Prim.Native.Nat.{ℕ, ◌+◌, ◌≤◌, ◌<◌}
use native.Mathlib.Omega.{arith}
use lib.IntN.{ℤ, pos, nat_abs, ◌+ℤ◌, ◌*ℤ◌}
use lib.ListN.{length, set, length-set}
use mir.Syntax.{w64}
use mir.Val.{to_z, of_z}
use Rattle.exact.specs.Table.{table, entry_of}
use Rattle.exact.proofs.Fill.{Filled, fill_none, fill_more, length-table, get_or_table_const}
use Rattle.exact.proofs.Sign.{back}
use Rattle.long_digits.specs.Digits.{base}
use Rattle.long_digits.specs.Clamp.{clamp, most}
use Rattle.long_digits.proofs.Clamps.{clamp-near}
use Rattle.tree_theory.specs.Limits.{max_edges}
use Rattle.tree_theory.specs.EdgeTable.{EdgeTable}
use Rattle.long_sums.specs.Ready.{Levels}

pub record Filling (K : ℕ) (f : ℕ → ℤ) (v : ℕ) (r : List ℤ) : Type 0 where
  pub here : v ≤ K
  pub size : length r ≡ max_edges
  pub filled : Filled (pos 0) f (λ _. pos 0) v r

module _ (K : ℕ) (f : ℕ → ℤ) where
  pub fill_start : (r : List ℤ) → r ≡ table max_edges (λ _. pos 0) → Filling K f 0 r
  fill_start r e = record {
    here = omega arith;
    size = ap length e ∙ length-table max_edges (λ _. pos 0);
    filled = fill_none (pos 0) f (λ _. pos 0) r (λ k. ap (λ (l : List ℤ). entry_of l k) e ∙ get_or_table_const max_edges (pos 0) k);
  }

  pub fill_turn : K ≤ max_edges → (v : ℕ) (r : List ℤ) (y : ℤ) → v < K → y ≡ f v → Filling K f v r → Filling K f (v + 1) (set r v y)
  fill_turn few v r y l e w = record {
    here = omega arith;
    size = simp length-set w.size;
    filled = fill_more (pos 0) f (λ _. pos 0) v r y (omega (arith, w.size)) e w.filled;
  }

  pub fill_end : (v : ℕ) (r : List ℤ) → K ≤ v → Filling K f v r → EdgeTable K f r
  fill_end v r h w = record {
    size = w.size;
    entries = λ u l. w.filled.below u (omega arith);
    rest = λ u l. w.filled.above u (omega (arith, w.here));
  }

-- the entries come back from their bits
module _ {K : ℕ} {tops sums : List ℤ} (w : Levels K tops sums) (v : ℕ) (l : v < K) where
  pub top_back : to_z w64 (of_z w64 (entry_of tops v)) ≡ entry_of tops v
  top_back = back (entry_of tops v) (omega (arith, w.top v l))

  pub next-back : to_z w64 (of_z w64 (entry_of sums v)) ≡ entry_of sums v
  next-back = back (entry_of sums v) (omega (arith, w.next v l))

-- and so does a number that was cut off
pub stored : (y z : ℤ) → y ≡ clamp most z → to_z w64 (of_z w64 y) ≡ clamp most z
stored y z e = back y (omega (arith, ap nat_abs e, clamp-near most z)) ∙ e
