-- A table of lengths in thousandths, written from the front. The idea: below v it is rounded, and from v on it is still zero,
-- which is what it shall be behind the edges.
use mathlib.Core.Path.{◌≡◌, ap, ◌∙◌}
use mathlib.Core.Bool.{cond}
use mathlib.Core.List.{List}
use Prim.Native.Nat.{ℕ, ◌+◌, ◌≤◌, ◌<◌}
use native.Mathlib.Omega.{arith}
use borrow.Author.Tests.{lt-ltb, le-ltb}
use lib.Dec.{ltb}
use lib.IntN.{ℤ, pos, nat_abs}
use lib.ListN.{length, set, get_or, length-set}
use mir.Syntax.{w64}
use mir.Val.{to_z, of_z}
use Rattle.exact.specs.Table.{table, entry_of}
use Rattle.exact.specs.Nearest.{nearest}
use Rattle.exact.proofs.Fill.{Filled, fill_none, fill_more, filled-whole, length-table, get_or_table, get_or_table_const, table_is}
use Rattle.exact.proofs.Rounding.{nearest-bound}
use Rattle.exact.proofs.Sign.{back}
use Rattle.tree_theory.specs.Limits.{max_edges}
use Rattle.pairs.specs.Ready.{InRange}

-- m of edge v, and 0 behind the edges
abbrev pub length-of : ℕ → ℕ → List ℤ → ℕ → ℤ
length-of K D ns v = cond (ltb v K) (nearest D (entry_of ns v)) (pos 0)

pub record Written (K D : ℕ) (ns : List ℤ) (v : ℕ) (ms : List ℤ) : Type 0 where
  pub few : v ≤ K
  pub size : length ms ≡ max_edges
  pub filled : Filled (pos 0) (length-of K D ns) (λ _. pos 0) v ms

module _ (K D : ℕ) (ns : List ℤ) where
  pub written_start : (ms : List ℤ) → ms ≡ table max_edges (λ _. pos 0) → Written K D ns 0 ms
  written_start ms e = record {
    few = omega arith;
    size = ap length e ∙ length-table max_edges (λ _. pos 0);
    filled = fill_none (pos 0) _ _ ms (λ k. ap (λ l. get_or l k (pos 0)) e ∙ get_or_table_const max_edges (pos 0) k);
  }

  pub written-turn : (v : ℕ) (ms : List ℤ) (m : ℤ) → v < K → K ≤ max_edges → m ≡ nearest D (entry_of ns v) → Written K D ns v ms → Written K D ns (v + 1) (set ms v m)
  written-turn v ms m l k e w = record {
    few = omega arith;
    size = simp length-set w.size;
    filled = fill_more (pos 0) _ _ v ms m (omega (arith, w.size)) (e ∙ simp (lt-ltb v K l)) w.filled;
  }

  pub written-end : (v : ℕ) (ms : List ℤ) → K ≤ v → Written K D ns v ms → ms ≡ table max_edges (length-of K D ns)
  written-end v ms l w = table_is (pos 0) (length-of K D ns) max_edges ms w.size
      (λ i _. filled-whole (pos 0) _ _ v ms w.filled (λ k h. simp (le-ltb k K (omega arith))) i)

  -- what stands in it
  pub rounded-entry : (ms : List ℤ) → ms ≡ table max_edges (length-of K D ns) → K ≤ max_edges → (v : ℕ) → v < K → entry_of ms v ≡ nearest D (entry_of ns v)
  rounded-entry ms e k v h =
      ap (λ (x : List ℤ). entry_of x v) e
      ∙ get_or_table max_edges (length-of K D ns) (pos 0) v (omega arith)
      ∙ ap (λ c. cond c (nearest D (entry_of ns v)) (pos 0)) (lt-ltb v K h)

-- the same of the machine's numbers: a numerator and its rounded length come back from their bits
module _ {K : ℕ} {ns : List ℤ} (w : InRange K ns) (v : ℕ) (l : v < K) where
  entry-back : to_z w64 (of_z w64 (entry_of ns v)) ≡ entry_of ns v
  entry-back = back (entry_of ns v) (omega (arith, w.near v l))

  pub entry-small : nat_abs (to_z w64 (of_z w64 (entry_of ns v))) ≤ 10000000000000
  entry-small = omega (arith, ap nat_abs entry-back, w.near v l)

  pub rounded-back : (D : ℕ) (m : ℤ) → 1 ≤ D → m ≡ nearest D (to_z w64 (of_z w64 (entry_of ns v))) → to_z w64 (of_z w64 m) ≡ nearest D (entry_of ns v)
  rounded-back D m one e =
      let same : m ≡ nearest D (entry_of ns v) = e ∙ ap (nearest D) entry-back in
      back m (omega (arith, ap nat_abs same, nearest-bound D (entry_of ns v) one, w.near v l)) ∙ same
