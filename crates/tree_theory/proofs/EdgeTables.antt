-- One list for each table: two that agree at every edge and are zero behind the last are equal (`one_table`).
-- `front_kept`, `padded-kept`: K entries with zeros behind them are such a table.
use mathlib.Core.Path.{◌≡◌, refl, sym, ◌∙◌, ap}
use mathlib.Core.List.{List, ◌++◌}
use Prim.Native.Nat.{ℕ, ◌+◌, ◌-◌, ◌≤◌, ◌<◌}
use native.Mathlib.Decide.{dec_lt}
use native.Mathlib.Omega.{arith}
use lib.IntN.{ℤ, pos}
use lib.ListN.{length, get_or, length-append, get_or-append}
use lib.Seq.{ext_get_or, get_or-append-add}
use Rattle.exact.specs.Table.{table, padded}
use Rattle.exact.proofs.Decide.{by_cases}
use Rattle.exact.proofs.Fill.{length-table, get_or_table, get_or_table_const}
use Rattle.tree_theory.specs.Limits.{max_edges}
use Rattle.tree_theory.specs.EdgeTable.{EdgeTableOf, EdgeTable}

pub one_table : {A : Type 0} {zero : A} {K : ℕ} {f : ℕ → A} {a b : List A} → EdgeTableOf zero K f a → EdgeTableOf zero K f b → a ≡ b
one_table {A} {zero} {K} {f} {a} {b} s t = ext_get_or zero a b (s.size ∙ sym t.size)
    (λ v _. by_cases (dec_lt v K)
    (λ l. s.entries v l ∙ sym (t.entries v l))
    (λ l. s.rest v (omega arith) ∙ sym (t.rest v (omega arith))))

-- the front of the list, then zeros
module _ {A : Type 0} (zero : A) (K : ℕ) (f : ℕ → A) (front rest : List A) (few : K ≤ max_edges) (e : front ≡ table K f) (z : (k : ℕ) → get_or rest k zero ≡ zero) (size : length rest ≡ max_edges - K) where
  whole : length front ≡ K
  whole = ap length e ∙ length-table K f

  pub front_kept : EdgeTableOf zero K f (front ++ rest)
  front_kept = record {
    size = omega (arith, length-append front rest, whole);
    entries = λ v l. get_or-append front rest zero v (omega (arith, whole)) ∙ ap (λ (x : List A). get_or x v zero) e ∙ get_or_table K f zero v l;
    rest = λ v l. let at : length front + (v - K) ≡ v = omega (arith, whole) in
        ap (λ (k : ℕ). get_or (front ++ rest) k zero) (sym at) ∙ get_or-append-add front rest (v - K) zero ∙ z (v - K);
  }

pub padded-kept : (K : ℕ) (f : ℕ → ℤ) (r : List ℤ) → K ≤ max_edges → r ≡ padded (pos 0) max_edges K f → EdgeTable K f r
padded-kept K f r few e = rw e (front_kept (pos 0) K f (table K f) (table (max_edges - K) (λ _. pos 0)) few refl (λ k. get_or_table_const (max_edges - K) (pos 0) k) (length-table (max_edges - K) (λ _. pos 0)))
