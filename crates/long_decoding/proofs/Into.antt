-- A lent table that a loop fills from the front with n entries, and that keeps what stands behind them.
use mathlib.Core.Path.{◌≡◌, refl, sym, ap, ◌∙◌}
use mathlib.Core.List.{List, ◌++◌}
use Prim.Native.Nat.{ℕ, ◌+◌, ◌-◌, ◌<◌, ◌≤◌}
use native.Mathlib.Decide.{dec_lt}
use native.Mathlib.Omega.{arith}
use lib.ListN.{length, set, get_or, drop, length-set, length-append, length-drop, get_or-append}
use lib.Seq.{ext_get_or, get_or-append-add, get_or-drop}
use Rattle.exact.specs.Table.{table}
use Rattle.exact.proofs.Decide.{by_cases}
use Rattle.exact.proofs.Fill.{Filled, fill_none, fill_more, length-table, get_or_table}

-- k of n entries have been written over what was there
pub record Writing {A : Type 0} (d : A) (n : ℕ) (f : ℕ → A) (was : List A) (k : ℕ) (kept : List A) : Type 0 where
  pub few : k ≤ n
  pub size : length kept ≡ length was
  pub filled : Filled d f (λ i. get_or was i d) k kept

module _ {A : Type 0} (d : A) (n : ℕ) (f : ℕ → A) (was : List A) where
  pub write_start : Writing d n f was 0 was
  write_start = record { few = omega arith; size = refl; filled = fill_none d _ _ was (λ k. refl) }

  pub write_turn : (k : ℕ) (kept : List A) (v : A) → k < n → n ≤ length was → v ≡ f k → Writing d n f was k kept → Writing d n f was (k + 1) (set kept k v)
  write_turn k kept v h r e c = record {
    few = omega arith;
    size = simp length-set c.size;
    filled = fill_more d _ _ k kept v (omega (arith, c.size)) e c.filled;
  }

  module _ (r : n ≤ length was) where
    whole_length : length (table n f ++ drop n was) ≡ length was
    whole_length = simp (length-append, length-table, length-drop) (omega arith)

    before : (i : ℕ) → i < n → get_or (table n f ++ drop n was) i d ≡ f i
    before i h = get_or-append (table n f) (drop n was) d i (omega (arith, length-table n f)) ∙ get_or_table n f d i h

    behind : (i : ℕ) → n ≤ i → get_or (table n f ++ drop n was) i d ≡ get_or was i d
    behind i h =
        let e : i ≡ length (table n f) + (i - n) = omega (arith, length-table n f) in
        let g : n + (i - n) ≡ i = omega arith in
        ap (λ j. get_or (table n f ++ drop n was) j d) e ∙ get_or-append-add (table n f) (drop n was) (i - n) d ∙ get_or-drop n was (i - n) d ∙ ap (λ j. get_or was j d) g

    pub write_end : (k : ℕ) (kept : List A) → n ≤ k → Writing d n f was k kept → kept ≡ table n f ++ drop n was
    write_end k kept h c =
        ext_get_or d kept (table n f ++ drop n was) (c.size ∙ sym whole_length)
        (λ i _. by_cases (dec_lt i n)
        (λ l. c.filled.below i (omega arith) ∙ sym (before i l))
        (λ g. c.filled.above i (omega (arith, c.few)) ∙ sym (behind i (omega arith))))
