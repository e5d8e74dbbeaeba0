-- An array that a loop fills from the front with the first n entries, and what is lent of it afterwards: a table.
use mathlib.Core.Path.{◌≡◌, sym, ap, ◌∙◌}
use mathlib.Core.List.{List}
use Prim.Native.Nat.{ℕ, ◌+◌, ◌-◌, ◌<◌, ◌≤◌}
use native.Mathlib.Decide.{dec_lt}
use native.Mathlib.Omega.{arith}
use lib.ListN.{length, set, get_or, take, drop, length-set, length-append, length-drop, get_or-append}
use lib.Seq.{ext_get_or, get_or-append-add, take_at, length-take-le, get_or-take, get_or-drop}
use Rattle.exact.specs.Table.{table, padded}
use Rattle.exact.proofs.Decide.{by_cases}
use Rattle.exact.proofs.Fill.{Filled, fill_none, fill_more, length-table, get_or_table, get_or_table_const, table_is}

-- k of n entries have been read into an array of `room` that held d everywhere
pub record Decoding {A : Type 0} (d : A) (room n : ℕ) (f : ℕ → A) (k : ℕ) (kept : List A) : Type 0 where
  pub few : k ≤ n
  pub size : length kept ≡ room
  pub filled : Filled d f (λ _. d) k kept

module _ {A : Type 0} (d : A) (room n : ℕ) (f : ℕ → A) where
  pub decode_start : (kept : List A) → kept ≡ table room (λ _. d) → Decoding d room n f 0 kept
  decode_start kept e = record {
    few = omega arith;
    size = ap length e ∙ length-table room (λ _. d);
    filled = fill_none d _ _ kept (λ k. ap (λ l. get_or l k d) e ∙ get_or_table_const room d k);
  }

  pub decode_turn : (k : ℕ) (kept : List A) (v : A) → k < n → n ≤ room → v ≡ f k → Decoding d room n f k kept → Decoding d room n f (k + 1) (set kept k v)
  decode_turn k kept v h r e c = record {
    few = omega arith;
    size = simp length-set c.size;
    filled = fill_more d _ _ k kept v (omega (arith, c.size)) e c.filled;
  }

  pub padded-length : n ≤ room → length (padded d room n f) ≡ room
  padded-length r = simp (length-append, length-table) (omega arith)

  -- past the entries stands d
  padded-behind : (i : ℕ) → n ≤ i → get_or (padded d room n f) i d ≡ d
  padded-behind i h =
      let e : i ≡ length (table n f) + (i - n) = omega (arith, length-table n f) in
      ap (λ j. get_or (padded d room n f) j d) e ∙ get_or-append-add (table n f) (table (room - n) (λ _. d)) (i - n) d ∙ get_or_table_const (room - n) d (i - n)

  pub padded-before : (i : ℕ) → i < n → get_or (padded d room n f) i d ≡ f i
  padded-before i h = get_or-append (table n f) (table (room - n) (λ _. d)) d i (omega (arith, length-table n f)) ∙ get_or_table n f d i h

  pub decode_end : (k : ℕ) (kept : List A) → n ≤ k → n ≤ room → Decoding d room n f k kept → kept ≡ padded d room n f
  decode_end k kept h r c =
      ext_get_or d kept (padded d room n f) (c.size ∙ sym (padded-length r))
      (λ i _. by_cases (dec_lt i n)
      (λ l. c.filled.below i (omega arith) ∙ sym (padded-before i l))
      (λ g. c.filled.above i (omega (arith, c.few)) ∙ sym (padded-behind i (omega arith))))

  -- what is lent of the array
  pub front-is : (kept : List A) → kept ≡ padded d room n f → take n kept ≡ table n f
  front-is kept e = ap (take n) e ∙ take_at (table n f) (table (room - n) (λ _. d)) n (length-table n f)

  pub front_length : (kept : List A) → kept ≡ padded d room n f → n ≡ length (take n kept)
  front_length kept e = sym (ap length (front-is kept e) ∙ length-table n f)

  pub front-there : (kept : List A) → kept ≡ padded d room n f → n ≤ room → n ≤ length kept
  front-there kept e r = omega (arith, ap length e ∙ padded-length r)

-- an array that holds the first k entries goes on from there
pub decode_of : {A : Type 0} (d : A) (room n : ℕ) (f : ℕ → A) (k : ℕ) (kept : List A) → k ≤ n → k ≤ room → kept ≡ padded d room k f → Decoding d room n f k kept
decode_of d room n f k kept h r e = record {
  few = h;
  size = ap length e ∙ padded-length d room k f r;
  filled = record { below = λ i l. ap (λ z. get_or z i d) e ∙ padded-before d room k f i l; above = λ i l. ap (λ z. get_or z i d) e ∙ padded-behind d room k f i l };
}

-- a part of a list is the table of its entries
pub part-is : {A : Type 0} (d : A) (s : List A) (a e : ℕ) → a ≤ e → e ≤ length s → take (e - a) (drop a s) ≡ table (e - a) (λ k. get_or s (a + k) d)
part-is d s a e h l =
    let long : e - a ≤ length (drop a s) = simp length-drop (omega arith) in
    table_is d _ (e - a) (take (e - a) (drop a s)) (length-take-le (e - a) (drop a s) long)
    (λ k lt. get_or-take (e - a) (drop a s) k d lt ∙ get_or-drop a s k d)
