-- A text written piece by piece is the text written at once: each piece goes where the one before it ends, and there is room for all.
use mathlib.Core.Path.{◌≡◌, sym, ◌∙◌, ap, subst}
use mathlib.Core.Bool.{Bool, cond}
use mathlib.Core.List.{List, [], ◌∷◌}
use mathlib.Core.Logic.{◌≢◌}
use Prim.Native.Nat.{ℕ, ◌+◌, ◌-◌, ◌*◌, ◌/◌, ◌%◌, ◌≤◌, ◌<◌}
use native.Mathlib.Decide.{dec_lt}
use native.Mathlib.Omega.{arith}
use borrow.Author.Tests.{eq-eqb, ne_eqb}
use lib.ListN.{length, get_or, take, drop, length-drop}
use lib.Seq.{get_or-take, get_or-drop, length-take-le}
use Rattle.exact.proofs.Decide.{by_cases}
use Rattle.exact.proofs.Fill.{table_is}
use Rattle.matrix.specs.Limits.{max_strains, missing}
use Rattle.matrix.specs.Place.{pair_count, pair_place}
use Rattle.matrix.proofs.Places.{place-bound, pair-place-up, pair-place-down}
use Rattle.writing.specs.Text.{decimal, Wrote}
use Rattle.writing.proofs.Writing.{wrote_then, wrote-length}
use Rattle.writing.proofs.Decimals.{decimal-length}
use Rattle.pieces.specs.Pieces.{pieces}
use Rattle.phylip_text.specs.Form.{name_size}
use Rattle.phylip_text.specs.Text.{cell_written, value_at, name_written, row_written, text_of, widest_row, widest_text}
use Rattle.phylip_text.proofs.Sizes.{name-long, cells-long}

-- ---- a cell
pub cell_missing : (e : ℕ) → e ≡ missing → 32 ∷ 45 ∷ 49 ∷ [] ≡ cell_written e
unfolding cell_written
cell_missing e h = sym (rw (eq-eqb e missing h))

pub cell_decimal : (e : ℕ) → e ≢ missing
    → 32 ∷ (48 + e / 10000) ∷ 46 ∷ (48 + e / 1000 % 10) ∷ (48 + e / 100 % 10) ∷ (48 + e / 10 % 10) ∷ (48 + e % 10) ∷ [] ≡ cell_written e
unfolding cell_written
cell_decimal e h = sym (rw (ne_eqb e missing h))

-- ---- what stands in a cell
pub pair-within : (n i j : ℕ) (ds : List ℕ) → i < n → j < n → i ≢ j → length ds ≡ pair_count n → pair_place i j < length ds
pair-within n i j ds h l ne e = by_cases (dec_lt i j)
    (λ q. omega (arith, pair-place-up i j q, place-bound n i j q l))
    (λ q. omega (arith, pair-place-down i j (omega arith), place-bound n j i (below q) h))
  where
    below : (i < j → ⊥) → j < i
    below q = by_cases (dec_lt j i) (λ z. z) (λ z. absurd (ne (omega arith)))

pub value-off : (ds : List ℕ) (i j k : ℕ) → i ≢ j → k ≡ pair_place i j → get_or ds k 0 ≡ value_at ds i j
value-off ds i j k h e = ap (λ (m : ℕ). get_or ds m 0) e ∙ sym (ap (λ (q : Bool). cond q 0 (get_or ds (pair_place i j) 0)) (ne_eqb i j h))

-- ---- a name
pub name-is : (names : List ℕ) (n i : ℕ) → i < n → length names ≡ name_size * n → take (name_size * i + name_size - name_size * i) (drop (name_size * i) names) ≡ name_written names i
name-is names n i h e = let q : name_size * i + name_size - name_size * i ≡ name_size = omega arith in
    ap (λ (k : ℕ). take k (drop (name_size * i) names)) q
    ∙ table_is 0 (λ k. get_or names (name_size * i + k) 0) name_size (take name_size (drop (name_size * i) names))
    (length-take-le name_size (drop (name_size * i) names) (omega (arith, e, length-drop (name_size * i) names)))
    (λ k l. get_or-take name_size (drop (name_size * i) names) k 0 l ∙ get_or-drop (name_size * i) names k 0)

-- ---- a row
pub row_written_lem : {b c d e : List ℕ} {at i j k : ℕ} (n m : ℕ) (ds names word : List ℕ) → n ≤ max_strains → at + widest_row ≤ length b → word ≡ name_written names m
    → Wrote b c at word i → Wrote c d i (pieces n (λ q. cell_written (value_at ds m q))) j → Wrote d e j (10 ∷ []) k → Wrote b e at (row_written n ds names m) k
unfolding row_written
row_written_lem {b} {c} {d} {e} {at} {i} {j} {k} n m ds names word few room eq p q r =
    wrote_then (omega (arith, name-long names m)) named (wrote_then (omega (arith, named.place, name-long names m, cells-long ds m n, wrote-length one named)) q r)
  where
    named : Wrote b c at (name_written names m) i
    named = subst (λ (l : List ℕ). Wrote b c at l i) eq p

    one : at + length (name_written names m) ≤ length b
    one = omega (arith, name-long names m)

-- there is room for its end
pub row_room : {b c d : List ℕ} {at i j : ℕ} (n m : ℕ) (ds names word : List ℕ) → n ≤ max_strains → at + widest_row ≤ length b → word ≡ name_written names m
    → Wrote b c at word i → Wrote c d i (pieces n (λ q. cell_written (value_at ds m q))) j → j < length d
row_room {b} {c} {d} {at} {i} {j} n m ds names word few room e p q =
    omega (arith, p.place, q.place, ap length e, name-long names m, cells-long ds m n, wrote-length one p, wrote-length two q)
  where
    one : at + length word ≤ length b
    one = omega (arith, ap length e, name-long names m)

    two : i + length (pieces n (λ q. cell_written (value_at ds m q))) ≤ length c
    two = omega (arith, p.place, ap length e, name-long names m, cells-long ds m n, wrote-length one p)

-- ---- the whole text
pub count_room : {b c : List ℕ} {i : ℕ} (n : ℕ) → widest_text ≤ length b → Wrote b c 0 (decimal n) i → (i ≤ 20) × (length c ≡ length b)
count_room n room p = (omega (arith, p.place, decimal-length n), wrote-length {s = decimal n} (omega (arith, decimal-length n)) p)

pub line-room : {c d : List ℕ} {i j : ℕ} → i < length c → Wrote c d i (10 ∷ []) j → (j ≡ i + 1) × (length d ≡ length c)
line-room h q = (q.place, wrote-length {s = 10 ∷ []} (omega arith) q)

pub text-written : {b c d e : List ℕ} {i j k : ℕ} (n : ℕ) (ds names : List ℕ) → n ≤ max_strains → widest_text ≤ length b
    → Wrote b c 0 (decimal n) i → Wrote c d i (10 ∷ []) j → Wrote d e j (pieces n (row_written n ds names)) k → Wrote b e 0 (text_of n ds names) k
unfolding text_of
text-written {b} {c} {d} {e} {i} {j} {k} n ds names few room p q r =
    let u = count_room n room p in wrote_then (omega (arith, decimal-length n)) p (wrote_then (omega (arith, u.0, u.1)) q r)

-- ---- one text for another
pub wrote_as : {b c : List ℕ} {at k : ℕ} {s t : List ℕ} → s ≡ t → Wrote b c at s k → Wrote b c at t k
wrote_as {b} {c} {at} {k} e w = subst (λ (l : List ℕ). Wrote b c at l k) e w
