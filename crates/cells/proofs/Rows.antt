-- One cell of a row a turn.
use mathlib.Core.Path.{◌≡◌, refl, sym, ◌∙◌, ap, ap₂}
use mathlib.Core.Bool.{Bool, true, false, ◌||◌, ◌&&◌}
use mathlib.Core.List.{List}
use mathlib.Core.Logic.{◌≢◌}
use Prim.Native.Nat.{ℕ, ◌+◌, ◌≤◌, ◌<◌}
use native.Mathlib.Decide.{ℕ_discrete}
use native.Mathlib.Numerals.{add-one}
use native.Mathlib.Omega.{arith}
use borrow.Author.Tests.{eq-eqb, ne_eqb}
use lib.Dec.{eqb, ltb}
use lib.ListN.{length, get_or, drop, set, length-set}
use lib.Seq.{drop-drop, get_or-set_same, get_or-set_other}
use Rattle.exact.proofs.Decide.{by_cases}
use Rattle.verdict.specs.Table.{some}
use Rattle.verdict.proofs.Table.{some-yes, some-no}
use Rattle.cells.specs.Cell.{gap, cell_size, cell_out, cell_entry}
use Rattle.cells.specs.Row.{front, rest, cell_bad, Read}
use Rattle.std.specs.Prelude.{Some, None}

-- c cells of n are read
pub record RowAt (s : List ℕ) (at n base : ℕ) (before : List ℕ) (entries : List ℕ) (end : ℕ) (out : Bool) (c : ℕ) : Type 0 where
  pub few : c ≤ n
  pub within : end ≤ length s
  pub here : drop end s ≡ rest c (drop at s)
  pub good : (k : ℕ) → k < c → cell_bad (drop at s) k ≡ false
  pub out-is : out ≡ some c (λ k. cell_out (front (rest k (drop at s))))
  pub size : length entries ≡ length before
  pub kept : (k : ℕ) → k < base → get_or entries k 0 ≡ get_or before k 0
  pub each : (k : ℕ) → k < c → get_or entries (base + k) 0 ≡ cell_entry (front (rest k (drop at s)))

module _ (s : List ℕ) (at n base : ℕ) (before : List ℕ) where
  pub row-start : at ≤ length s → RowAt s at n base before before at false 0
  unfolding rest some
  row-start h = record { few = omega arith; within = h; here = refl; good = λ k l. absurd (omega arith); out-is = refl; size = refl; kept = λ k l. refl; each = λ k l. absurd (omega arith) }

  module _ (entries : List ℕ) (end : ℕ) (out : Bool) (c : ℕ) (t : RowAt s at n base before entries end out c) (start : ℕ) (g : start ≡ end + gap (drop end s)) where
    gap_here : gap (rest c (drop at s)) ≡ gap (drop end s)
    gap_here = ap gap (sym t.here)

    at_front : drop start s ≡ front (rest c (drop at s))
    at_front = ap (λ (k : ℕ). drop k s) g ∙ sym (drop-drop (gap (drop end s)) end s) ∙ ap front t.here

    touch_is : eqb start end ≡ eqb (gap (rest c (drop at s))) 0
    touch_is = by_cases (ℕ_discrete start end)
        (λ e. eq-eqb start end e ∙ sym (eq-eqb (gap (rest c (drop at s))) 0 (gap_here ∙ zero_of e)))
        (λ e. ne_eqb start end e ∙ sym (ne_eqb (gap (rest c (drop at s))) 0 (λ z. e (same_of (sym gap_here ∙ z)))))
      where
        zero_of : start ≡ end → gap (drop end s) ≡ 0
        zero_of e = omega (arith, g, e)

        same_of : gap (drop end s) ≡ 0 → start ≡ end
        same_of z = omega (arith, g, z)

    or_right : (b : Bool) → (b || true) ≡ true
    or_right true = refl
    or_right false = refl

    -- a cell right behind another
    pub row_touches : c < n → (ltb 0 c && eqb start end) ≡ true → true ≡ some n (cell_bad (drop at s))
    row_touches l h = sym (some-yes n (cell_bad (drop at s)) c l (ap (λ (q : Bool). eqb (cell_size (front (rest c (drop at s)))) 0 || q) (ap (λ (q : Bool). ltb 0 c && q) (sym touch_is) ∙ h) ∙ or_right (eqb (cell_size (front (rest c (drop at s)))) 0)))

    module _ (size : ℕ) (z : size ≡ cell_size (drop start s)) where
      size_is : size ≡ cell_size (front (rest c (drop at s)))
      size_is = z ∙ ap cell_size at_front

      pub row-none : c < n → size ≡ 0 → true ≡ some n (cell_bad (drop at s))
      row-none l e = sym (some-yes n (cell_bad (drop at s)) c l (ap (λ (q : Bool). q || (ltb 0 c && eqb (gap (rest c (drop at s))) 0)) (eq-eqb (cell_size (front (rest c (drop at s)))) 0 (sym size_is ∙ e))))

      pub row-turn : (f o : Bool) (x : ℕ) → c < n → base + n ≤ length before → start + size ≤ length s → (ltb 0 c && eqb start end) ≡ false → size ≢ 0
          → (f ≡ cell_out (drop start s)) × (x ≡ cell_entry (drop start s)) → o ≡ (out || f)
          → RowAt s at n base before (set entries (base + c) x) (start + size) o (c + 1)
      unfolding rest some
      row-turn f o x l m w h e p q = rw add-one (record {
        few = l;
        within = w;
        here = sym (drop-drop size start s) ∙ ap₂ (λ (k : ℕ) (x : List ℕ). drop k x) size_is at_front;
        good = λ k j. by_cases (ℕ_discrete k c)
            (λ r. ap (cell_bad (drop at s)) r ∙ ap₂ (λ (a b : Bool). a || b) (ne_eqb (cell_size (front (rest c (drop at s)))) 0 (λ y. e (size_is ∙ y))) (ap (λ (b : Bool). ltb 0 c && b) (sym touch_is) ∙ h))
            (λ r. t.good k (omega arith));
        out-is = q ∙ ap₂ (λ (a b : Bool). a || b) t.out-is (p.0 ∙ ap cell_out at_front);
        size = length-set entries (base + c) x ∙ t.size;
        kept = λ k j. get_or-set_other entries (base + c) k x 0 (λ r. omega arith) ∙ t.kept k j;
        each = λ k j. by_cases (ℕ_discrete k c)
            (λ r. ap (λ (y : ℕ). get_or (set entries (base + c) x) (base + y) 0) r ∙ get_or-set_same entries (base + c) x 0 (omega (arith, t.size)) ∙ p.1 ∙ ap cell_entry at_front ∙ sym (ap (λ (x : ℕ). cell_entry (front (rest x (drop at s)))) r))
            (λ r. get_or-set_other entries (base + c) (base + k) x 0 (λ q. r (omega arith)) ∙ t.each k (omega arith));
      })

  pub row-end : (entries : List ℕ) (end : ℕ) (out : Bool) (c : ℕ) → n ≤ c → RowAt s at n base before entries end out c → Read s at n base before entries (Some (record { end = end; out = out }))
  row-end entries end out c h t = let q : c ≡ n = omega (arith, t.few) in record {
    bad-is = sym (some-no n (cell_bad (drop at s)) (λ k l. t.good k (omega arith)));
    size = t.size;
    kept = t.kept;
    cells = record {
      within = t.within;
      behind-all = t.here ∙ ap (λ (k : ℕ). rest k (drop at s)) q;
      out-is = t.out-is ∙ ap (λ (k : ℕ). some k (λ m. cell_out (front (rest m (drop at s))))) q;
      each = λ k l. t.each k (omega arith);
    };
  }

  pub row-bad : {entries : List ℕ} {end : ℕ} {out : Bool} {c : ℕ} → RowAt s at n base before entries end out c → true ≡ some n (cell_bad (drop at s)) → Read s at n base before entries None
  row-bad t e = record { bad-is = e; size = t.size; kept = t.kept; cells = tt }
