-- One level parted, and the carries from the lowest level up.
use mathlib.Core.Path.{◌≡◌, refl, sym, ◌∙◌, ap, ap₂, subst}
use mathlib.Core.Bool.{true, false, true≢false}
use mathlib.Core.List.{List, [], ◌∷◌}
use mathlib.Core.Logic.{◌⊎◌, inl, inr}
use Prim.Native.Nat.{ℕ, zero, suc, ◌+◌, ◌*◌, ◌-◌, ◌/◌, ◌%◌, ◌≤◌, ◌<◌}
use native.Mathlib.Decide.{ℕ_discrete}
use native.Mathlib.Omega.{arith}
use borrow.Author.Tests.{leb-false}
use lib.IntN.{ℤ, pos, negsuc, neg_ℤ, nat_abs, ◌+ℤ◌, ◌-ℤ◌, ◌*ℤ◌}
use lib.Dec.{T}
use lib.ListN.{length, get_or, set, length-set}
use lib.Seq.{get_or-set_same, get_or-set_other}
use lib.Signed.{le_z, non_neg, clash_ℤ}
use mir.Syntax.{w64}
use mir.Val.{SFits, to_z, of_z}
use Rattle.exact.specs.Order.{◌≤ᶻ◌, ◌<ᶻ◌}
use Rattle.exact.specs.Table.{table}
use Rattle.exact.proofs.Quote.{by-ring, quote}
use Rattle.exact.proofs.Linear.{lin, →eq}
use Rattle.exact.proofs.Order.{total}
use Rattle.exact.proofs.Sign.{nat_abs_add, nat_abs_sub, back, back-pos, fits_abs}
use Rattle.exact.proofs.Fill.{length-table, get_or_table_const}
use Rattle.long_digits.specs.Digits.{base, value, natural}
use Rattle.long_digits.proofs.Values.{value-suc, value_none, natural-suc}
use Rattle.long_digits.proofs.Carries.{below-part}
use Rattle.long_carrying.specs.Carried.{wide_size, Parted, Carried}

-- ---- one level
pub lift-up : (z : ℤ) → le_z (pos 0) z ≡ true → pos (9200000000000000000 + nat_abs z) ≡ z +ℤ pos 9200000000000000000
lift-up (pos n) e = ap pos (omega arith)
lift-up (negsuc n) e = absurd (true≢false (sym e))

down : (m c : ℕ) → m ≤ c → pos (c - m) ≡ neg_ℤ (pos m) +ℤ pos c
down m c h = →eq (search lin) (omega arith)

pub lift-down : (z : ℤ) → nat_abs z ≤ 9100000000000000000 → le_z (pos 0) z ≡ false → pos (9200000000000000000 - nat_abs z) ≡ z +ℤ pos 9200000000000000000
lift-down (pos n) h e = absurd (omega (arith, leb-false 0 n e))
lift-down (negsuc n) h e = down (suc n) 9200000000000000000 (omega arith)

back-down : (z c : ℤ) → z ≡ (z +ℤ c) -ℤ c
back-down z c = by-ring (z ∷ c ∷ []) (search quote depth 20) tt

split : (q r : ℤ) → (pos base *ℤ q +ℤ r) -ℤ pos 9200000000000000000 ≡ pos base *ℤ (q -ℤ pos 9200000000000) +ℤ r
split q r = by-ring (q ∷ r ∷ []) (search quote depth 20) tt

pub is-parted : (z : ℤ) (up : ℕ) → nat_abs z ≤ 9100000000000000000 → pos up ≡ z +ℤ pos 9200000000000000000 → Parted z (pos (up / base) -ℤ pos 9200000000000) (up % base)
is-parted z up h e = record {
  parts = back-down z (pos 9200000000000000000) ∙ ap (λ x. x -ℤ pos 9200000000000000000) (sym e ∙ ap pos whole) ∙ split (pos (up / base)) (pos (up % base));
  small = omega arith;
  near = omega (arith, nat_abs_sub (pos (up / base)) (pos 9200000000000), ap nat_abs e, nat_abs_add z (pos 9200000000000000000));
}
  where
    whole : up ≡ base * (up / base) + up % base
    whole = omega arith

-- the code's numbers
module _ (q : ℕ) (h : q ≤ 18446744073709) where
  pub over-fits : SFits w64 (to_z w64 q -ℤ pos 9200000000000)
  over-fits = rw (back-pos q (omega arith)) (fits_abs (pos q -ℤ pos 9200000000000) (omega (arith, nat_abs_sub (pos q) (pos 9200000000000))))

  pub over-is : to_z w64 (of_z w64 (to_z w64 q -ℤ pos 9200000000000)) ≡ pos q -ℤ pos 9200000000000
  over-is = ap (λ z. to_z w64 (of_z w64 (z -ℤ pos 9200000000000))) (back-pos q (omega arith)) ∙ back (pos q -ℤ pos 9200000000000) (omega (arith, nat_abs_sub (pos q) (pos 9200000000000)))

-- ---- from the lowest level up: levels below `left` are still to come, and `carry` goes to the lowest of them
pub record Carrying (L : ℕ) (f : ℕ → ℤ) (left : ℕ) (carry : ℤ) (out : List ℕ) : Type 0 where
  pub here : left ≤ L
  pub size : length out ≡ wide_size
  pub small : (k : ℕ) → get_or out k 0 < base
  pub near : nat_abs carry ≤ 30000000000000
  pub up : pos 0 ≤ᶻ value left f +ℤ carry
  -- whatever digits w stand in front of those that are settled: if they write what is left, all of them write the number
  pub whole : (w : ℕ → ℕ) → ((k : ℕ) → left + 3 ≤ k → w k ≡ get_or out k 0) → pos (natural (left + 3) w) ≡ value left f +ℤ carry → pos (natural (L + 3) w) ≡ value L f

add_none : (z : ℤ) → z +ℤ pos 0 ≡ z
add_none z = by-ring (z ∷ []) (search quote depth 20) tt

none-add : (z : ℤ) → pos 0 +ℤ z ≡ z
none-add z = by-ring (z ∷ []) (search quote depth 20) tt

pub carry_start : (L : ℕ) (f : ℕ → ℤ) (out : List ℕ) → out ≡ table wide_size (λ _. 0) → pos 0 ≤ᶻ value L f → Carrying L f L (pos 0) out
carry_start L f out e h = record {
  here = omega arith;
  size = ap length e ∙ length-table wide_size (λ _. 0);
  small = λ k. omega (arith, ap (λ (l : List ℕ). get_or l k 0) e ∙ get_or_table_const wide_size 0 k);
  near = omega arith;
  up = subst (λ z. pos 0 ≤ᶻ z) (sym (add_none (value L f))) h;
  whole = λ w _ q. q ∙ add_none (value L f);
}

-- a digit put where another stood
pub set-small : (out : List ℕ) (i x : ℕ) → i < length out → ((k : ℕ) → get_or out k 0 < base) → x < base → (k : ℕ) → get_or (set out i x) k 0 < base
set-small out i x l h s k = go (ℕ_discrete k i)
  where
    go : Dec (k ≡ i) → get_or (set out i x) k 0 < base
    go (yes e) = omega (arith, ap (λ (j : ℕ). get_or (set out i x) j 0) e ∙ get_or-set_same out i x 0 l, s)
    go (no n) = omega (arith, get_or-set_other out i k x 0 n, h k)

-- a level and what is handed on to it
turned : (x y c o r : ℤ) → y +ℤ c ≡ pos base *ℤ o +ℤ r → (pos base *ℤ x +ℤ y) +ℤ c ≡ pos base *ℤ (x +ℤ o) +ℤ r
turned x y c o r e = by-ring (x ∷ y ∷ c ∷ []) (search quote depth 20) tt ∙ ap (λ z. pos base *ℤ x +ℤ z) e ∙ by-ring (x ∷ o ∷ r ∷ []) (search quote depth 20) tt

module _ (L : ℕ) (f : ℕ → ℤ) (k : ℕ) (carry over : ℤ) (kept : ℕ) (out : List ℕ) (few : L + 3 ≤ wide_size) (c : Carrying L f (suc k) carry out) (p : Parted (f k +ℤ carry) over kept) where
  next : value (suc k) f +ℤ carry ≡ pos base *ℤ (value k f +ℤ over) +ℤ pos kept
  next = ap (λ z. z +ℤ carry) (value-suc k f) ∙ turned (value k f) (f k) carry over (pos kept) p.parts

  pub carry_turn : Carrying L f k over (set out (k + 3) kept)
  carry_turn = record {
    here = omega (arith, c.here);
    size = simp length-set c.size;
    small = set-small out (k + 3) kept inside c.small p.small;
    near = omega (arith, p.near);
    up = not_below (total (pos 0) (value k f +ℤ over));
    whole = λ w same e. c.whole w (λ j h. same j (omega (arith, h)) ∙ other j (omega (arith, h)))
        (ap (λ (i : ℕ). pos (natural i w)) (omega arith) ∙ ap pos (natural-suc (k + 3) w)
        ∙ ap₂ (λ x (y : ℕ). pos base *ℤ x +ℤ pos y) e (same (k + 3) (omega arith) ∙ own) ∙ sym next);
  }
    where
      inside : k + 3 < length out
      inside = omega (arith, c.size, c.here, few)

      own : get_or (set out (k + 3) kept) (k + 3) 0 ≡ kept
      own = get_or-set_same out (k + 3) kept 0 inside

      other : (j : ℕ) → k + 3 < j → get_or (set out (k + 3) kept) j 0 ≡ get_or out j 0
      other j h = get_or-set_other out (k + 3) j kept 0 (λ e. absurd (omega (arith, e, h)))

      not_below : (pos 0 ≤ᶻ value k f +ℤ over) ⊎ (value k f +ℤ over <ᶻ pos 0) → pos 0 ≤ᶻ value k f +ℤ over
      not_below (inl h) = h
      not_below (inr h) = clash_ℤ (below-part (value k f +ℤ over) kept p.small h) (subst (λ z. pos 0 ≤ᶻ z) next c.up)

-- ---- the top: what is left is three digits
three : (w : ℕ → ℕ) → natural 3 w ≡ base * (base * w 0 + w 1) + w 2
unfolding natural
three w = omega arith

module _ (top : ℕ) (few : top ≤ 30000000000000) (out : List ℕ) (size : length out ≡ wide_size) where
  abbrev one : List ℕ
  one = set out 0 (top / 1000000000000)

  abbrev two : List ℕ
  two = set one 1 (top / 1000000 % 1000000)

  abbrev last : List ℕ
  last = set two 2 (top % 1000000)

  one-long : length one ≡ wide_size
  one-long = simp length-set size

  two-long : length two ≡ wide_size
  two-long = simp length-set size

  pub top-behind : (k : ℕ) → 3 ≤ k → get_or last k 0 ≡ get_or out k 0
  top-behind k h = get_or-set_other two 2 k (top % 1000000) 0 (λ e. absurd (omega (arith, e, h)))
      ∙ get_or-set_other one 1 k (top / 1000000 % 1000000) 0 (λ e. absurd (omega (arith, e, h)))
      ∙ get_or-set_other out 0 k (top / 1000000000000) 0 (λ e. absurd (omega (arith, e, h)))

  pub top_small : ((k : ℕ) → get_or out k 0 < base) → (k : ℕ) → get_or last k 0 < base
  top_small h = set-small two 2 (top % 1000000) (omega (arith, two-long)) (set-small one 1 (top / 1000000 % 1000000) (omega (arith, one-long)) (set-small out 0 (top / 1000000000000) (omega (arith, size)) h (omega arith)) (omega arith)) (omega arith)

  pub top-value : natural 3 (λ k. get_or last k 0) ≡ top
  top-value = three (λ k. get_or last k 0) ∙ omega (
    arith,
    get_or-set_other two 2 0 (top % 1000000) 0 (λ e. absurd (omega (arith, e))) ∙ get_or-set_other one 1 0 (top / 1000000 % 1000000) 0 (λ e. absurd (omega (arith, e))) ∙ get_or-set_same out 0 (top / 1000000000000) 0 (omega (arith, size)),
    get_or-set_other two 2 1 (top % 1000000) 0 (λ e. absurd (omega (arith, e))) ∙ get_or-set_same one 1 (top / 1000000 % 1000000) 0 (omega (arith, one-long)),
    get_or-set_same two 2 (top % 1000000) 0 (omega (arith, two-long)),
  )

pub carry_end : (L : ℕ) (f : ℕ → ℤ) (top : ℕ) (out : List ℕ) → Carrying L f 0 (pos top) out
    → Carried L f (set (set (set out 0 (top / 1000000000000)) 1 (top / 1000000 % 1000000)) 2 (top % 1000000))
carry_end L f top out c = record {
  size = simp length-set c.size;
  small = top_small top c.near out c.size c.small;
  same = c.whole (λ k. get_or (set (set (set out 0 (top / 1000000000000)) 1 (top / 1000000 % 1000000)) 2 (top % 1000000)) k 0) (top-behind top c.near out c.size)
      (ap pos (top-value top c.near out c.size) ∙ sym (ap (λ z. z +ℤ pos top) (value_none f) ∙ none-add (pos top)));
}

-- what is left at the top is not negative
pub top_up : (f : ℕ → ℤ) (carry : ℤ) → pos 0 ≤ᶻ value 0 f +ℤ carry → pos 0 ≤ᶻ carry
top_up f carry h = subst (λ z. pos 0 ≤ᶻ z) (ap (λ z. z +ℤ carry) (value_none f) ∙ none-add carry) h

-- ---- the code's numbers
module _ (x carry : ℤ) (hx : nat_abs x ≤ 9000000000000000000) (hc : nat_abs carry ≤ 30000000000000) where
  pub sum_near : nat_abs (x +ℤ carry) ≤ 9100000000000000000
  sum_near = omega (arith, nat_abs_add x carry)

  pub sum_fits : SFits w64 (to_z w64 (of_z w64 x) +ℤ carry)
  sum_fits = rw (back x (omega arith)) (fits_abs (x +ℤ carry) (omega (arith, sum_near)))

  pub sum_is : to_z w64 (of_z w64 (to_z w64 (of_z w64 x) +ℤ carry)) ≡ x +ℤ carry
  sum_is = ap (λ z. to_z w64 (of_z w64 (z +ℤ carry))) (back x (omega arith)) ∙ back (x +ℤ carry) (omega (arith, sum_near))

pub up_cast : (z : ℤ) → pos 0 ≤ᶻ z → T (non_neg z)
up_cast (pos n) h = tt
up_cast (negsuc n) h = absurd h.le

pub up_is : (z : ℤ) → pos 0 ≤ᶻ z → z ≡ pos (nat_abs z)
up_is (pos n) h = refl
up_is (negsuc n) h = absurd h.le
