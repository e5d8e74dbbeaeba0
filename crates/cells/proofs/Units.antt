-- The units of a decimal, and what a cell is judged by. What is read is cut at 10^15, far above 5.0000, so cutting changes no judgement
-- (`cut-seen`).
use mathlib.Core.Path.{◌≡◌, refl, sym, ◌∙◌, ap, ap₂}
use mathlib.Core.Bool.{Bool, true, false, cond, not, ◌||◌, true≢false}
use mathlib.Core.List.{List}
use mathlib.Core.Logic.{◌≢◌}
use Prim.Native.Nat.{ℕ, suc, ◌+◌, ◌-◌, ◌*◌, ◌≤◌, ◌<◌}
use native.Mathlib.Decide.{dec_lt}
use native.Mathlib.Omega.{arith}
use borrow.Author.Tests.{eqb-true, eq-eqb, ne_eqb, lt-ltb}
use lib.Dec.{eqb, ltb}
use lib.ListN.{length, get_or, take, drop, replicate}
use lib.Seq.{slice, get_or-drop, drop-drop}
use Rattle.exact.proofs.Decide.{by_cases}
use Rattle.matrix.specs.Limits.{max_distance, missing}
use Rattle.digits.specs.Digits.{run, is_digit, digit_of, most, at_most, number_from}
use Rattle.digits.proofs.Reading.{both_true, inside, low-cut, high_cut, cut_again, slice_is}
use Rattle.cells.specs.Cell.{whole, pointed, part, places, is_missing, decimal_size, cell_size, units_of, units_out, decimal_out, decimal_entry, cell_out, cell_entry}
use Rattle.std.specs.Prelude.{Option, Some, None, is_some, is_none, IfSome}
use Rattle.std.specs.Option.{unwrap_or}

-- ---- scaled
pub scale-turn : (k all next n : ℕ) → k < 4 → next ≡ at_most (all * 10 + digit_of 48) → at_most (number_from all (replicate (4 - k) 48)) ≡ n → at_most (number_from next (replicate (4 - (k + 1)) 48)) ≡ n
unfolding number_from
scale-turn k all next n h e t = let q : 4 - k ≡ suc (4 - (k + 1)) = omega arith in
    ap (λ (x : ℕ). at_most (number_from x (replicate (4 - (k + 1)) 48))) e
    ∙ cut_again (replicate (4 - (k + 1)) 48) (all * 10 + digit_of 48)
    ∙ sym (ap (λ (m : ℕ). at_most (number_from all (replicate m 48))) q)
    ∙ t

pub scale-end : (k all n : ℕ) → 4 ≤ k → all ≤ most → at_most (number_from all (replicate (4 - k) 48)) ≡ n → all ≡ n
unfolding number_from
scale-end k all n h b t = let q : 4 - k ≡ 0 = omega arith in sym (low-cut all b) ∙ sym (ap (λ (m : ℕ). at_most (number_from all (replicate m 48))) q) ∙ t

-- ---- the size of a cell
pub size-missing : (s : List ℕ) (at : ℕ) → is_missing (drop at s) ≡ true → (2 ≡ cell_size (drop at s)) × (at + 2 ≤ length s)
unfolding cell_size
size-missing s at e =
    let q = both_true (eqb (get_or (drop at s) 0 0) 45) (eqb (get_or (drop at s) 1 0) 49) e in
    let r : get_or s (at + 1) 0 ≡ 49 = sym (get_or-drop at s 1 0) ∙ eqb-true (get_or (drop at s) 1 0) 49 q.1 in
    let k = inside s (at + 1) 48 r in
    (rw e, omega (arith, k))

pub size-decimal : (s : List ℕ) (at r : ℕ) → is_missing (drop at s) ≡ false → (r ≡ decimal_size (drop at s)) × (at + r ≤ length s) → (r ≡ cell_size (drop at s)) × (at + r ≤ length s)
unfolding cell_size
size-decimal s at r e p = (rw e p.0, p.1)

-- ---- the cell
pub cell_missing : (l : List ℕ) → is_missing l ≡ true → (false ≡ cell_out l) × (missing ≡ cell_entry l)
unfolding cell_out cell_entry
cell_missing l e = (rw e, rw e)

pub cell_decimal : (l : List ℕ) (r : Option ℕ) → is_missing l ≡ false → (is_none r ≡ decimal_out l) × IfSome r (λ x. x ≡ decimal_entry l) → (is_none r ≡ cell_out l) × IfSome r (λ x. x ≡ cell_entry l)
unfolding cell_out cell_entry
cell_decimal l r e p = rw e p

-- a cell that is out has 0 for its entry
out-entry : (l : List ℕ) → cell_out l ≡ true → 0 ≡ cell_entry l
unfolding cell_out cell_entry
out-entry l e = go (is_missing l) (decimal_out l) e
  where
    go : (m d : Bool) → cond m false d ≡ true → 0 ≡ cond m missing (cond d 0 (units_of l))
    go true d h = absurd (true≢false (sym h))
    go false true h = refl
    go false false h = absurd (true≢false (sym h))

-- what is kept of a cell, by what is read of it
pub cell-kept : (l : List ℕ) (r : Option ℕ) (o : Bool) (x : ℕ) → (is_none r ≡ cell_out l) × IfSome r (λ y. y ≡ cell_entry l) → is_some r ≡ not o → x ≡ unwrap_or r 0
    → (o ≡ cell_out l) × (x ≡ cell_entry l)
cell-kept l None true x p e f = (p.0, f ∙ out-entry l (sym p.0))
cell-kept l None false x p e f = absurd (true≢false (sym e))
cell-kept l (Some y) true x p e f = absurd (true≢false e)
cell-kept l (Some y) false x p e f = (p.0, f ∙ p.1)

-- ---- the units
module _ (s : List ℕ) (at point : ℕ) (e : point ≡ at + run is_digit (drop at s)) where
  abbrev l : List ℕ
  l = drop at s

  before : slice at point s ≡ take (whole l) l
  before = let q : point - at ≡ whole l = omega (arith, e) in slice_is s at point ∙ ap (λ (n : ℕ). take n l) q

  there : get_or l (whole l) 0 ≡ get_or s point 0
  there = get_or-drop at s (whole l) 0 ∙ ap (λ (n : ℕ). get_or s n 0) (sym e)

  module _ (h : get_or s point 0 ≢ 46) where
    none : pointed l ≡ false
    none = ne_eqb (get_or l (whole l) 0) 46 (λ z. h (sym there ∙ z))

    pub places-none : places l ≡ 0
    places-none = rw none

    pub units_none : (w u : ℕ) → w ≡ at_most (number_from 0 (slice at point s)) → u ≡ at_most (number_from w (replicate (4 - 0) 48)) → u ≡ at_most (units_of l)
    unfolding number_from
    units_none w u ew eu = eu
        ∙ ap (λ (x : ℕ). at_most (number_from x (replicate 4 48))) (ew ∙ ap (λ (m : List ℕ). at_most (number_from 0 m)) before)
        ∙ cut_again (replicate 4 48) (number_from 0 (take (whole l) l))
        ∙ sym (rw places-none)

  module _ (dot : get_or s point 0 ≡ 46) (end : ℕ) (f : end ≡ point + 1 + run is_digit (drop (point + 1) s)) where
    same : drop (whole l + 1) l ≡ drop (point + 1) s
    same = let q : at + (whole l + 1) ≡ point + 1 = omega (arith, e) in drop-drop (whole l + 1) at s ∙ ap (λ (n : ℕ). drop n s) q

    pub places-some : places l ≡ end - (point + 1)
    places-some = let q : run is_digit (drop (point + 1) s) ≡ end - (point + 1) = omega (arith, f) in
        ap (λ (b : Bool). cond b (part l) 0) (eq-eqb (get_or l (whole l) 0) 46 (there ∙ dot)) ∙ ap (run is_digit) same ∙ q

    pub units_some : (w a u : ℕ) → w ≡ at_most (number_from 0 (slice at point s)) → a ≡ at_most (number_from w (slice (point + 1) end s))
        → u ≡ at_most (number_from a (replicate (4 - (end - (point + 1))) 48)) → u ≡ at_most (units_of l)
    units_some w a u ew ea eu = eu
        ∙ ap₂ (λ (x n : ℕ). at_most (number_from x (replicate (4 - n) 48))) all (sym places-some)
        ∙ cut_again (replicate (4 - places l) 48) (number_from (number_from 0 (take (whole l) l)) (take (places l) (drop (whole l + 1) l)))
      where
        digits : slice (point + 1) end s ≡ take (places l) (drop (whole l + 1) l)
        digits = slice_is s (point + 1) end ∙ ap₂ (λ (n : ℕ) (m : List ℕ). take n m) (sym places-some) (sym same)

        all : a ≡ at_most (number_from (number_from 0 (take (whole l) l)) (take (places l) (drop (whole l + 1) l)))
        all = ea
            ∙ ap₂ (λ (x : ℕ) (m : List ℕ). at_most (number_from x m)) (ew ∙ ap (λ (m : List ℕ). at_most (number_from 0 m)) before) digits
            ∙ cut_again (take (places l) (drop (whole l + 1) l)) (number_from 0 (take (whole l) l))

-- ---- a number of units with its places is judged alike when it is cut
or_right : (b : Bool) → (b || true) ≡ true
or_right true = refl
or_right false = refl

cut-seen : (k u : ℕ) → (units_out k (at_most u) ≡ units_out k u) × (cond (units_out k (at_most u)) 0 (at_most u) ≡ cond (units_out k u) 0 u)
cut-seen k u = by_cases (dec_lt most u)
    (λ h. let e : units_out k (at_most u) ≡ true = ap (λ (q : Bool). ltb 4 k || q) (ap (ltb max_distance) (high_cut u h) ∙ lt-ltb max_distance most (omega arith)) ∙ or_right (ltb 4 k) in
    let f : units_out k u ≡ true = ap (λ (q : Bool). ltb 4 k || q) (lt-ltb max_distance u (omega arith)) ∙ or_right (ltb 4 k) in
    (e ∙ sym f, ap (λ (q : Bool). cond q 0 (at_most u)) e ∙ sym (ap (λ (q : Bool). cond q 0 u) f)))
    (λ h. let e : at_most u ≡ u = low-cut u (omega arith) in (ap (units_out k) e, ap (λ (x : ℕ). cond (units_out k x) 0 x) e))

-- a number that is judged is judged as the cut one, and is none where that is out
pub seen_as : (l : List ℕ) (k u : ℕ) (r : Option ℕ) → k ≡ places l → u ≡ at_most (units_of l) → (is_none r ≡ units_out k u) × IfSome r (λ x. x ≡ u)
    → (is_none r ≡ decimal_out l) × IfSome r (λ x. x ≡ decimal_entry l)
seen_as l k u None e f p = (p.0 ∙ ap₂ units_out e f ∙ (cut-seen (places l) (units_of l)).0, tt)
seen_as l k u (Some x) e f p = (p.0 ∙ ap₂ units_out e f ∙ (cut-seen (places l) (units_of l)).0, p.1 ∙ held)
  where
    held : u ≡ decimal_entry l
    held = sym (ap (λ (q : Bool). cond q 0 u) (sym p.0)) ∙ ap₂ (λ (a b : ℕ). cond (units_out a b) 0 b) e f ∙ (cut-seen (places l) (units_of l)).1
