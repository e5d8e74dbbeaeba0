-- What the tests of a length tell, by positions in the text; and that cutting leaves every length that is allowed as it is (`cut_in`).
use mathlib.Core.Path.{◌≡◌, refl, sym, ◌∙◌, ap, ap₂}
use mathlib.Core.Bool.{Bool, true, false, not, ◌&&◌}
use mathlib.Core.List.{List}
use Prim.Native.Nat.{ℕ, zero, suc, ◌+◌, ◌-◌, ◌≤◌, ◌<◌}
use native.Mathlib.Decide.{dec_lt, ℕ_discrete}
use native.Mathlib.Omega.{arith}
use borrow.Author.Tests.{le-leb, lt-leb, eq-eqb, ne_eqb}
use lib.Dec.{eqb, leb, ltb}
use lib.IntN.{ℤ, pos, negsuc, neg_ℤ, nat_abs}
use lib.ListN.{length, get_or, take, drop}
use lib.Seq.{slice, get_or-drop, drop-drop}
use Rattle.exact.proofs.Decide.{by_cases}
use Rattle.exact.proofs.Sign.{nat_abs_neg}
use Rattle.digits.specs.Digits.{run, is_digit, most, at_most, number_from}
use Rattle.digits.proofs.Reading.{inside, slice_is, cut_again, low-cut, high_cut, cut_most}
use Rattle.names.specs.Name.{max_name, is_name_byte}
use Rattle.newick_text.specs.Length.{sign_size, whole_size, point_at, magnitude_of, length_size, length_there, value_of}
use Rattle.newick_text.proofs.Lengths.{sign-one}
use Rattle.newick_words.specs.Words.{name_width, length_width, edge_width, cut}

-- ---- cutting a whole number
pub cut_neg : (n : ℕ) → cut (neg_ℤ (pos n)) ≡ neg_ℤ (pos (at_most n))
unfolding cut
cut_neg zero = refl
cut_neg (suc n) = refl

-- no cut number is beyond 10^15
pub cut_small : (z : ℤ) → nat_abs (cut z) ≤ most
unfolding cut
cut_small (pos n) = cut_most n
cut_small (negsuc n) = rw nat_abs_neg (cut_most (suc n))

-- what is not beyond 10^15 is left as it is
pub cut_in : (z : ℤ) → nat_abs (cut z) < most → cut z ≡ z
unfolding cut
cut_in (pos n) h = by_cases (dec_lt most n) (λ l. absurd (omega (arith, high_cut n l))) (λ l. ap pos (low-cut n (omega arith)))
cut_in (negsuc n) h = by_cases (dec_lt most (suc n))
    (λ l. absurd (omega (arith, nat_abs_neg (pos (at_most (suc n))), high_cut (suc n) l)))
    (λ l. ap (λ (m : ℕ). neg_ℤ (pos m)) (low-cut (suc n) (omega arith)))

-- zero is cut to zero, and nothing else is
pub cut-zero : (m : ℕ) → eqb (at_most m) 0 ≡ eqb m 0
cut-zero m = by_cases (dec_lt most m)
    (λ l. ap (λ (x : ℕ). eqb x 0) (high_cut m l) ∙ sym (ne_eqb m 0 (λ e. omega (arith, e))))
    (λ l. ap (λ (x : ℕ). eqb x 0) (low-cut m (omega arith)))

-- ---- the test of a length, by positions
-- the test, by what it reads: digits before the point, the first of them, the byte behind them, digits behind that, a minus, all digits
abbrev judged : ℕ → ℕ → ℕ → ℕ → ℕ → ℕ → Bool
judged w lead dot part minus m = leb 1 w && (not (ltb 1 w && eqb lead 48) && (eqb dot 46 && (eqb part 3 && not (eqb minus 1 && eqb m 0))))

-- what each part of it tells
and_none : (a : Bool) → (a && false) ≡ false
and_none true = refl
and_none false = refl

module _ (w lead dot part minus m : ℕ) where
  judged-none : w ≡ 0 → judged w lead dot part minus m ≡ false
  judged-none h = rw h

  judged-needless : (ltb 1 w && eqb lead 48) ≡ true → judged w lead dot part minus m ≡ false
  judged-needless h = rw h (and_none (leb 1 w))

  judged_pointless : (dot ≡ 46 → ⊥) → judged w lead dot part minus m ≡ false
  judged_pointless h = rw (ne_eqb dot 46 h, and_none (not (ltb 1 w && eqb lead 48))) (and_none (leb 1 w))

  judged-places : (part ≡ 3 → ⊥) → judged w lead dot part minus m ≡ false
  judged-places h = rw (ne_eqb part 3 h, and_none (eqb dot 46), and_none (not (ltb 1 w && eqb lead 48))) (and_none (leb 1 w))

  judged-rest : 1 ≤ w → (ltb 1 w && eqb lead 48) ≡ false → dot ≡ 46 → part ≡ 3 → judged w lead dot part minus m ≡ not (eqb minus 1 && eqb m 0)
  judged-rest h n d p = rw (n, le-leb 1 w h, eq-eqb dot 46 d, eq-eqb part 3 p)

pub front-byte : (s : List ℕ) (at : ℕ) → get_or (drop at s) 0 0 ≡ get_or s at 0
front-byte s at = get_or-drop at s 0 0 ∙ ap (λ (n : ℕ). get_or s n 0) (omega arith)

module _ (s : List ℕ) (at whole point : ℕ) (ew : whole ≡ at + sign_size (drop at s)) (ep : point ≡ whole + run is_digit (drop whole s)) where
  abbrev l : List ℕ
  l = drop at s

  front-is : drop (sign_size l) l ≡ drop whole s
  front-is = drop-drop (sign_size l) at s ∙ ap (λ (n : ℕ). drop n s) (sym ew)

  pub whole_is : whole_size l ≡ point - whole
  whole_is = ap (run is_digit) front-is ∙ gone
    where
      gone : run is_digit (drop whole s) ≡ point - whole
      gone = omega (arith, ep)

  pub point_is : point ≡ at + point_at l
  point_is = omega (arith, ew, ep, whole_is)

  lead_is : get_or l (sign_size l) 0 ≡ get_or s whole 0
  lead_is = get_or-drop at s (sign_size l) 0 ∙ ap (λ (n : ℕ). get_or s n 0) (sym ew)

  dot-is : get_or l (point_at l) 0 ≡ get_or s point 0
  dot-is = get_or-drop at s (point_at l) 0 ∙ ap (λ (n : ℕ). get_or s n 0) (sym point_is)

  behind-is : drop (point_at l + 1) l ≡ drop (point + 1) s
  behind-is = let q : at + (point_at l + 1) ≡ point + 1 = omega (arith, point_is) in drop-drop (point_at l + 1) at s ∙ ap (λ (n : ℕ). drop n s) q

  there-is : length_there l ≡ judged (point - whole) (get_or s whole 0) (get_or s point 0) (run is_digit (drop (point + 1) s)) (whole - at) (magnitude_of l)
  unfolding length_there
  there-is = let q : sign_size l ≡ whole - at = omega (arith, ew) in
      rw (behind-is, dot-is, lead_is, whole_is, q)

  pub there-none : point ≡ whole → false ≡ length_there l
  there-none h = let z : point - whole ≡ 0 = omega arith in sym (there-is ∙ judged-none (point - whole) (get_or s whole 0) (get_or s point 0) (run is_digit (drop (point + 1) s)) (whole - at) (magnitude_of l) z)

  pub there-needless : (ltb 1 (point - whole) && eqb (get_or s whole 0) 48) ≡ true → false ≡ length_there l
  there-needless h = sym (there-is ∙ judged-needless (point - whole) (get_or s whole 0) (get_or s point 0) (run is_digit (drop (point + 1) s)) (whole - at) (magnitude_of l) h)

  pub there_pointless : (get_or s point 0 ≡ 46 → ⊥) → false ≡ length_there l
  there_pointless h = sym (there-is ∙ judged_pointless (point - whole) (get_or s whole 0) (get_or s point 0) (run is_digit (drop (point + 1) s)) (whole - at) (magnitude_of l) h)

  module _ (end : ℕ) (ee : end ≡ point + 1 + run is_digit (drop (point + 1) s)) where
    pub there-places : (end ≡ point + 4 → ⊥) → false ≡ length_there l
    there-places h = sym (there-is ∙ judged-places (point - whole) (get_or s whole 0) (get_or s point 0) (run is_digit (drop (point + 1) s)) (whole - at) (magnitude_of l) (λ z. h (omega (arith, ee, z))))

    -- all of it but the minus of zero
    module _ (some : point ≡ whole → ⊥) (lean : (ltb 1 (point - whole) && eqb (get_or s whole 0) 48) ≡ false) (dot : get_or s point 0 ≡ 46) (three : end ≡ point + 4) where
      rest-is : length_there l ≡ not (eqb (whole - at) 1 && eqb (magnitude_of l) 0)
      rest-is = let w : 1 ≤ point - whole = omega (arith, ep, some) in let t : run is_digit (drop (point + 1) s) ≡ 3 = omega (arith, ee, three) in
          there-is ∙ judged-rest (point - whole) (get_or s whole 0) (get_or s point 0) (run is_digit (drop (point + 1) s)) (whole - at) (magnitude_of l) w lean dot t

      pub there-plain : whole ≡ at → true ≡ length_there l
      there-plain h = let z : whole - at ≡ 0 = omega arith in sym (rest-is ∙ rw z)

      pub there-minus : (m : ℕ) → (whole ≡ at → ⊥) → m ≡ at_most (magnitude_of l) → not (eqb m 0) ≡ length_there l
      there-minus m h e = let z : whole - at ≡ 1 = omega (arith, ew, h, sign-one l) in
          ap (λ (n : ℕ). not (eqb n 0)) e ∙ ap not (cut-zero (magnitude_of l)) ∙ sym (rest-is ∙ rw z)

  -- the digits read on, cut
  pub magnitude-is : (w m : ℕ) → w ≡ at_most (number_from 0 (slice whole point s)) → m ≡ at_most (number_from w (slice (point + 1) (point + 4) s)) → m ≡ at_most (magnitude_of l)
  unfolding magnitude_of
  magnitude-is w m e f = f
      ∙ ap₂ (λ (x : ℕ) (n : List ℕ). at_most (number_from x n)) (e ∙ ap (λ (n : List ℕ). at_most (number_from 0 n)) before) behind
      ∙ cut_again (take 3 (drop (point_at l + 1) l)) (number_from 0 (take (whole_size l) (drop (sign_size l) l)))
    where
      before : slice whole point s ≡ take (whole_size l) (drop (sign_size l) l)
      before = slice_is s whole point ∙ ap₂ (λ (n : ℕ) (d : List ℕ). take n d) (sym whole_is) (sym front-is)

      behind : slice (point + 1) (point + 4) s ≡ take 3 (drop (point_at l + 1) l)
      behind = let q : point + 4 - (point + 1) ≡ 3 = omega arith in slice_is s (point + 1) (point + 4) ∙ ap₂ (λ (n : ℕ) (d : List ℕ). take n d) q (sym behind-is)

-- ---- a minus
module _ (s : List ℕ) (at : ℕ) where
  pub minus-yes : get_or s at 0 ≡ 45 → (1 ≡ sign_size (drop at s)) × (at + 1 ≤ length s)
  minus-yes h = let k = inside s at 44 h in (sym (rw (eq-eqb (get_or (drop at s) 0 0) 45 (front-byte s at ∙ h))), omega (arith, k))

  pub minus-no : (get_or s at 0 ≡ 45 → ⊥) → at ≤ length s → (0 ≡ sign_size (drop at s)) × (at + 0 ≤ length s)
  minus-no h b = (sym (rw (ne_eqb (get_or (drop at s) 0 0) 45 (λ e. h (sym (front-byte s at) ∙ e)))), omega arith)

  -- a value with its sign, cut
  pub value-minus : get_or s at 0 ≡ 45 → neg_ℤ (pos (at_most (magnitude_of (drop at s)))) ≡ cut (value_of (drop at s))
  unfolding value_of
  value-minus h = sym (rw (eq-eqb (get_or (drop at s) 0 0) 45 (front-byte s at ∙ h)) (cut_neg (magnitude_of (drop at s))))

  pub value-plus : (get_or s at 0 ≡ 45 → ⊥) → pos (at_most (magnitude_of (drop at s))) ≡ cut (value_of (drop at s))
  unfolding value_of cut
  value-plus h = sym (rw (ne_eqb (get_or (drop at s) 0 0) 45 (λ e. h (sym (front-byte s at) ∙ e))))

-- ---- how wide a word is
module _ (s : List ℕ) (at : ℕ) (h : at ≤ length s) where
  pub name-long : (end : ℕ) → end ≡ at + run is_name_byte (drop at s) → max_name < end - at → (at ≡ at + name_width (drop at s)) × (at ≤ length s)
  unfolding name_width
  name-long end e l = (sym (rw (lt-leb (run is_name_byte (drop at s)) max_name (omega arith)) (omega arith)), h)

  pub name-short : (end : ℕ) → end ≡ at + run is_name_byte (drop at s) → end ≤ length s → end - at ≤ max_name → (end ≡ at + name_width (drop at s)) × (end ≤ length s)
  unfolding name_width
  name-short end e b l = (sym (rw (le-leb (run is_name_byte (drop at s)) max_name (omega arith)) (sym e)), b)

-- ---- a length, by where it ends
-- how wide it is, by whether it stands there
module _ (l : List ℕ) where
  width_of : length_there l ≡ true → length_width l ≡ point_at l + 4
  unfolding length_width length_size
  width_of t = rw t

  width_none : length_there l ≡ false → length_width l ≡ 0
  unfolding length_width
  width_none t = rw t

  width_there : (length_width l ≡ 0 → ⊥) → length_there l ≡ true
  width_there n = go (length_there l) refl
    where
      go : (b : Bool) → length_there l ≡ b → length_there l ≡ true
      go true e = e
      go false e = absurd (n (width_none e))

  width_gone : length_width l ≡ 0 → length_there l ≡ false
  width_gone z = go (length_there l) refl
    where
      go : (b : Bool) → length_there l ≡ b → length_there l ≡ false
      go true e = absurd (omega (arith, width_of e, z))
      go false e = e

module _ (s : List ℕ) (at : ℕ) where
  pub length_none : at ≤ length s → false ≡ length_there (drop at s) → (at ≡ at + length_width (drop at s)) × (at ≤ length s)
  length_none h n = (omega (arith, width_none (drop at s) (sym n)), h)

  pub length_some : true ≡ length_there (drop at s) → (point end : ℕ) → point ≡ at + point_at (drop at s) → end ≡ point + 4 → end ≤ length s → (end ≡ at + length_width (drop at s)) × (end ≤ length s)
  length_some t point end ep e b = (omega (arith, e, ep, width_of (drop at s) (sym t)), b)

  -- a minus, by how far the digits are from the place
  pub signed : (whole : ℕ) → whole ≡ at + sign_size (drop at s) → (whole ≡ at → ⊥) → get_or s at 0 ≡ 45
  signed whole e n = by_cases (ℕ_discrete (get_or s at 0) 45) (λ h. h) (λ h. absurd (n (omega (arith, e, unsigned h))))
    where
      unsigned : (get_or s at 0 ≡ 45 → ⊥) → sign_size (drop at s) ≡ 0
      unsigned h = rw (ne_eqb (get_or (drop at s) 0 0) 45 (λ q. h (sym (front-byte s at) ∙ q)))

  pub no_sign : (whole : ℕ) → whole ≡ at + sign_size (drop at s) → whole ≡ at → get_or s at 0 ≡ 45 → ⊥
  no_sign whole e z h = omega (arith, e, z, (minus-yes s at h).0)

-- ---- and a colon before it
module _ (s : List ℕ) (at : ℕ) (h : at ≤ length s) where
  pub edge-bare : (get_or s at 0 ≡ 58 → ⊥) → (at ≡ at + edge_width (drop at s)) × (at ≤ length s)
  unfolding edge_width
  edge-bare b = (sym (rw (ne_eqb (get_or (drop at s) 0 0) 58 (λ e. b (sym (front-byte s at) ∙ e))) (omega arith)), h)

  module _ (b : get_or s at 0 ≡ 58) (end : ℕ) (e : end ≡ at + 1 + length_width (drop (at + 1) s)) where
    pub edge-short : end ≡ at + 1 → (at ≡ at + edge_width (drop at s)) × (at ≤ length s)
    unfolding edge_width
    edge-short z = let t = width_gone (drop (at + 1) s) (omega (arith, z, e)) in
        (sym (rw (drop-drop 1 at s, t, eq-eqb (get_or (drop at s) 0 0) 58 (front-byte s at ∙ b)) (omega arith)), h)

    pub edge-stands : (end ≡ at + 1 → ⊥) → end ≡ at + edge_width (drop at s)
    unfolding edge_width length_size
    edge-stands n = let t = width_there (drop (at + 1) s) (λ z. n (omega (arith, z, e))) in
        sym (rw (drop-drop 1 at s, t, eq-eqb (get_or (drop at s) 0 0) 58 (front-byte s at ∙ b)) (omega (arith, e, width_of (drop (at + 1) s) t)))
