-- A line's end and the count, by positions: what stands at a place is the front of the text that is left there.
use mathlib.Core.Path.{◌≡◌, refl, sym, ◌∙◌, ap, ap₂}
use mathlib.Core.Bool.{Bool, true, false, cond, not, ◌&&◌}
use mathlib.Core.List.{List}
use Prim.Native.Nat.{ℕ, ◌+◌, ◌-◌, ◌≤◌}
use native.Mathlib.Decide.{ℕ_discrete}
use native.Mathlib.Omega.{arith}
use borrow.Author.Tests.{eq-eqb, ne_eqb, eqb-true}
use lib.Dec.{eqb}
use lib.ListN.{length, get_or, take, drop, length-drop}
use lib.Seq.{slice, get_or-drop, drop-drop}
use Rattle.exact.proofs.Decide.{by_cases}
use Rattle.digits.specs.Digits.{run, is_blank, is_digit, at_most, number_from}
use Rattle.digits.proofs.Reading.{both_true, inside, slice_is}
use Rattle.phylip_text.specs.Form.{past, line_end_size, line_end, end_bad, next_line, count_size, count_of, behind_count}
use Rattle.std.specs.Prelude.{Result, Ok, Err, is_err}
use Rattle.phylip_lines.specs.declared.Count.{Count}
use Rattle.phylip_lines.specs.Lines.{end_place, EndRead, count_place, CountRead}

-- a line end is in the text
ends-within : (s : List ℕ) (k : ℕ) → k ≤ length s → k + line_end_size (get_or s k 0) (get_or s (k + 1) 0) ≤ length s
ends-within s k h = by_cases (ℕ_discrete (get_or s k 0) 10)
    (λ e. let q = inside s k 9 e in rw (eq-eqb (get_or s k 0) 10 e) (omega (arith, q)))
    (λ n. rw (ne_eqb (get_or s k 0) 10 n) (go (eqb (get_or s k 0) 13 && eqb (get_or s (k + 1) 0) 10) refl))
  where
    go : (b : Bool) → (eqb (get_or s k 0) 13 && eqb (get_or s (k + 1) 0) 10) ≡ b → k + cond b 2 0 ≤ length s
    go true e = let q = inside s (k + 1) 9 (eqb-true (get_or s (k + 1) 0) 10 (both_true (eqb (get_or s k 0) 13) (eqb (get_or s (k + 1) 0) 10) e).1) in omega (arith, q)
    go false e = omega arith

module _ (s : List ℕ) (at end : ℕ) (e : end ≡ at + run is_blank (drop at s)) (h : end ≤ length s) where
  past_is : past (drop at s) ≡ drop end s
  past_is = drop-drop (run is_blank (drop at s)) at s ∙ ap (λ (k : ℕ). drop k s) (sym e)

  size_is : line_end (past (drop at s)) ≡ line_end_size (get_or s end 0) (get_or s (end + 1) 0)
  size_is = ap line_end past_is ∙ ap₂ line_end_size (get_or-drop end s 0 0 ∙ ap (λ (k : ℕ). get_or s k 0) (omega arith)) (get_or-drop end s 1 0)

  over-is : eqb end (length s) ≡ eqb (length (past (drop at s))) 0
  over-is = by_cases (ℕ_discrete end (length s))
      (λ q. eq-eqb end (length s) q ∙ sym (eq-eqb (length (past (drop at s))) 0 (left ∙ omega arith)))
      (λ q. ne_eqb end (length s) q ∙ sym (ne_eqb (length (past (drop at s))) 0 (λ z. q (omega (arith, left, z)))))
    where
      left : length (past (drop at s)) ≡ length s - end
      left = ap length past_is ∙ length-drop end s

  module _ (x y size : ℕ) (ex : x ≡ get_or s end 0) (ey : y ≡ get_or s (end + 1) 0) (es : size ≡ line_end_size x y) where
    as_text : size ≡ line_end_size (get_or s end 0) (get_or s (end + 1) 0)
    as_text = es ∙ ap₂ line_end_size ex ey

    -- what ends the line is in the text
    pub end-within : end + size ≤ length s
    end-within = rw as_text (ends-within s end h)

    bad-of : (bad : Bool) → bad ≡ (not (eqb end (length s)) && eqb size 0) → bad ≡ end_bad (drop at s)
    unfolding end_bad
    bad-of bad eb = eb ∙ ap₂ (λ (p : Bool) (n : ℕ). not p && eqb n 0) over-is (as_text ∙ sym size_is)

    next-of : drop (end + size) s ≡ next_line (drop at s)
    unfolding next_line
    next-of = sym (drop-drop size end s) ∙ ap₂ (λ (n : ℕ) (l : List ℕ). drop n l) (as_text ∙ sym size_is) (sym past_is)

    -- an end, or none: the place is the same sum
    pub end_read : (bad : Bool) → bad ≡ (not (eqb end (length s)) && eqb size 0) → (r : Result ℕ ℕ) → is_err r ≡ bad → end_place r ≡ end + size → EndRead s at r
    end_read bad eb r e p = record {
      bad-is = e ∙ bad-of bad eb;
      within = rw p end-within;
      next-is = ap (λ (k : ℕ). drop k s) p ∙ next-of;
    }

module _ (s : List ℕ) (start end : ℕ) (e : start ≡ 0 + run is_blank (drop 0 s)) (f : end ≡ start + run is_digit (drop start s)) (h : end ≤ length s) where
  begins : past s ≡ drop start s
  begins = let q : run is_blank s ≡ start = omega (arith, e) in ap (λ (k : ℕ). drop k s) q

  digits_are : count_size s ≡ end - start
  unfolding count_size
  digits_are = let q : run is_digit (drop start s) ≡ end - start = omega (arith, f) in ap (run is_digit) begins ∙ q

  none_is : eqb start end ≡ eqb (count_size s) 0
  none_is = by_cases (ℕ_discrete start end)
      (λ q. eq-eqb start end q ∙ sym (eq-eqb (count_size s) 0 (omega (arith, digits_are))))
      (λ q. ne_eqb start end q ∙ sym (ne_eqb (count_size s) 0 (λ z. q (omega (arith, digits_are, f, z)))))

  behind-of : drop end s ≡ behind_count s
  unfolding behind_count
  behind-of = let q : end ≡ start + count_size s = omega (arith, digits_are, f) in ap (λ (k : ℕ). drop k s) q ∙ sym (drop-drop (count_size s) start s) ∙ ap (drop (count_size s)) (sym begins)

  pub no_count : start ≡ end → CountRead s (Err end)
  no_count q = record { none_is = sym (eq-eqb start end q) ∙ none_is; strains_are = tt; within = h; behind-is = behind-of }

  pub count-read : (n : ℕ) → (start ≡ end → ⊥) → n ≡ at_most (number_from 0 (slice start end s)) → CountRead s (Ok (record { strains = n; end = end }))
  unfolding count_of
  count-read n d es = record {
    none_is = sym (ne_eqb start end d) ∙ none_is;
    strains_are = es ∙ ap (λ (l : List ℕ). at_most (number_from 0 l)) (slice_is s start end ∙ ap₂ (λ (k : ℕ) (l : List ℕ). take k l) (sym digits_are) (sym begins));
    within = h;
    behind-is = behind-of;
  }
