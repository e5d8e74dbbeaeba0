-- What stands at the front of a text, by positions: a gap one byte at a time, and a decimal from where its digits end.
use mathlib.Core.Path.{◌≡◌, refl, sym, ◌∙◌, ap}
use mathlib.Core.Bool.{Bool, true, false, cond, ◌&&◌}
use mathlib.Core.List.{List}
use mathlib.Core.Logic.{◌≢◌}
use Prim.Native.Nat.{ℕ, suc, ◌+◌, ◌-◌, ◌≤◌, ◌<◌}
use native.Mathlib.Numerals.{add-one}
use native.Mathlib.Omega.{arith}
use borrow.Author.Tests.{eq-eqb, ne_eqb}
use lib.Dec.{eqb}
use lib.ListN.{length, get_or, drop, drop_of_length-le}
use lib.Seq.{drop-cons, get_or-drop, drop-drop}
use Rattle.digits.specs.Digits.{run, is_digit}
use Rattle.cells.specs.Cell.{in_gap, gap, whole, pointed, part, is_missing, decimal_size}

-- ---- a gap
pub record GapAt (s : List ℕ) (at end : ℕ) : Type 0 where
  pub within : end ≤ length s
  pub rest : end + gap (drop end s) ≡ at + gap (drop at s)

-- the byte behind, whether there is one or not
get_or_suc : (s : List ℕ) (k : ℕ) → get_or (drop (suc k) s) 0 0 ≡ get_or s (k + 1) 0
get_or_suc s k = get_or-drop (suc k) s 0 0 ∙ ap (λ (n : ℕ). get_or s n 0) (omega arith)

module _ (s : List ℕ) (at : ℕ) where
  pub gap-start : at ≤ length s → GapAt s at at
  gap-start h = record { within = h; rest = refl }

  first : (k : ℕ) (b : Bool) → k < length s → in_gap (get_or s k 0) (get_or s (k + 1) 0) ≡ b → gap (drop k s) ≡ cond b (suc (gap (drop (suc k) s))) 0
  unfolding gap
  first k b h e = ap gap (drop-cons s k 0 h) ∙ ap (λ (q : Bool). cond q (suc (gap (drop (suc k) s))) 0) (ap (in_gap (get_or s k 0)) (get_or_suc s k) ∙ e)

  pub gap_more : (end : ℕ) → end < length s → in_gap (get_or s end 0) (get_or s (end + 1) 0) ≡ true → GapAt s at end → GapAt s at (end + 1)
  gap_more end h e t = rw add-one (record { within = h; rest = omega (arith, first end true h e, t.rest) })

  pub gap-stop : (end : ℕ) → end < length s → in_gap (get_or s end 0) (get_or s (end + 1) 0) ≡ false → GapAt s at end → (end ≡ at + gap (drop at s)) × (end ≤ length s)
  gap-stop end h e t = (omega (arith, first end false h e, t.rest), t.within)

  pub gap-done : (end : ℕ) → length s ≤ end → GapAt s at end → (end ≡ at + gap (drop at s)) × (end ≤ length s)
  unfolding gap
  gap-done end h t = (let z : gap (drop end s) ≡ 0 = ap gap (drop_of_length-le s h) in omega (arith, z, t.rest), t.within)

-- ---- a decimal
module _ (s : List ℕ) (at : ℕ) where
  abbrev l : List ℕ
  l = drop at s

  at_front : (k : ℕ) → get_or l k 0 ≡ get_or s (at + k) 0
  at_front k = get_or-drop at s k 0

  pub missing-no : get_or s at 0 ≢ 45 → false ≡ is_missing l
  missing-no h = sym (ap (λ (q : Bool). q && eqb (get_or l 1 0) 49) (ne_eqb (get_or l 0 0) 45 (λ e. h (ap (λ (n : ℕ). get_or s n 0) (omega arith) ∙ sym (at_front 0) ∙ e))))

  pub missing-is : get_or s at 0 ≡ 45 → eqb (get_or s (at + 1) 0) 49 ≡ is_missing l
  missing-is e = ap (λ (x : ℕ). eqb x 49) (sym (at_front 1)) ∙ sym (ap (λ (q : Bool). q && eqb (get_or l 1 0) 49) (eq-eqb (get_or l 0 0) 45 (at_front 0 ∙ ap (λ (n : ℕ). get_or s n 0) (omega arith) ∙ e)))

  module _ (point : ℕ) (e : point ≡ at + run is_digit l) where
    whole_is : whole l ≡ point - at
    whole_is = omega (arith, e)

    pub no-digits : point ≡ at → 0 ≡ decimal_size l
    no-digits h = rw (eq-eqb (whole l) 0 (omega (arith, e)))

    module _ (some : point ≢ at) where
      some-digits : eqb (whole l) 0 ≡ false
      some-digits = ne_eqb (whole l) 0 (λ z. some (omega (arith, e, z)))

      there : get_or l (whole l) 0 ≡ get_or s point 0
      there = at_front (whole l) ∙ ap (λ (n : ℕ). get_or s n 0) (sym e)

      pub no_point : get_or s point 0 ≢ 46 → point - at ≡ decimal_size l
      no_point h = sym (whole_is) ∙ sym (rw (some-digits, ne_eqb (get_or l (whole l) 0) 46 (λ z. h (sym there ∙ z))))

      module _ (dot : get_or s point 0 ≡ 46) (end : ℕ) (f : end ≡ point + 1 + run is_digit (drop (point + 1) s)) where
        part-is : part l ≡ end - (point + 1)
        part-is = let q : at + (whole l + 1) ≡ point + 1 = omega (arith, e) in let r : run is_digit (drop (point + 1) s) ≡ end - (point + 1) = omega (arith, f) in
            ap (run is_digit) (drop-drop (whole l + 1) at s ∙ ap (λ (n : ℕ). drop n s) q) ∙ r

        with_point : pointed l ≡ true
        with_point = eq-eqb (get_or l (whole l) 0) 46 (there ∙ dot)

        pub no_part : end ≡ point + 1 → 0 ≡ decimal_size l
        no_part h = sym (rw (some-digits, with_point, eq-eqb (part l) 0 (part-is ∙ omega (arith, h))))

        pub both-parts : end ≢ point + 1 → end - at ≡ decimal_size l
        both-parts h = let q : end - at ≡ whole l + 1 + part l = omega (arith, e, f, part-is) in q ∙ sym (rw (some-digits, with_point, ne_eqb (part l) 0 (λ z. h (omega (arith, f, part-is, z)))))
