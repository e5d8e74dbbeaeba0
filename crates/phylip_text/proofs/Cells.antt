-- A cell that was written is read back: one space, two bytes or six, and its entry, whatever follows that is no digit.
use mathlib.Core.Path.{◌≡◌, refl, sym, ◌∙◌, ap, ap₂}
use mathlib.Core.Bool.{Bool, true, false, cond, ◌&&◌}
use mathlib.Core.List.{List, [], ◌∷◌, ◌++◌}
use Prim.Native.Nat.{ℕ, suc, ◌+◌, ◌-◌, ◌*◌, ◌/◌, ◌%◌, ◌≤◌, ◌<◌}
use native.Mathlib.Decide.{ℕ_discrete}
use native.Mathlib.Omega.{arith}
use borrow.Author.Tests.{le-leb, le-ltb, ne_eqb}
use lib.Dec.{eqb}
use lib.ListN.{get_or, drop}
use Rattle.exact.proofs.Decide.{by_cases}
use Rattle.matrix.specs.Limits.{max_distance, missing}
use Rattle.matrix.specs.Place.{known}
use Rattle.digits.specs.Digits.{run, is_digit, digit_of, number_from}
use Rattle.digits.proofs.Reading.{is-digit-of}
use Rattle.cells.specs.Cell.{in_gap, gap, whole, places, is_missing, decimal_size, cell_size, units_of, units_out, decimal_out, cell_out, cell_entry}
use Rattle.cells.specs.Row.{front, behind}
use Rattle.phylip_text.specs.Text.{cell_written}

-- ---- digits that were written
pub digit-yes : (v : ℕ) → v < 10 → is_digit (48 + v) ≡ true
digit-yes v h = ap₂ (λ (a b : Bool). a && b) (le-leb 48 (48 + v) (omega arith)) (le-leb (48 + v) 57 (omega arith))

digit_value : (v : ℕ) → v < 10 → digit_of (48 + v) ≡ v
digit_value v h = let q : 48 + v - 48 ≡ v = omega arith in sym (is-digit-of (48 + v) (digit-yes v h)) ∙ q

pub run-digit : (v : ℕ) (l : List ℕ) → v < 10 → run is_digit ((48 + v) ∷ l) ≡ suc (run is_digit l)
unfolding run
run-digit v l h = ap (λ (q : Bool). cond q (suc (run is_digit l)) 0) (digit-yes v h)

-- no digit follows
abbrev pub Stops : List ℕ → Type 0
Stops l = is_digit (get_or l 0 0) ≡ false

pub run-stops : (l : List ℕ) → Stops l → run is_digit l ≡ 0
unfolding run
run-stops [] h = refl
run-stops (x ∷ xs) h = ap (λ (q : Bool). cond q (suc (run is_digit xs)) 0) h

pub number-digit : (n v : ℕ) (l : List ℕ) → v < 10 → number_from n ((48 + v) ∷ l) ≡ number_from (n * 10 + v) l
unfolding number_from
number-digit n v l h = ap (λ (x : ℕ). number_from (n * 10 + x) l) (digit_value v h)

pub number-none : (n : ℕ) → number_from n [] ≡ n
unfolding number_from
number-none n = refl

-- ---- a cell read: e, with k behind it
pub record CellIs (e : ℕ) (l k : List ℕ) : Type 0 where
  pub gap_is : gap l ≡ 1
  pub there : eqb (cell_size (front l)) 0 ≡ false
  pub behind-is : behind l ≡ k
  pub in_range : cell_out (front l) ≡ false
  pub entry-is : cell_entry (front l) ≡ e

no_gap : (v y : ℕ) → in_gap (48 + v) y ≡ false
no_gap v y = simp (ne_eqb (48 + v) 32 (λ e. omega arith), ne_eqb (48 + v) 9 (λ e. omega arith), ne_eqb (48 + v) 10 (λ e. omega arith), ne_eqb (48 + v) 13 (λ e. omega arith))

-- the decimal of five digits
module _ (a b c d f : ℕ) (ha : a < 10) (hb : b < 10) (hc : c < 10) (hd : d < 10) (hf : f < 10) (k : List ℕ) (stop : Stops k) where
  abbrev l : List ℕ
  l = (48 + a) ∷ 46 ∷ (48 + b) ∷ (48 + c) ∷ (48 + d) ∷ (48 + f) ∷ k

  gap-one : gap (32 ∷ l) ≡ 1
  unfolding gap
  gap-one = ap (λ (q : Bool). suc (cond q (suc (gap (46 ∷ (48 + b) ∷ (48 + c) ∷ (48 + d) ∷ (48 + f) ∷ k))) 0)) (no_gap a 46)

  measured : is_missing l ≡ false
  measured = ap (λ (q : Bool). q && eqb 46 49) (ne_eqb (48 + a) 45 (λ e. omega arith))

  dot : (m : List ℕ) → run is_digit (46 ∷ m) ≡ 0
  unfolding run
  dot m = refl

  whole-one : whole l ≡ 1
  whole-one = run-digit a (46 ∷ (48 + b) ∷ (48 + c) ∷ (48 + d) ∷ (48 + f) ∷ k) ha ∙ ap suc (dot ((48 + b) ∷ (48 + c) ∷ (48 + d) ∷ (48 + f) ∷ k))

  part-four : run is_digit ((48 + b) ∷ (48 + c) ∷ (48 + d) ∷ (48 + f) ∷ k) ≡ 4
  part-four = simp (run-digit b ((48 + c) ∷ (48 + d) ∷ (48 + f) ∷ k) hb, run-digit c ((48 + d) ∷ (48 + f) ∷ k) hc, run-digit d ((48 + f) ∷ k) hd, run-digit f k hf, run-stops k stop)

  size-six : decimal_size l ≡ 6
  size-six = rw (whole-one, part-four)

  places-four : places l ≡ 4
  places-four = rw (whole-one, part-four)

  four-more : (n : ℕ) → number_from n ((48 + b) ∷ (48 + c) ∷ (48 + d) ∷ (48 + f) ∷ []) ≡ (((n * 10 + b) * 10 + c) * 10 + d) * 10 + f
  four-more n = number-digit n b ((48 + c) ∷ (48 + d) ∷ (48 + f) ∷ []) hb
      ∙ number-digit (n * 10 + b) c ((48 + d) ∷ (48 + f) ∷ []) hc
      ∙ number-digit ((n * 10 + b) * 10 + c) d ((48 + f) ∷ []) hd
      ∙ number-digit (((n * 10 + b) * 10 + c) * 10 + d) f [] hf
      ∙ number-none ((((n * 10 + b) * 10 + c) * 10 + d) * 10 + f)

  units_are : units_of l ≡ a * 10000 + b * 1000 + c * 100 + d * 10 + f
  units_are = rw (whole-one, part-four) (simp (number-digit 0 a [] ha, number-none) (four-more (0 + a) ∙ omega arith))

  at_cell : front (32 ∷ l) ≡ l
  at_cell = ap (λ (n : ℕ). drop n (32 ∷ l)) gap-one

  size_is : cell_size (front (32 ∷ l)) ≡ 6
  unfolding cell_size
  size_is = ap cell_size at_cell ∙ ap (λ (q : Bool). cond q 2 (decimal_size l)) measured ∙ size-six

  module _ (e : ℕ) (h : e ≡ a * 10000 + b * 1000 + c * 100 + d * 10 + f) (near : e ≤ max_distance) where
    in_range-is : decimal_out l ≡ false
    in_range-is = ap₂ units_out places-four (units_are ∙ sym h) ∙ le-ltb max_distance e near

    pub decimal-is : CellIs e (32 ∷ l) k
    unfolding cell_out cell_entry
    decimal-is = record {
      gap_is = gap-one;
      there = ap (λ (n : ℕ). eqb n 0) size_is;
      behind-is = ap₂ (λ (n : ℕ) (m : List ℕ). drop n m) size_is at_cell;
      in_range = ap cell_out at_cell ∙ ap (λ (q : Bool). cond q false (decimal_out l)) measured ∙ in_range-is;
      entry-is = ap cell_entry at_cell
          ∙ ap (λ (q : Bool). cond q missing (cond (decimal_out l) 0 (units_of l))) measured
          ∙ ap (λ (q : Bool). cond q 0 (units_of l)) in_range-is
          ∙ (units_are ∙ sym h);
    }

-- the mark of a missing pair
missing-is : (k : List ℕ) → CellIs missing (32 ∷ 45 ∷ 49 ∷ k) k
unfolding gap cell_size cell_out cell_entry
missing-is k = record { gap_is = refl; there = refl; behind-is = refl; in_range = refl; entry-is = refl }

-- a number by its last four digits
by_digits : (e : ℕ) → e ≡ e / 10000 * 10000 + e / 1000 % 10 * 1000 + e / 100 % 10 * 100 + e / 10 % 10 * 10 + e % 10
by_digits e =
    let h : e / 1000 / 10 ≡ e / 10000 = omega arith in
    let i : e / 100 / 10 ≡ e / 1000 = omega arith in
    let j : e / 10 / 10 ≡ e / 100 = omega arith in
    omega arith

-- any cell that was written
pub cell_is : (e : ℕ) (k : List ℕ) → known e ≤ max_distance → Stops k → CellIs e (cell_written e ++ k) k
unfolding known cell_written
cell_is e k near stop = by_cases (ℕ_discrete e missing)
    (λ h. rw h (missing-is k))
    (λ h. let q : eqb e missing ≡ false = ne_eqb e missing h in
    let n : e ≤ max_distance = rw q at near in
    rw q (decimal-is (e / 10000) (e / 1000 % 10) (e / 100 % 10) (e / 10 % 10) (e % 10) (omega arith) (omega arith) (omega arith) (omega arith) (omega arith) k stop e (by_digits e) n))
