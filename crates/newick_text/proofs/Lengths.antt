-- A length is known by its own bytes: whatever follows it that is no digit, the same length is read (`length-then`), and what is read at
-- the front of a text is a length (`length_front`).
use mathlib.Core.Path.{◌≡◌, sym, ◌∙◌, ap, ap₂}
use mathlib.Core.Bool.{Bool, true, false, cond, not, ◌&&◌}
use mathlib.Core.List.{List, ◌++◌}
use Prim.Native.Nat.{ℕ, ◌+◌, ◌≤◌, ◌<◌}
use native.Mathlib.Omega.{arith}
use borrow.Author.Tests.{eq-eqb, eqb-true, leb-true}
use lib.Dec.{eqb, leb}
use lib.ListN.{length, get_or, take, drop, length-drop, get_or-append, take-append-drop}
use lib.Seq.{drop-append-le, take-append-le, length-take-le, drop-drop}
use Rattle.digits.specs.Digits.{run, is_digit, number_from}
use Rattle.digits.proofs.Reading.{both_true}
use Rattle.newick_text.specs.Length.{sign_size, whole_size, point_at, needless, magnitude_of, length_size, length_there, is_length, value_of}
use Rattle.newick_text.proofs.Runs.{run-append, run-within, run-behind}

pub sign-one : (l : List ℕ) → sign_size l ≤ 1
sign-one l = go (eqb (get_or l 0 0) 45)
  where
    go : (b : Bool) → cond b 1 0 ≤ 1
    go true = omega arith
    go false = omega arith

-- ---- l with k behind it, where no digit begins k
module _ (l k : List ℕ) (stop : run is_digit k ≡ 0) (some : 0 < length l) where
  sign_same : sign_size (l ++ k) ≡ sign_size l
  sign_same = ap (λ (x : ℕ). cond (eqb x 45) 1 0) (get_or-append l k 0 0 some)

  whole_same : whole_size (l ++ k) ≡ whole_size l
  whole_same = ap (λ (n : ℕ). run is_digit (drop n (l ++ k))) sign_same
      ∙ ap (run is_digit) (drop-append-le (sign_size l) l k (omega (arith, sign-one l)))
      ∙ run-append is_digit (drop (sign_size l) l) k stop

  pub point_same : point_at (l ++ k) ≡ point_at l
  point_same = ap₂ (λ (a b : ℕ). a + b) sign_same whole_same

  -- and l is long enough for three places
  module _ (long : point_at l + 4 ≤ length l) where
    lead-same : get_or (l ++ k) (sign_size (l ++ k)) 0 ≡ get_or l (sign_size l) 0
    lead-same = ap (λ (n : ℕ). get_or (l ++ k) n 0) sign_same ∙ get_or-append l k 0 (sign_size l) (omega arith)

    dot-same : get_or (l ++ k) (point_at (l ++ k)) 0 ≡ get_or l (point_at l) 0
    dot-same = ap (λ (n : ℕ). get_or (l ++ k) n 0) point_same ∙ get_or-append l k 0 (point_at l) (omega arith)

    behind-same : drop (point_at (l ++ k) + 1) (l ++ k) ≡ drop (point_at l + 1) l ++ k
    behind-same = ap (λ (n : ℕ). drop (n + 1) (l ++ k)) point_same ∙ drop-append-le (point_at l + 1) l k (omega arith)

    part_same : run is_digit (drop (point_at (l ++ k) + 1) (l ++ k)) ≡ run is_digit (drop (point_at l + 1) l)
    part_same = ap (run is_digit) behind-same ∙ run-append is_digit (drop (point_at l + 1) l) k stop

    whole-digits : take (whole_size (l ++ k)) (drop (sign_size (l ++ k)) (l ++ k)) ≡ take (whole_size l) (drop (sign_size l) l)
    whole-digits = ap₂ (λ (w s : ℕ). take w (drop s (l ++ k))) whole_same sign_same
        ∙ ap (take (whole_size l)) (drop-append-le (sign_size l) l k (omega arith))
        ∙ take-append-le (whole_size l) (drop (sign_size l) l) k (omega (arith, length-drop (sign_size l) l))

    part-digits : take 3 (drop (point_at (l ++ k) + 1) (l ++ k)) ≡ take 3 (drop (point_at l + 1) l)
    part-digits = ap (take 3) behind-same ∙ take-append-le 3 (drop (point_at l + 1) l) k (omega (arith, length-drop (point_at l + 1) l))

    pub magnitude-same : magnitude_of (l ++ k) ≡ magnitude_of l
    unfolding magnitude_of
    magnitude-same = ap₂ (λ (a b : List ℕ). number_from (number_from 0 a) b) whole-digits part-digits

    pub value_same : value_of (l ++ k) ≡ value_of l
    unfolding value_of
    value_same = rw (magnitude-same, get_or-append l k 0 0 some)

    pub there-same : length_there (l ++ k) ≡ length_there l
    unfolding length_there
    there-same = rw (magnitude-same, part_same, dot-same, lead-same, whole_same, sign_same)

-- what the test of a length tells
pub record Told (l : List ℕ) : Type 0 where
  pub whole : 1 ≤ whole_size l
  pub dot : get_or l (point_at l) 0 ≡ 46
  pub part : run is_digit (drop (point_at l + 1) l) ≡ 3
  pub long : point_at l + 4 ≤ length l

pub told : (l : List ℕ) → length_there l ≡ true → Told l
unfolding length_there
told l h =
    let a = both_true (leb 1 (whole_size l)) _ h in
    let b = both_true (not (needless l)) _ a.1 in
    let c = both_true (eqb (get_or l (point_at l) 0) 46) _ b.1 in
    let d = both_true (eqb (run is_digit (drop (point_at l + 1) l)) 3) _ c.1 in
    let p : run is_digit (drop (point_at l + 1) l) ≡ 3 = eqb-true _ 3 d.0 in
    record {
      whole = leb-true 1 (whole_size l) a.0;
      dot = eqb-true (get_or l (point_at l) 0) 46 c.0;
      part = p;
      long = omega (arith, p, run-within is_digit (drop (point_at l + 1) l), length-drop (point_at l + 1) l);
    }

-- ---- a length, whatever follows
pub record Read (l k : List ℕ) : Type 0 where
  pub there : length_there (l ++ k) ≡ true
  pub size : length_size (l ++ k) ≡ length l
  pub magnitude : magnitude_of (l ++ k) ≡ magnitude_of l
  pub value : value_of (l ++ k) ≡ value_of l

pub length-then : (l k : List ℕ) → is_length l ≡ true → run is_digit k ≡ 0 → Read l k
unfolding is_length length_size
length-then l k h stop =
    let p = both_true (length_there l) (eqb (length l) (length_size l)) h in
    let n : length l ≡ point_at l + 4 = eqb-true _ _ p.1 in
    let s : 0 < length l = omega arith in
    let f : point_at l + 4 ≤ length l = omega arith in
    record {
      there = there-same l k stop s f ∙ p.0;
      size = ap (λ (x : ℕ). x + 4) (point_same l k stop s) ∙ sym n;
      magnitude = magnitude-same l k stop s f;
      value = value_same l k stop s f;
    }

-- two lengths with something behind them are read in one way
pub same_length : (l m k j : List ℕ) → is_length l ≡ true → is_length m ≡ true → run is_digit k ≡ 0 → run is_digit j ≡ 0 → l ++ k ≡ m ++ j → length l ≡ length m
same_length l m k j h i p q e = sym (length-then l k h p).size ∙ ap length_size e ∙ (length-then m j i q).size

-- ---- what is read at the front is a length
pub record Front (s : List ℕ) : Type 0 where
  pub within : length_size s ≤ length s
  pub word : is_length (take (length_size s) s) ≡ true
  pub stop : run is_digit (drop (length_size s) s) ≡ 0
  pub value : value_of (take (length_size s) s) ≡ value_of s

pub length_front : (s : List ℕ) → length_there s ≡ true → Front s
unfolding is_length length_size
length_front s h =
    let t = told s h in
    let n = length_size s in
    let l = take n s in
    let k = drop n s in
    let e : l ++ k ≡ s = take-append-drop n s in
    let z : length l ≡ n = length-take-le n s t.long in
    let q : point_at s + 4 ≡ point_at s + 1 + 3 = omega arith in
    let stop : run is_digit k ≡ 0 =
    ap (λ (x : ℕ). run is_digit (drop x s)) q
    ∙ sym (ap (run is_digit) (drop-drop 3 (point_at s + 1) s))
    ∙ sym (ap (λ (x : ℕ). run is_digit (drop x (drop (point_at s + 1) s))) t.part)
    ∙ run-behind is_digit (drop (point_at s + 1) s) in
    let some : 0 < length l = omega arith in
    let p : point_at l ≡ point_at s = sym (point_same l k stop some) ∙ ap (λ (x : List ℕ). point_at x) e in
    let long : point_at l + 4 ≤ length l = omega (arith, p, z) in
    let there : length_there l ≡ true = sym (there-same l k stop some long) ∙ ap length_there e ∙ h in
    record {
      within = t.long;
      word = ap₂ (λ (a b : Bool). a && b) there (eq-eqb (length l) (point_at l + 4) (omega (arith, p, z)));
      stop = stop;
      value = sym (value_same l k stop some long) ∙ ap value_of e;
    }
