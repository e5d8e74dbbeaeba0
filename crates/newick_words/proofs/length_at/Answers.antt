-- All digits of it, cut, and its sign.
use mathlib.Core.Path.{◌≡◌, ◌∙◌, ap}
use mathlib.Core.List.{List}
use Prim.Native.Nat.{ℕ, ◌+◌, ◌≤◌}
use native.Mathlib.Omega.{arith}
use lib.IntN.{ℤ, pos, neg_ℤ, ◌-ℤ◌, +ℤ_idl}
use lib.ListN.{length, drop, length-drop}
use mir.Syntax.{w64}
use mir.Val.{SFits, to_z, of_z}
use mir.Facts.{to_z-of_z}
use Rattle.exact.proofs.Sign.{fits_abs, back-pos, nat_abs_sub}
use Rattle.digits.specs.Digits.{run, is_digit, at_most}
use Rattle.digits.proofs.Reading.{cut_most}
use Rattle.newick_text.specs.Length.{sign_size, magnitude_of, length_size}
use Rattle.newick_text.proofs.Lengths.{told}
use Rattle.newick_words.proofs.Words.{point_is, magnitude-is, value-minus, value-plus, signed, no_sign}
use Rattle.newick_words.proofs.length_at.Goals as goal
use Rattle.newick_words.proofs.length_at.Goals.{After-digits_at-digits, After-number-all, Start}

-- a cut number, and it taken from 0, as an i64
module _ (m x : ℕ) (e : x ≡ at_most m) where
  number : to_z w64 x ≡ pos x
  number = back-pos x (omega (arith, e, cut_most m))

  negative : SFits w64 (pos 0 -ℤ to_z w64 x)
  negative = rw number (fits_abs (pos 0 -ℤ pos x) (omega (arith, nat_abs_sub (pos 0) (pos x), e, cut_most m)))

  taken : to_z w64 (of_z w64 (pos 0 -ℤ to_z w64 x)) ≡ neg_ℤ (pos (at_most m))
  taken = to_z-of_z negative ∙ ap (λ (z : ℤ). pos 0 -ℤ z) number ∙ +ℤ_idl (neg_ℤ (pos x)) ∙ ap (λ (n : ℕ). neg_ℤ (pos n)) e

  left : to_z w64 x ≡ pos (at_most m)
  left = number ∙ ap pos e

-- behind the digits before the point
module _ (c : After-digits_at-digits) where
  abbrev start : Start
  start = c.before.before.before.before

  abbrev s : List ℕ
  s = start.args.text.now

  abbrev at : ℕ
  at = start.args.at

  abbrev whole : ℕ
  whole = at + c.minus_size.result

  abbrev point : ℕ
  point = c.digits_at-digits.result.end

  minus : whole ≡ at + sign_size (drop at s)
  minus = ap (λ (n : ℕ). at + n) c.minus_size.ensures.0

  digits : point ≡ whole + run is_digit (drop whole s)
  digits = c.digits_at-digits.ensures.stop

  stop : point + 4 ≡ at + length_size (drop at s)
  unfolding length_size
  stop = omega (arith, point_is s at whole point minus digits)

  within : point + 4 ≤ length s
  within = omega (arith, point_is s at whole point minus digits, (told (drop at s) start.requires.1).long, length-drop at s, start.requires.0)

-- behind all digits
module _ (c : After-number-all) where
  abbrev k : After-digits_at-digits
  k = (goal.at.After-number-all c).After-digits_at-digits

  all : c.number-all.result ≡ at_most (magnitude_of (drop (at k) (s k)))
  all = magnitude-is (s k) (at k) (whole k) (point k) (minus k) (digits k) k.digits_at-digits.result.number c.number-all.result k.digits_at-digits.ensures.all c.number-all.ensures.0

pub number-all-requires : goal.number-all-requires
number-all-requires c = (omega arith, within c, c.digits_at-digits.ensures.small)

pub returns-then-whole-at : goal.returns-then-whole-at
returns-then-whole-at c = let k = k (goal.at.returns-then-whole-at c).After-number-all in
    record { stop = stop k; within = within k; value = left (magnitude_of (drop (at k) (s k))) c.number-all.result (all (goal.at.returns-then-whole-at c).After-number-all) ∙ value-plus (s k) (at k) (no_sign (s k) (at k) (whole k) (minus k) c.if-whole-at.true) }

pub overflow_sub-result : goal.overflow_sub-result
overflow_sub-result c = negative (magnitude_of (drop (at (k (goal.at.overflow_sub-result c).After-number-all)) (s (k (goal.at.overflow_sub-result c).After-number-all)))) c.number-all.result (all (goal.at.overflow_sub-result c).After-number-all)

pub returns : goal.returns
returns c = let k = k (goal.at.returns c).After-number-all in
    record { stop = stop k; within = within k; value = taken (magnitude_of (drop (at k) (s k))) c.number-all.result (all (goal.at.returns c).After-number-all) ∙ value-minus (s k) (at k) (signed (s k) (at k) (whole k) (minus k) c.if-whole-at.false) }
