-- Test by test, in the order in which the definition asks them.
use mathlib.Core.Path.{◌≡◌, sym, ◌∙◌, ap}
use mathlib.Core.Bool.{false, not, ◌&&◌}
use mathlib.Core.List.{List}
use Prim.Native.Nat.{ℕ, ◌+◌, ◌-◌}
use native.Mathlib.Omega.{arith}
use borrow.Author.Tests.{ne_eqb}
use lib.Dec.{eqb, ltb}
use lib.ListN.{get_or, drop}
use Rattle.digits.specs.Digits.{run, is_digit}
use Rattle.digits.proofs.Reading.{inside}
use Rattle.newick_text.specs.Length.{sign_size, length_there}
use Rattle.newick_words.proofs.Words.{point_is, there-none, there-needless, there_pointless, there-places, there-plain, there-minus, magnitude-is, length_none, length_some}
use Rattle.newick_words.proofs.length_end.Goals as goal
use Rattle.newick_words.proofs.length_end.Goals.{After-digits_end-point, After-number, Else-end-point, Start}

-- behind the digits before the point
module _ (c : After-digits_end-point) where
  abbrev start : Start
  start = c.before.before.before.before

  abbrev s : List ℕ
  s = start.args.text.now

  abbrev at : ℕ
  at = start.args.at

  abbrev whole : ℕ
  whole = at + c.minus_size.result

  abbrev point : ℕ
  point = c.digits_end-point.result

  minus : whole ≡ at + sign_size (drop at s)
  minus = ap (λ (n : ℕ). at + n) c.minus_size.ensures.0

  digits : point ≡ whole + run is_digit (drop whole s)
  digits = c.digits_end-point.ensures.0

-- behind three places
module _ (c : Else-end-point) where
  abbrev k : After-digits_end-point
  k = (goal.at.Else-end-point c).After-digits_end-point

  abbrev end : ℕ
  end = c.digits_end-end.result

  ends : end ≡ point k + 1 + run is_digit (drop (point k + 1) (s k))
  ends = c.digits_end-end.ensures.0

  some : point k ≡ whole k → ⊥
  some = c.if-point-whole.false

  lean : (ltb 1 (point k - whole k) && eqb (get_or (s k) (whole k) 0) 48) ≡ false
  lean = sym c.needless_zero.ensures ∙ c.if-needless_zero.false

  dot : get_or (s k) (point k) 0 ≡ 46
  dot = sym c.byte_at.ensures ∙ c.if-byte_at-ne46.false

-- the number of a length with a minus
module _ (c : After-number) where
  abbrev f : Else-end-point
  f = (goal.at.After-number c).Else-end-point

  -- whether it stands there, by that
  sign : not (eqb c.number.result 0) ≡ length_there (drop (at (k f)) (s (k f)))
  sign = there-minus (s (k f)) (at (k f)) (whole (k f)) (point (k f)) (minus (k f)) (digits (k f)) (end f) (ends f) (some f) (lean f) (dot f) f.if-end-point.false c.number.result c.if-whole-at.false
      (magnitude-is (s (k f)) (at (k f)) (whole (k f)) (point (k f)) (minus (k f)) (digits (k f)) c.number-number.result c.number.result c.number-number.ensures.0 c.number.ensures.0)

pub returns-then-point-whole : goal.returns-then-point-whole
returns-then-point-whole c = length_none (s (goal.at.returns-then-point-whole c).After-digits_end-point) (at (goal.at.returns-then-point-whole c).After-digits_end-point) (start (goal.at.returns-then-point-whole c).After-digits_end-point).requires (there-none (s (goal.at.returns-then-point-whole c).After-digits_end-point) (at (goal.at.returns-then-point-whole c).After-digits_end-point) (whole (goal.at.returns-then-point-whole c).After-digits_end-point) (point (goal.at.returns-then-point-whole c).After-digits_end-point) (minus (goal.at.returns-then-point-whole c).After-digits_end-point) (digits (goal.at.returns-then-point-whole c).After-digits_end-point) c.if-point-whole.true)

pub returns-then-needless_zero : goal.returns-then-needless_zero
returns-then-needless_zero c = length_none (s (goal.at.returns-then-needless_zero c).After-digits_end-point) (at (goal.at.returns-then-needless_zero c).After-digits_end-point) (start (goal.at.returns-then-needless_zero c).After-digits_end-point).requires (there-needless (s (goal.at.returns-then-needless_zero c).After-digits_end-point) (at (goal.at.returns-then-needless_zero c).After-digits_end-point) (whole (goal.at.returns-then-needless_zero c).After-digits_end-point) (point (goal.at.returns-then-needless_zero c).After-digits_end-point) (minus (goal.at.returns-then-needless_zero c).After-digits_end-point) (digits (goal.at.returns-then-needless_zero c).After-digits_end-point) (sym c.needless_zero.ensures ∙ c.if-needless_zero.true))

pub returns-then-byte_at-ne46 : goal.returns-then-byte_at-ne46
returns-then-byte_at-ne46 c = length_none (s (goal.at.returns-then-byte_at-ne46 c).After-digits_end-point) (at (goal.at.returns-then-byte_at-ne46 c).After-digits_end-point) (start (goal.at.returns-then-byte_at-ne46 c).After-digits_end-point).requires (there_pointless (s (goal.at.returns-then-byte_at-ne46 c).After-digits_end-point) (at (goal.at.returns-then-byte_at-ne46 c).After-digits_end-point) (whole (goal.at.returns-then-byte_at-ne46 c).After-digits_end-point) (point (goal.at.returns-then-byte_at-ne46 c).After-digits_end-point) (minus (goal.at.returns-then-byte_at-ne46 c).After-digits_end-point) (digits (goal.at.returns-then-byte_at-ne46 c).After-digits_end-point) (λ e. c.if-byte_at-ne46.true (c.byte_at.ensures ∙ e)))

pub digits_end-end-requires : goal.digits_end-end-requires
digits_end-end-requires c = let i = inside (s (goal.at.digits_end-end-requires c).After-digits_end-point) (point (goal.at.digits_end-end-requires c).After-digits_end-point) 45 (sym c.byte_at.ensures ∙ c.if-byte_at-ne46.false) in omega (arith, i)

pub returns-then-end-point : goal.returns-then-end-point
returns-then-end-point c = length_none (s (goal.at.returns-then-end-point c).After-digits_end-point) (at (goal.at.returns-then-end-point c).After-digits_end-point) (start (goal.at.returns-then-end-point c).After-digits_end-point).requires (there-places (s (goal.at.returns-then-end-point c).After-digits_end-point) (at (goal.at.returns-then-end-point c).After-digits_end-point) (whole (goal.at.returns-then-end-point c).After-digits_end-point) (point (goal.at.returns-then-end-point c).After-digits_end-point) (minus (goal.at.returns-then-end-point c).After-digits_end-point) (digits (goal.at.returns-then-end-point c).After-digits_end-point) c.digits_end-end.result c.digits_end-end.ensures.0 c.if-end-point.true)

pub returns-then-whole-at : goal.returns-then-whole-at
returns-then-whole-at c = let k = k (goal.at.returns-then-whole-at c).Else-end-point in
    length_some (s k) (at k) (there-plain (s k) (at k) (whole k) (point k) (minus k) (digits k) (end (goal.at.returns-then-whole-at c).Else-end-point) (ends (goal.at.returns-then-whole-at c).Else-end-point) (some (goal.at.returns-then-whole-at c).Else-end-point) (lean (goal.at.returns-then-whole-at c).Else-end-point) (dot (goal.at.returns-then-whole-at c).Else-end-point) c.if-end-point.false c.if-whole-at.true) (point k) (end (goal.at.returns-then-whole-at c).Else-end-point) (point_is (s k) (at k) (whole k) (point k) (minus k) (digits k)) c.if-end-point.false c.digits_end-end.ensures.1

pub number-requires : goal.number-requires
number-requires c = (omega arith, omega (arith, c.if-end-point.false, c.digits_end-end.ensures.1), c.number-number.ensures.1)

pub returns-then-number-eq0 : goal.returns-then-number-eq0
returns-then-number-eq0 c = let k = k (f (goal.at.returns-then-number-eq0 c).After-number) in length_none (s k) (at k) (start k).requires (ap (λ (m : ℕ). not (eqb m 0)) (sym c.if-number-eq0.true) ∙ sign (goal.at.returns-then-number-eq0 c).After-number)

pub returns : goal.returns
returns c = let f = f (goal.at.returns c).After-number in let k = k f in
    length_some (s k) (at k) (sym (ap not (ne_eqb c.number.result 0 c.if-number-eq0.false)) ∙ sign (goal.at.returns c).After-number) (point k) (end f) (point_is (s k) (at k) (whole k) (point k) (minus k) (digits k)) c.if-end-point.false c.digits_end-end.ensures.1
