-- A number up to 10^15 with a digit behind it is below 2^64; it is cut where it is above 10^15.
use mathlib.Core.Path.{sym, ◌∙◌, ap}
use Prim.Native.Nat.{ℕ, ◌+◌, ◌*◌}
use native.Mathlib.Omega.{arith}
use Rattle.digits.specs.Digits.{at_most}
use Rattle.digits.proofs.Reading.{digit-high, low-cut, high_cut}
use Rattle.digits.proofs.longer.Goals as goal

pub overflow_add-next : goal.overflow_add-next
overflow_add-next c = omega (arith, digit-high c.args.byte, c.digit.ensures)

pub returns-then-next-le-MOST : goal.returns-then-next-le-MOST
returns-then-next-le-MOST c = let p = c.args in
    (sym (low-cut (p.number * 10 + _) c.if-next-le-MOST.true) ∙ ap (λ (x : ℕ). at_most (p.number * 10 + x)) c.digit.ensures, c.if-next-le-MOST.true)

pub returns : goal.returns
returns c = let p = c.args in
    (sym (high_cut (p.number * 10 + _) c.if-next-le-MOST.false) ∙ ap (λ (x : ℕ). at_most (p.number * 10 + x)) c.digit.ensures, omega arith)
