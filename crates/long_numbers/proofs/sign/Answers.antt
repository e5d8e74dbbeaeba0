-- One level a turn.
use mathlib.Core.Path.{◌∙◌, ap}
use Prim.Native.Nat.{◌-◌}
use native.Mathlib.Omega.{arith}
use lib.IntN.{ℤ, pos, nat_abs, ◌+ℤ◌, ◌*ℤ◌}
use mir.Syntax.{w64}
use mir.Val.{to_z}
use Rattle.exact.specs.Table.{entry_of}
use Rattle.exact.proofs.Sign.{back}
use Rattle.long_digits.specs.Digits.{base}
use Rattle.long_digits.specs.Clamp.{clamp, most}
use Rattle.long_sums.proofs.Filling.{stored}
use Rattle.long_numbers.proofs.Numbers.{sign-start, sign-near, sign-turn, sign-end}
use Rattle.long_numbers.proofs.sign.Goals as goal

pub loop-k-init : goal.loop-k-init
loop-k-init c = sign-start _ _ c.requires.by_index

pub next_digit-whole-requires : goal.next_digit-whole-requires
next_digit-whole-requires c = let l = c.loop-k in let h = c.requires.by_index l.k c.loop-k-test.true in
    (sign-near c.args.levels (entry_of c.args.f.now) c.requires.by_index l.k _ l.invariant, omega (arith, ap nat_abs (back (entry_of c.args.f.now l.k) (omega (arith, h))), h))

pub loop-k-preserved : goal.loop-k-preserved
loop-k-preserved c = let l = c.loop-k in let t = c.loop-k-test.true in let h = c.requires.by_index l.k t in
    sign-turn c.args.levels (entry_of c.args.f.now) c.requires.by_index l.k (to_z w64 l.whole-bits) _ t l.invariant
    (stored _ _ c.next_digit-whole.ensures ∙ ap (λ (z : ℤ). clamp most (pos base *ℤ to_z w64 l.whole-bits +ℤ z)) (back (entry_of c.args.f.now l.k) (omega (arith, h))))

pub returns : goal.returns
returns c = sign-end c.args.levels (entry_of c.args.f.now) c.requires.by_index c.loop-k.k _ c.loop-k-test.false c.loop-k.invariant
