-- One edge a turn.
use mathlib.Core.Path.{◌∙◌, ap₂}
use Prim.Native.Nat.{◌-◌}
use lib.IntN.{pos, ◌+ℤ◌, ◌*ℤ◌}
use Rattle.long_digits.specs.Digits.{base}
use Rattle.long_digits.specs.Clamp.{clamp, most}
use Rattle.long_sums.proofs.Filling.{fill_start, fill_turn, fill_end, top_back, next-back, stored}
use Rattle.long_sums.proofs.next_level.Goals as goal

pub loop-v-init : goal.loop-v-init
loop-v-init c = fill_start _ _ _ c.filled-next.ensures.throughout

pub next_digit-requires : goal.next_digit-requires
next_digit-requires c = let w = c.requires.levels in
    let t = c.loop-v-test.true in
    rw (top_back w c.loop-v.v t, next-back w c.loop-v.v t) (w.top c.loop-v.v t, w.next c.loop-v.v t)

pub loop-v-preserved : goal.loop-v-preserved
loop-v-preserved c = let t = c.loop-v-test.true in
    fill_turn _ _ c.requires.edges_le_max_edges c.loop-v.v c.loop-v.next _ t
    (stored _ _ c.next_digit.ensures ∙ ap₂ (λ x y. clamp most (pos base *ℤ x +ℤ y)) (top_back c.requires.levels c.loop-v.v t) (next-back c.requires.levels c.loop-v.v t)) c.loop-v.invariant

pub returns : goal.returns
returns c = fill_end _ _ _ _ c.loop-v-test.false c.loop-v.invariant
