-- One digit a turn.
use native.Mathlib.Omega.{arith}
use mir.Syntax.{w64}
use mir.Val.{to_z, of_z}
use mir.Facts.{to_z-of_z}
use mathlib.Core.Path.{◌≡◌, ◌∙◌, ap}
use lib.IntN.{ℤ, pos, nat_abs}
use Prim.Native.Nat.{◌≤◌}
use Rattle.long_digits.specs.Clamp.{clamp, most}
use Rattle.long_theory.specs.Long.{long_denominator, long_numerator}
use Rattle.long_lengths.specs.Edge.{measure}
use Rattle.long_lengths.proofs.Terms.{compare_start, compare_end, compare_turn, place-low, digit-back, term-near, handed, kept, whole-near}
use Rattle.long_lengths.proofs.compare.Goals as goal

-- b as the code has it
bound : (x : ℤ) (e : to_z w64 (of_z w64 x) ≡ x) → nat_abs x ≤ 200000000001 → nat_abs (to_z w64 (of_z w64 x)) ≤ 200000000001
bound x e h = omega (arith, ap nat_abs e)

pub loop-k-init : goal.loop-k-init
loop-k-init c = compare_start c.requires.long_edge (to_z w64 (of_z w64 c.args.b)) (bound c.args.b (to_z-of_z c.ranges.b) c.requires.b_bound)

pub overflow_mul-k : goal.overflow_mul-k
overflow_mul-k c = omega (arith, place-low c.requires.long_edge (to_z w64 (of_z w64 c.args.b)) (bound c.args.b (to_z-of_z c.ranges.b) c.requires.b_bound) c.loop-k.k c.loop-k-test.true)

pub overflow_add-k : goal.overflow_add-k
overflow_add-k c = omega (arith, place-low c.requires.long_edge (to_z w64 (of_z w64 c.args.b)) (bound c.args.b (to_z-of_z c.ranges.b) c.requires.b_bound) c.loop-k.k c.loop-k-test.true)

pub offset_bounds-digits-k : goal.offset_bounds-digits-k
offset_bounds-digits-k c = omega (arith, place-low c.requires.long_edge (to_z w64 (of_z w64 c.args.b)) (bound c.args.b (to_z-of_z c.ranges.b) c.requires.b_bound) c.loop-k.k c.loop-k-test.true)

pub bounds-digits-k : goal.bounds-digits-k
bounds-digits-k c = omega (arith, place-low c.requires.long_edge (to_z w64 (of_z w64 c.args.b)) (bound c.args.b (to_z-of_z c.ranges.b) c.requires.b_bound) c.loop-k.k c.loop-k-test.true)

pub offset_bounds-d-k : goal.offset_bounds-d-k
offset_bounds-d-k c = omega (arith, c.loop-k-test.true, c.requires.long_edge.levels)

pub bounds-d-k : goal.bounds-d-k
bounds-d-k c = omega (arith, c.loop-k-test.true, c.requires.long_edge.levels)

pub term-next-requires : goal.term-next-requires
term-next-requires c = let t = c.loop-k-test.true in
    (omega (arith, ap nat_abs (digit-back c.requires.long_edge (to_z w64 (of_z w64 c.args.b)) (bound c.args.b (to_z-of_z c.ranges.b) c.requires.b_bound) c.loop-k.k t), c.requires.long_edge.tops c.loop-k.k t), bound c.args.b (to_z-of_z c.ranges.b) c.requires.b_bound, c.requires.long_edge.digits c.loop-k.k)

pub next_digit-whole-requires : goal.next_digit-whole-requires
next_digit-whole-requires c = let t = c.loop-k-test.true in (
  whole-near c.loop-k.invariant,
  omega (arith, ap nat_abs (handed c.requires.long_edge (to_z w64 (of_z w64 c.args.b)) (bound c.args.b (to_z-of_z c.ranges.b) c.requires.b_bound) c.loop-k.k t _ c.term-next.ensures), term-near c.requires.long_edge (to_z w64 (of_z w64 c.args.b)) (bound c.args.b (to_z-of_z c.ranges.b) c.requires.b_bound) c.loop-k.k t),
)

pub loop-k-preserved : goal.loop-k-preserved
loop-k-preserved c = let t = c.loop-k-test.true in
    compare_turn c.requires.long_edge (to_z w64 (of_z w64 c.args.b)) (bound c.args.b (to_z-of_z c.ranges.b) c.requires.b_bound) c.loop-k.k t _ _ _ c.loop-k.invariant
    (handed c.requires.long_edge (to_z w64 (of_z w64 c.args.b)) (bound c.args.b (to_z-of_z c.ranges.b) c.requires.b_bound) c.loop-k.k t _ c.term-next.ensures)
    (kept c.requires.long_edge (to_z w64 (of_z w64 c.args.b)) (bound c.args.b (to_z-of_z c.ranges.b) c.requires.b_bound) c.loop-k.k t _ _ c.next_digit-whole.ensures)

pub returns : goal.returns
returns c = compare_end c.requires.long_edge (to_z w64 (of_z w64 c.args.b)) (bound c.args.b (to_z-of_z c.ranges.b) c.requires.b_bound) c.loop-k.k _ c.loop-k-test.false c.loop-k.invariant
    ∙ ap (λ (z : ℤ). clamp most (measure z (pos (long_denominator c.args.levels c.args.d.now)) (long_numerator c.args.levels c.args.edges c.args.digits.now c.args.v))) (to_z-of_z c.ranges.b)
