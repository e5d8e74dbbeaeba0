-- Signs first, then magnitudes: both products are below 2^64.
use native.Mathlib.Omega.{arith}
use native.Mathlib.Nat.{mul-le-mul}
use mathlib.Core.Path.{◌≡◌, ◌∙◌, ap₂}
use Prim.Native.Nat.{ℕ, ◌*◌, ◌≤◌, ◌<◌, ◌^◌}
use lib.Dec.{ltb}
use lib.IntN.{nat_abs}
use mir.Facts.{to_z-of_z}
use Rattle.lengths.specs.Limits.{max_denominator}
use Rattle.reporting.specs.Answers.{max_tree_length}
use Rattle.comparison.proofs.Cross.{both_negative, first_negative, second_negative, none_negative}
use Rattle.comparison.proofs.less.Goals as goal

product : (m d : ℕ) → m ≤ max_tree_length → d ≤ max_denominator → m * d < 2 ^ 64
product m d h k = omega (arith, mul-le-mul {n₁ = m} {m₁ = d} {n₂ = max_tree_length} {m₂ = max_denominator} h k)

pub overflow_mul-left : goal.overflow_mul-left
overflow_mul-left c = let m : c.magnitude.result ≡ nat_abs c.args.a = simp (to_z-of_z c.ranges.a) at c.magnitude.ensures in
    record { fits = product c.magnitude.result c.args.e (omega (arith, m, c.requires.0)) c.requires.4 }

pub overflow_mul-right : goal.overflow_mul-right
overflow_mul-right c = let m : c.magnitude-2.result ≡ nat_abs c.args.b = simp (to_z-of_z c.ranges.b) at c.magnitude-2.ensures in
    record { fits = product c.magnitude-2.result c.args.d (omega (arith, m, c.requires.1)) c.requires.2 }

pub returns-then-b-lt0 : goal.returns-then-b-lt0
returns-then-b-lt0 c = let m : c.magnitude.result ≡ nat_abs c.args.a = simp (to_z-of_z c.ranges.a) at c.magnitude.ensures in
    let n : c.magnitude-2.result ≡ nat_abs c.args.b = simp (to_z-of_z c.ranges.b) at c.magnitude-2.ensures in
    ap₂ (λ (x y : ℕ). ltb (x * c.args.d) (y * c.args.e)) n m
    ∙ both_negative c.args.a c.args.b c.args.d c.args.e (simp (to_z-of_z c.ranges.a) at c.if-a-lt0.true) (simp (to_z-of_z c.ranges.b) at c.if-b-lt0.true)

pub returns-then-a-lt0 : goal.returns-then-a-lt0
returns-then-a-lt0 c = first_negative c.args.a c.args.b c.args.d c.args.e c.requires.3 (simp (to_z-of_z c.ranges.a) at c.if-a-lt0.true) (simp (to_z-of_z c.ranges.b) at c.if-b-lt0.false)

pub returns-then-b-lt0-2 : goal.returns-then-b-lt0-2
returns-then-b-lt0-2 c = second_negative c.args.a c.args.b c.args.d c.args.e (simp (to_z-of_z c.ranges.a) at c.if-a-lt0.false) (simp (to_z-of_z c.ranges.b) at c.if-b-lt0-2.true)

pub returns : goal.returns
returns c = let m : c.magnitude.result ≡ nat_abs c.args.a = simp (to_z-of_z c.ranges.a) at c.magnitude.ensures in
    let n : c.magnitude-2.result ≡ nat_abs c.args.b = simp (to_z-of_z c.ranges.b) at c.magnitude-2.ensures in
    ap₂ (λ (x y : ℕ). ltb (x * c.args.e) (y * c.args.d)) m n
    ∙ none_negative c.args.a c.args.b c.args.d c.args.e (simp (to_z-of_z c.ranges.a) at c.if-a-lt0.false) (simp (to_z-of_z c.ranges.b) at c.if-b-lt0-2.false)
