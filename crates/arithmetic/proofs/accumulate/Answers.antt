-- The sign of t says whether its magnitude is added or taken away, and each wraps by whole turns.
use Rattle.std.proofs.Common.{◌≡◌, ℕ, suc, ◌+◌, ◌%◌, ◌^◌, true, false, ℤ, pos, ◌+ℤ◌, nat_abs, ◌∙◌, add-one, to_z-of_z}
use lib.Signed.{le_z, mag}
use Rattle.exact.specs.Modulo.{Modulo}
use Rattle.exact.proofs.Sign.{is_pos, is_neg, neg_abs}
use Rattle.exact.proofs.Modular.{modulo_add, modulo_sub}
use Rattle.arithmetic.proofs.accumulate.Goals as goal

-- the two arms over plain numbers: a is the accumulator, m the magnitude of t, r the result
plus : (a r m : ℕ) (t : ℤ) → r ≡ (a + m) % 2 ^ 64 → m ≡ nat_abs t → le_z (pos 0) t ≡ true → Modulo r (pos a +ℤ t)
plus a r m t e f g = rw (is_pos t g, ← f) (modulo_add a r m e)

minus : (a r m : ℕ) (t : ℤ) → (r + m) % 2 ^ 64 ≡ a → m ≡ nat_abs t → le_z (pos 0) t ≡ false → Modulo r (pos a +ℤ t)
minus a r m t e f g =
    let k : m ≡ suc (mag t) = f ∙ neg_abs t g ∙ add-one (mag t) in
    rw (is_neg t g) (rw k at (modulo_sub a r m e))

pub returns-then-t-ge0 : goal.returns-then-t-ge0
returns-then-t-ge0 c = let e = to_z-of_z c.ranges.t in
    plus c.args.acc c.wrapping_add_u64.result c.magnitude.result
    c.args.t c.wrapping_add_u64.ensures.value (simp e at c.magnitude.ensures)
    (simp e at c.if-t-ge0.true)

pub returns-else-t-ge0 : goal.returns-else-t-ge0
returns-else-t-ge0 c = let e = to_z-of_z c.ranges.t in
    minus c.args.acc c.wrapping_sub_u64.result c.magnitude-else-t-ge0.result
    c.args.t c.wrapping_sub_u64.ensures.value (simp e at c.magnitude-else-t-ge0.ensures)
    (simp e at c.if-t-ge0.false)
