-- The product's size is added or taken away, by the signs of its two numbers.
use Rattle.std.proofs.Common.{◌≡◌, ℕ, ◌*◌, ◌%◌, ◌^◌, nat_abs, ◌∙◌, ap₂, to_z-of_z}
use Rattle.edge_numbers.proofs.Products.{add-size, take-size, both-up, up-down, down-up, both-down}
use Rattle.edge_numbers.proofs.gather.Goals as goal
use Rattle.edge_numbers.proofs.gather.Goals.{After-product-size}

-- the size that was worked
sized : (c : After-product-size) → let a = c.args in c.product-size.result ≡ nat_abs a.a * nat_abs a.b % 2 ^ 64
sized c = c.product-size.ensures ∙ ap₂ (λ (x y : ℕ). x * y % 2 ^ 64) (simp (to_z-of_z c.ranges.a) at c.magnitude.ensures) (simp (to_z-of_z c.ranges.b) at c.magnitude-2.ensures)

pub returns-then-b-ge0 : goal.returns-then-b-ge0
returns-then-b-ge0 c = add-size c.args.acc c.wrapping_add_u64.result _ c.product-size.result _ (sized c.before.before.before)
    (both-up c.args.a c.args.b (simp (to_z-of_z c.ranges.a) at c.if-a-ge0.true) (simp (to_z-of_z c.ranges.b) at c.if-b-ge0.true))
    c.wrapping_add_u64.ensures.value

pub returns-then-a-ge0 : goal.returns-then-a-ge0
returns-then-a-ge0 c = take-size c.args.acc c.wrapping_sub_u64.result _ c.product-size.result _ (sized c.before.before.before)
    (up-down c.args.a c.args.b (simp (to_z-of_z c.ranges.a) at c.if-a-ge0.true) (simp (to_z-of_z c.ranges.b) at c.if-b-ge0.false))
    c.wrapping_sub_u64.ensures.value

pub returns-then-b-ge0-2 : goal.returns-then-b-ge0-2
returns-then-b-ge0-2 c = take-size c.args.acc c.wrapping_sub_u64-then-b-ge0-2.result _ c.product-size.result _ (sized c.before.before.before)
    (down-up c.args.a c.args.b (simp (to_z-of_z c.ranges.a) at c.if-a-ge0.false) (simp (to_z-of_z c.ranges.b) at c.if-b-ge0-2.true))
    c.wrapping_sub_u64-then-b-ge0-2.ensures.value

pub returns : goal.returns
returns c = add-size c.args.acc c.wrapping_add_u64-2.result _ c.product-size.result _ (sized c.before.before.before)
    (both-down c.args.a c.args.b (simp (to_z-of_z c.ranges.a) at c.if-a-ge0.false) (simp (to_z-of_z c.ranges.b) at c.if-b-ge0-2.false))
    c.wrapping_add_u64-2.ensures.value
