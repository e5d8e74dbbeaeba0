-- The arithmetic of four sets of strains about an inner edge: A, B at one end and C, D at the other, of sizes a, b, c, d; ab, ac, ..
-- are the sums of distances between them. The paths from a set to a vertex of degree three are half of what the outer
-- length says of a strain (`star_of`). The one idea: an edge's length by averages (`edge_of`) is what makes that law at
-- one end of the edge give the same law at the other (`grow`), and the law in all three directions at a vertex gives an
-- edge's equation (`meets`).
-- Both laws are free of denominators: `IsStar` and `IsEdge` multiply them out.
use mathlib.Core.Path.{◌≡◌, ◌∙◌, ap, ap₂}
use mathlib.Core.List.{[], ◌∷◌}
use lib.IntN.{ℤ, pos, ◌+ℤ◌, ◌-ℤ◌, ◌*ℤ◌}
use Rattle.exact.proofs.Quote.{by-ring, quote, eq_by, z_sub, z+, z*}
use Rattle.exact.specs.Order.{◌<ᶻ◌}
use Rattle.exact.proofs.Order.{mul_cancel, nn+, nn*, nn-pos, nn_sub, is-<, <-is, le-by}

pub pos* : {a b : ℤ} → pos 0 <ᶻ a → pos 0 <ᶻ b → pos 0 <ᶻ a *ℤ b
pos* {a} {b} p q = is-< (le-by (nn+ (nn* (nn_sub (<-is p)) (nn_sub (<-is q))) (nn+ (nn_sub (<-is p)) (nn_sub (<-is q)))) (by-ring (a ∷ b ∷ []) (search quote depth 20) tt))

pub pos+ : {a b : ℤ} → pos 0 <ᶻ a → pos 0 <ᶻ b → pos 0 <ᶻ a +ℤ b
pos+ {a} {b} p q = is-< (le-by (nn+ (nn_sub (<-is p)) (nn+ (nn_sub (<-is q)) (nn-pos 1))) (by-ring (a ∷ b ∷ []) (search quote depth 20) tt))

-- the paths from a set of size a to a vertex, whose other two directions have sizes b and c, by the sums between the three
abbrev pub star_of : (a b c ab ac bc : ℤ) → ℤ
star_of a b c ab ac bc = c *ℤ ab +ℤ b *ℤ ac -ℤ a *ℤ bc

-- t are those paths, twice and times bc
abbrev pub IsStar : (a b c t ab ac bc : ℤ) → Type 0
IsStar a b c t ab ac bc = pos 2 *ℤ (b *ℤ c) *ℤ t ≡ star_of a b c ab ac bc

-- the length of an inner edge with A, B at one end and C, D at the other, without its denominator
abbrev pub edge_of : (a b c d ab ac ad bc bd cd : ℤ) → ℤ
edge_of a b c d ab ac ad bc bd cd = (a *ℤ d +ℤ b *ℤ c) *ℤ (b *ℤ d *ℤ ac +ℤ a *ℤ c *ℤ bd) +ℤ (a *ℤ c +ℤ b *ℤ d) *ℤ (b *ℤ c *ℤ ad +ℤ a *ℤ d *ℤ bc)
    -ℤ (a +ℤ b) *ℤ (c +ℤ d) *ℤ (c *ℤ d *ℤ ab +ℤ a *ℤ b *ℤ cd)

-- l is that length, times its denominator
abbrev pub IsEdge : (a b c d l ab ac ad bc bd cd : ℤ) → Type 0
IsEdge a b c d l ab ac ad bc bd cd = pos 2 *ℤ (a *ℤ b *ℤ (c *ℤ d)) *ℤ ((a +ℤ b) *ℤ (c +ℤ d)) *ℤ l ≡ edge_of a b c d ab ac ad bc bd cd

-- the crux: the coefficients of the six sums agree
grow_id : (a b c d ab ac ad bc bd cd : ℤ) →
    edge_of a b c d ab ac ad bc bd cd +ℤ a *ℤ (c *ℤ d) *ℤ star_of a b (c +ℤ d) ab (ac +ℤ ad) (bc +ℤ bd) +ℤ b *ℤ (c *ℤ d) *ℤ star_of b a (c +ℤ d) ab (bc +ℤ bd) (ac +ℤ ad)
    ≡ a *ℤ b *ℤ (c +ℤ d) *ℤ star_of (a +ℤ b) c d (ac +ℤ bc) (ad +ℤ bd) cd
grow_id a b c d ab ac ad bc bd cd = by-ring (a ∷ b ∷ c ∷ d ∷ ab ∷ ac ∷ ad ∷ bc ∷ bd ∷ cd ∷ []) (search quote depth 60 fits 9000) tt

grow-left : (a b c d l s t : ℤ) → a *ℤ b *ℤ (c +ℤ d) *ℤ (pos 2 *ℤ (c *ℤ d) *ℤ ((a +ℤ b) *ℤ l +ℤ (s +ℤ t)))
    ≡ pos 2 *ℤ (a *ℤ b *ℤ (c *ℤ d)) *ℤ ((a +ℤ b) *ℤ (c +ℤ d)) *ℤ l +ℤ a *ℤ (c *ℤ d) *ℤ (pos 2 *ℤ (b *ℤ (c +ℤ d)) *ℤ s) +ℤ b *ℤ (c *ℤ d) *ℤ (pos 2 *ℤ (a *ℤ (c +ℤ d)) *ℤ t)
grow-left a b c d l s t = by-ring (a ∷ b ∷ c ∷ d ∷ l ∷ s ∷ t ∷ []) (search quote depth 60 fits 9000) tt

-- over an edge: from the two directions beyond it to the one that it gives
pub grow : (a b c d l s t ab ac ad bc bd cd : ℤ) → pos 0 <ᶻ a → pos 0 <ᶻ b → pos 0 <ᶻ c → pos 0 <ᶻ d
    → IsStar a b (c +ℤ d) s ab (ac +ℤ ad) (bc +ℤ bd) → IsStar b a (c +ℤ d) t ab (bc +ℤ bd) (ac +ℤ ad)
    → IsEdge a b c d l ab ac ad bc bd cd
    → IsStar (a +ℤ b) c d ((a +ℤ b) *ℤ l +ℤ (s +ℤ t)) (ac +ℤ bc) (ad +ℤ bd) cd
grow a b c d l s t ab ac ad bc bd cd pa pb pc pd e f g = mul_cancel (pos* (pos* pa pb) (pos+ pc pd))
    (grow-left a b c d l s t
    ∙ ap₂ (λ x y. x +ℤ a *ℤ (c *ℤ d) *ℤ y +ℤ b *ℤ (c *ℤ d) *ℤ (pos 2 *ℤ (a *ℤ (c +ℤ d)) *ℤ t)) g e
    ∙ ap (λ y. edge_of a b c d ab ac ad bc bd cd +ℤ a *ℤ (c *ℤ d) *ℤ star_of a b (c +ℤ d) ab (ac +ℤ ad) (bc +ℤ bd) +ℤ b *ℤ (c *ℤ d) *ℤ y) f
    ∙ grow_id a b c d ab ac ad bc bd cd)

-- the equation of an edge, from the three directions at its end
pub meets : (x y z t s r xy xz yz : ℤ) → pos 0 <ᶻ y → pos 0 <ᶻ z
    → IsStar x y z t xy xz yz → IsStar y x z s xy yz xz → IsStar z x y r xz yz xy
    → (y +ℤ z) *ℤ t +ℤ x *ℤ (s +ℤ r) ≡ xy +ℤ xz
meets x y z t s r xy xz yz py pz e f g = mul_cancel (pos* {a = pos 2} (record { lt = tt }) (pos* py pz))
    (eq_by (z+ (z* (y +ℤ z) (z_sub e)) (z+ (z* y (z_sub f)) (z* z (z_sub g))))
    (by-ring (x ∷ y ∷ z ∷ t ∷ s ∷ r ∷ xy ∷ xz ∷ yz ∷ []) (search quote depth 60 fits 9000) tt))
