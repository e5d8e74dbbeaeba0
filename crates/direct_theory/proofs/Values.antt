-- The values of the fractions of RULES, Resolved trees without their denominators: f is p over q where f's top times q
-- is p times f's bottom. Such values add, subtract and multiply as at school, so the averages come over one
-- denominator. Laws:
-- `value-⊕`, `value-⊖`, `value-⊗`, `value-half`: of a sum, a difference, a product, a half; `value-by`: over another denominator;
-- `outer-value`, `outer-positive`: an outer length is `star_of` over twice the sizes' product;
-- `inner-value`, `inner-positive`: an inner length is `edge_of` over 2abcd(a + b)(c + d);
-- `value_same`, `value-common`: the same value in lowest terms, and over a common denominator.
use mathlib.Core.Path.{◌≡◌, refl, sym, ◌∙◌, ap}
use mathlib.Core.Bool.{Bool}
use mathlib.Core.List.{[], ◌∷◌}
use Prim.Native.Nat.{ℕ}
use lib.IntN.{ℤ, pos, neg_ℤ, ◌+ℤ◌, ◌-ℤ◌, ◌*ℤ◌}
use Rattle.exact.proofs.Quote.{by-ring, quote, eq_by, z_sub, z+, z*}
use Rattle.exact.specs.Order.{◌<ᶻ◌}
use Rattle.exact.proofs.Order.{mul_cancel}
use Rattle.exact.specs.Fraction.{Fraction, ◌over◌, ◌⊕◌, ◌⊖◌, ◌⊗◌, half}
use Rattle.direct_theory.specs.Averages.{size, between}
use Rattle.direct_theory.specs.Formula.{outer_length, weight, inner_length}
use Rattle.direct_theory.proofs.Quartet.{star_of, edge_of, pos*, pos+}

-- f has the value p over q
abbrev pub Value : Fraction → ℤ → ℤ → Type 0
Value f p q = f.top *ℤ q ≡ p *ℤ f.bottom

-- ---- values add, subtract and multiply
-- the same value over k times the denominator
pub value-by : (f : Fraction) (k p q p' q' : ℤ) → p' ≡ k *ℤ p → q' ≡ k *ℤ q → Value f p q → Value f p' q'
value-by f k p q p' q' e e' h = ap (λ y. f.top *ℤ y) e' ∙ eq_by (z* k (z_sub h)) (by-ring (f.top ∷ f.bottom ∷ k ∷ p ∷ q ∷ []) (search quote depth 20) tt) ∙ ap (λ y. y *ℤ f.bottom) (sym e)

-- sums and differences over one denominator
pub value-⊕ : (f g : Fraction) (p r q : ℤ) → Value f p q → Value g r q → Value (f ⊕ g) (p +ℤ r) q
value-⊕ f g p r q h k = eq_by (z+ (z* g.bottom (z_sub h)) (z* f.bottom (z_sub k)))
    (by-ring (f.top ∷ f.bottom ∷ g.top ∷ g.bottom ∷ p ∷ r ∷ q ∷ []) (search quote depth 20) tt)

pub value-⊖ : (f g : Fraction) (p r q : ℤ) → Value f p q → Value g r q → Value (f ⊖ g) (p -ℤ r) q
value-⊖ f g p r q h k = eq_by (z+ (z* g.bottom (z_sub h)) (z* (neg_ℤ f.bottom) (z_sub k)))
    (by-ring (f.top ∷ f.bottom ∷ g.top ∷ g.bottom ∷ p ∷ r ∷ q ∷ []) (search quote depth 20) tt)

-- products and halves
pub value-⊗ : (f g : Fraction) (p q r s : ℤ) → Value f p q → Value g r s → Value (f ⊗ g) (p *ℤ r) (q *ℤ s)
value-⊗ f g p q r s h k = eq_by (z+ (z* (g.top *ℤ s) (z_sub h)) (z* (p *ℤ f.bottom) (z_sub k)))
    (by-ring (f.top ∷ f.bottom ∷ g.top ∷ g.bottom ∷ p ∷ q ∷ r ∷ s ∷ []) (search quote depth 20) tt)

pub value-half : (f : Fraction) (p q : ℤ) → Value f p q → Value (half f) p (pos 2 *ℤ q)
value-half f p q h = eq_by (z* (pos 2) (z_sub h)) (by-ring (f.top ∷ f.bottom ∷ p ∷ q ∷ []) (search quote depth 20) tt)

-- ---- the averages over one denominator
-- an outer edge's, by sizes i, a, b and the sums between the sets
star-value : (i a b ia ib ab : ℤ)
    → Value (half (ia over (i *ℤ a) ⊕ ib over (i *ℤ b) ⊖ ab over (a *ℤ b))) (star_of i a b ia ib ab) (pos 2 *ℤ (i *ℤ (a *ℤ b)))
star-value i a b ia ib ab = value-half (f ⊕ g ⊖ h) (b *ℤ ia +ℤ a *ℤ ib -ℤ i *ℤ ab) q
    (value-⊖ (f ⊕ g) h (b *ℤ ia +ℤ a *ℤ ib) (i *ℤ ab) q
    (value-⊕ f g (b *ℤ ia) (a *ℤ ib) q
    (value-by f b ia (i *ℤ a) (b *ℤ ia) q refl (by-ring (i ∷ a ∷ b ∷ []) (search quote depth 20) tt) refl)
    (value-by g a ib (i *ℤ b) (a *ℤ ib) q refl (by-ring (i ∷ a ∷ b ∷ []) (search quote depth 20) tt) refl))
    (value-by h i ab (a *ℤ b) (i *ℤ ab) q refl refl refl))
  where
    q : ℤ
    q = i *ℤ (a *ℤ b)

    f : Fraction
    f = ia over (i *ℤ a)

    g : Fraction
    g = ib over (i *ℤ b)

    h : Fraction
    h = ab over (a *ℤ b)

-- two averages between four sets, over the sizes' product
pair-value : (a b c d x y : ℤ) → Value (x over (a *ℤ c) ⊕ y over (b *ℤ d)) (b *ℤ d *ℤ x +ℤ a *ℤ c *ℤ y) (a *ℤ b *ℤ (c *ℤ d))
pair-value a b c d x y = value-⊕ (x over (a *ℤ c)) (y over (b *ℤ d)) (b *ℤ d *ℤ x) (a *ℤ c *ℤ y) (a *ℤ b *ℤ (c *ℤ d))
    (value-by (x over (a *ℤ c)) (b *ℤ d) x (a *ℤ c) (b *ℤ d *ℤ x) (a *ℤ b *ℤ (c *ℤ d)) refl (by-ring (a ∷ b ∷ c ∷ d ∷ []) (search quote depth 20) tt) refl)
    (value-by (y over (b *ℤ d)) (a *ℤ c) y (b *ℤ d) (a *ℤ c *ℤ y) (a *ℤ b *ℤ (c *ℤ d)) refl (by-ring (a ∷ b ∷ c ∷ d ∷ []) (search quote depth 20) tt) refl)

-- 1 - L is (ac + bd)/((a + b)(c + d))
rest-weight : (a b c d : ℤ) → Value (pos 1 over pos 1 ⊖ weight a b c d) (a *ℤ c +ℤ b *ℤ d) ((a +ℤ b) *ℤ (c +ℤ d))
rest-weight a b c d = by-ring (a ∷ b ∷ c ∷ d ∷ []) (search quote depth 40) tt

-- an inner edge's, by sizes and sums
edge-value : (a b c d ab ac ad bc bd cd : ℤ)
    → Value
    (half (
    weight a b c d ⊗ (ac over (a *ℤ c) ⊕ bd over (b *ℤ d))
    ⊕ (pos 1 over pos 1 ⊖ weight a b c d) ⊗ (ad over (a *ℤ d) ⊕ bc over (b *ℤ c))
    ⊖ ab over (a *ℤ b)
    ⊖ cd over (c *ℤ d)
    ))
    (edge_of a b c d ab ac ad bc bd cd)
    (pos 2 *ℤ (a *ℤ b *ℤ (c *ℤ d)) *ℤ ((a +ℤ b) *ℤ (c +ℤ d)))
edge-value a b c d ab ac ad bc bd cd = value-by (half (f ⊕ g ⊖ u ⊖ v)) (pos 1) (p +ℤ r -ℤ s -ℤ t) (pos 2 *ℤ q) (edge_of a b c d ab ac ad bc bd cd)
    (pos 2 *ℤ (a *ℤ b *ℤ (c *ℤ d)) *ℤ ((a +ℤ b) *ℤ (c +ℤ d)))
    (by-ring (a ∷ b ∷ c ∷ d ∷ ab ∷ ac ∷ ad ∷ bc ∷ bd ∷ cd ∷ []) (search quote depth 60 fits 9000) tt)
    (by-ring (a ∷ b ∷ c ∷ d ∷ []) (search quote depth 40) tt)
    (value-half (f ⊕ g ⊖ u ⊖ v) (p +ℤ r -ℤ s -ℤ t) q
    (value-⊖ (f ⊕ g ⊖ u) v (p +ℤ r -ℤ s) t q
    (value-⊖ (f ⊕ g) u (p +ℤ r) s q
    (value-⊕ f g p r q
    (value-⊗ (weight a b c d) (ac over (a *ℤ c) ⊕ bd over (b *ℤ d)) (a *ℤ d +ℤ b *ℤ c) G (b *ℤ d *ℤ ac +ℤ a *ℤ c *ℤ bd) M refl (pair-value a b c d ac bd))
    (value-⊗ (pos 1 over pos 1 ⊖ weight a b c d) (ad over (a *ℤ d) ⊕ bc over (b *ℤ c)) (a *ℤ c +ℤ b *ℤ d) G (b *ℤ c *ℤ ad +ℤ a *ℤ d *ℤ bc) M (rest-weight a b c d)
    (value-by (ad over (a *ℤ d) ⊕ bc over (b *ℤ c)) (pos 1) (b *ℤ c *ℤ ad +ℤ a *ℤ d *ℤ bc) (a *ℤ b *ℤ (d *ℤ c)) (b *ℤ c *ℤ ad +ℤ a *ℤ d *ℤ bc) M
    (by-ring (a ∷ b ∷ c ∷ d ∷ ad ∷ bc ∷ []) (search quote depth 40) tt) (by-ring (a ∷ b ∷ c ∷ d ∷ []) (search quote depth 40) tt) (pair-value a b d c ad bc))))
    (value-by u (c *ℤ d *ℤ G) ab (a *ℤ b) s q refl (by-ring (a ∷ b ∷ c ∷ d ∷ []) (search quote depth 40) tt) refl))
    (value-by v (a *ℤ b *ℤ G) cd (c *ℤ d) t q refl (by-ring (a ∷ b ∷ c ∷ d ∷ []) (search quote depth 40) tt) refl)))
  where
    G : ℤ
    G = (a +ℤ b) *ℤ (c +ℤ d)

    M : ℤ
    M = a *ℤ b *ℤ (c *ℤ d)

    q : ℤ
    q = G *ℤ M

    f : Fraction
    f = weight a b c d ⊗ (ac over (a *ℤ c) ⊕ bd over (b *ℤ d))

    g : Fraction
    g = (pos 1 over pos 1 ⊖ weight a b c d) ⊗ (ad over (a *ℤ d) ⊕ bc over (b *ℤ c))

    u : Fraction
    u = ab over (a *ℤ b)

    v : Fraction
    v = cd over (c *ℤ d)

    p : ℤ
    p = (a *ℤ d +ℤ b *ℤ c) *ℤ (b *ℤ d *ℤ ac +ℤ a *ℤ c *ℤ bd)

    r : ℤ
    r = (a *ℤ c +ℤ b *ℤ d) *ℤ (b *ℤ c *ℤ ad +ℤ a *ℤ d *ℤ bc)

    s : ℤ
    s = c *ℤ d *ℤ G *ℤ ab

    t : ℤ
    t = a *ℤ b *ℤ G *ℤ cd

module _ (N : ℕ) (d : ℕ × ℕ → ℤ) where
  -- the value of an outer length
  pub outer-value : (I A B : ℕ → Bool) → Value (outer_length N d I A B)
      (star_of (size N I) (size N A) (size N B) (between N d I A) (between N d I B) (between N d A B)) (pos 2 *ℤ (size N I *ℤ (size N A *ℤ size N B)))
  outer-value I A B = star-value (size N I) (size N A) (size N B) (between N d I A) (between N d I B) (between N d A B)

  -- the value of an inner length
  pub inner-value : (A B C D : ℕ → Bool) → Value (inner_length N d A B C D)
      (edge_of (size N A) (size N B) (size N C) (size N D) (between N d A B) (between N d A C) (between N d A D) (between N d B C) (between N d B D) (between N d C D))
      (pos 2 *ℤ (size N A *ℤ size N B *ℤ (size N C *ℤ size N D)) *ℤ ((size N A +ℤ size N B) *ℤ (size N C +ℤ size N D)))
  inner-value A B C D = edge-value (size N A) (size N B) (size N C) (size N D) (between N d A B) (between N d A C) (between N d A D) (between N d B C) (between N d B D) (between N d C D)

  -- its denominator is positive where no set is empty
  pub outer-positive : (I A B : ℕ → Bool) → pos 0 <ᶻ size N I → pos 0 <ᶻ size N A → pos 0 <ᶻ size N B → pos 0 <ᶻ (outer_length N d I A B).bottom
  outer-positive I A B i a b = pos* {a = pos 2} (record { lt = tt }) (pos* (pos* (pos* i a) (pos* i b)) (pos* a b))

  pub inner-positive : (A B C D : ℕ → Bool) → pos 0 <ᶻ size N A → pos 0 <ᶻ size N B → pos 0 <ᶻ size N C → pos 0 <ᶻ size N D → pos 0 <ᶻ (inner_length N d A B C D).bottom
  inner-positive A B C D a b c e = pos* {a = pos 2} (record { lt = tt })
      (pos* (pos* (pos*
      (pos* g (pos* (pos* a c) (pos* b e)))
      (pos* (pos* {a = pos 1} (record { lt = tt }) g) (pos* (pos* a e) (pos* b c)))) (pos* a b)) (pos* c e))
    where
      g : pos 0 <ᶻ (size N A +ℤ size N B) *ℤ (size N C +ℤ size N D)
      g = pos* (pos+ a b) (pos+ c e)

-- ---- a fraction in other words
-- f is p over q and is num over den: then num over den is p over q
pub value_same : (f : Fraction) (p q num den : ℤ) → pos 0 <ᶻ f.bottom → Value f p q → num *ℤ f.bottom ≡ den *ℤ f.top → q *ℤ num ≡ den *ℤ p
value_same f p q num den h e k = mul_cancel h (eq_by (z+ (z* q (z_sub k)) (z* den (z_sub e)))
    (by-ring (f.top ∷ f.bottom ∷ p ∷ q ∷ num ∷ den ∷ []) (search quote depth 20) tt))

-- num over den is p over q, and n over D is the same
pub value-common : (q num den n D p : ℤ) → pos 0 <ᶻ den → q *ℤ num ≡ den *ℤ p → n *ℤ den ≡ D *ℤ num → q *ℤ n ≡ D *ℤ p
value-common q num den n D p h e k = mul_cancel h (eq_by (z+ (z* q (z_sub k)) (z* D (z_sub e))) (by-ring (q ∷ num ∷ den ∷ n ∷ D ∷ p ∷ []) (search quote depth 20) tt))
