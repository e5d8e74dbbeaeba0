-- Running sums: of products modulo 2^64, and of squares.
use Rattle.std.proofs.Common.{◌≡◌, ℕ, ◌+◌, ◌*◌, ◌^◌, ◌<◌, ◌≤◌, List, [], ◌∷◌, length, get_or, ℤ, pos, ◌+ℤ◌, ◌*ℤ◌, nat_abs, sym, refl, ap, ◌∙◌, subst, ap₂, mul-le-mul, add-one, arith}
use Rattle.exact.specs.Sum.{sum}
use Rattle.exact.specs.Table.{entry_of}
use Rattle.exact.specs.Modulo.{Modulo}
use Rattle.exact.proofs.Modular.{modulo_self, modulo_chain}
use Rattle.exact.proofs.Quote.{by-ring, quote}
use Rattle.exact.proofs.Sum.{sum-0, sum-suc}
use Rattle.matrix.specs.Limits.{max_distance}
use Rattle.edge_numbers.specs.Squares.{square_at, largest_square}

-- ---- products
abbrev pub weighted_to : List ℤ → List ℤ → ℕ → ℤ
weighted_to x y v = sum v (λ u. entry_of x u *ℤ entry_of y u)

pub weights_none : (acc : ℕ) (x y : List ℤ) → Modulo acc (pos acc +ℤ weighted_to x y 0)
weights_none acc x y = subst (Modulo acc) (plain (pos acc) ∙ ap (λ z. pos acc +ℤ z) (sym (sum-0 (λ u. entry_of x u *ℤ entry_of y u)))) (modulo_self acc)
  where
    plain : (z : ℤ) → z ≡ z +ℤ pos 0
    plain z = by-ring (z ∷ []) (search quote depth 20) tt

pub weights_more : (acc held r v : ℕ) (x y : List ℤ) (a b : ℤ) → a ≡ entry_of x v → b ≡ entry_of y v → Modulo held (pos acc +ℤ weighted_to x y v)
    → Modulo r (pos held +ℤ a *ℤ b) → Modulo r (pos acc +ℤ weighted_to x y (v + 1))
weights_more acc held r v x y a b e f h g = subst (Modulo r)
    (ap (λ z. pos acc +ℤ weighted_to x y v +ℤ z) (ap₂ ◌*ℤ◌ e f) ∙ apart (pos acc) (weighted_to x y v) (entry_of x v *ℤ entry_of y v)
    ∙ ap (λ z. pos acc +ℤ z) (sym (sum-suc v (λ u. entry_of x u *ℤ entry_of y u)) ∙ ap (λ (k : ℕ). weighted_to x y k) (sym (add-one v))))
    (modulo_chain (a *ℤ b) h g)
  where
    apart : (p q t : ℤ) → p +ℤ q +ℤ t ≡ p +ℤ (q +ℤ t)
    apart p q t = by-ring (p ∷ q ∷ t ∷ []) (search quote depth 20) tt

-- ---- squares, each at most that of the greatest distance
pub square-low : (x : ℕ) → x ≤ max_distance → x * x ≤ largest_square
square-low x h = mul-le-mul {n₁ = x} {m₁ = x} {n₂ = max_distance} {m₂ = max_distance} h h

pub record Squaring (ds : List ℕ) (count sumSoFar k : ℕ) : Type 0 where
  pub here : k ≤ count
  pub low : sumSoFar ≤ k * largest_square
  pub is : pos sumSoFar ≡ sum k (square_at ds)

pub squaring_none : (ds : List ℕ) (count : ℕ) → Squaring ds count 0 0
squaring_none ds count = record { here = omega arith; low = omega arith; is = sym (sum-0 (square_at ds)) }

pub squaring_more : (ds : List ℕ) (count s k : ℕ) → get_or ds k 0 ≤ max_distance → k < count → Squaring ds count s k → Squaring ds count (s + get_or ds k 0 * get_or ds k 0) (k + 1)
squaring_more ds count s k near l t = record {
  here = omega arith;
  low = omega (arith, t.low, square-low (get_or ds k 0) near);
  is = ap (λ z. z +ℤ square_at ds k) t.is ∙ sym (sum-suc k (square_at ds)) ∙ ap (λ (n : ℕ). sum n (square_at ds)) (sym (add-one k));
}
