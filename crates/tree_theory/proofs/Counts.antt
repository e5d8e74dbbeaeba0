-- How many pairs an edge parts. Laws:
-- `sum-count`: adding a test as 0 and 1 counts it; `parted`: an edge with s strains below it parts s(N - s) pairs.
use mathlib.Core.Path.{◌≡◌, refl, ◌∙◌, ap, ap₂}
use mathlib.Core.Bool.{Bool, true, false, cond}
use mathlib.Core.List.{[], ◌∷◌}
use Prim.Native.Nat.{ℕ, zero, suc}
use lib.IntN.{ℤ, pos, ◌+ℤ◌, ◌-ℤ◌, ◌*ℤ◌, +ℤ_one}
use Rattle.exact.proofs.Quote.{by-ring, quote, eq_by, z_sub}
use Rattle.exact.specs.Sum.{sum, pairs, ind}
use Rattle.exact.proofs.Sum.{sum_cong, sum-+, sum-*, sum_const, pairs_cong, ind-sq}
use Rattle.verdict.specs.Table.{count}
use Rattle.tree_theory.specs.Chain.{below, parts_pair}
use Rattle.tree_theory.proofs.Chains.{bit, parts-ind}

-- from a sum to a count
pub sum-count : (n : ℕ) (b : ℕ → Bool) → sum n (λ i. ind (b i)) ≡ pos (count n b)
unfolding sum count
sum-count zero b = refl
sum-count (suc n) b = ap₂ ◌+ℤ◌ (sum-count n b) (at (b n))
  where
    at : (c : Bool) → ind c ≡ pos (cond c 1 0)
    at true = unfold ind in refl
    at false = unfold ind in refl

-- one more strain, whose bit is b: z stands for the strains before it, s for those of them that are below
cross-step : (s z b : ℤ) → b *ℤ b ≡ b → s *ℤ (z -ℤ s) +ℤ (z *ℤ b +ℤ (pos 1 -ℤ pos 2 *ℤ b) *ℤ s) ≡ (s +ℤ b) *ℤ (z +ℤ pos 1 -ℤ (s +ℤ b))
cross-step s z b h = eq_by (z_sub h) (by-ring (s ∷ z ∷ b ∷ []) (search quote depth 20) tt)

-- the pairs of which one has its bit set and one has not
crossing : (n : ℕ) (b : ℕ → ℤ) → ((i : ℕ) → b i *ℤ b i ≡ b i)
    → pairs n (λ p. b p.0 +ℤ b p.1 -ℤ pos 2 *ℤ (b p.0 *ℤ b p.1)) ≡ sum n b *ℤ (pos n -ℤ sum n b)
unfolding pairs sum
crossing zero b h = refl
crossing (suc n) b h =
    ap₂ ◌+ℤ◌ (crossing n b h)
    (sum_cong n (λ i l. by-ring (b i ∷ b n ∷ []) (search quote depth 20) tt) ∙ sum-+ n (λ i. b n) (λ i. (pos 1 -ℤ pos 2 *ℤ b n) *ℤ b i)
    ∙ ap₂ ◌+ℤ◌ (sum_const n (b n)) (sum-* n (pos 1 -ℤ pos 2 *ℤ b n) b))
    ∙ cross-step (sum n b) (pos n) (b n) (h n)
    ∙ ap (λ y. (sum n b +ℤ b n) *ℤ (y -ℤ (sum n b +ℤ b n))) (+ℤ_one (pos n))

-- the weight of an edge: its s strains against the N - s others
pub parted : (par : ℕ → ℕ) (N v : ℕ) → pairs N (λ p. ind (parts_pair par v p)) ≡ pos (count N (λ i. below par i v)) *ℤ (pos N -ℤ pos (count N (λ i. below par i v)))
parted par N v = pairs_cong N (λ p l k. parts-ind par v p.0 p.1) ∙ crossing N (bit par v) (λ i. ind-sq (below par i v))
    ∙ ap (λ y. y *ℤ (pos N -ℤ y)) (sum-count N (λ i. below par i v))
