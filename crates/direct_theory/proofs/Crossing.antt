-- Sums over the pairs that an edge parts are sums between the two sides of the edge: each such pair once, from the strain below
-- the edge to the strain that is not. Laws:
-- `either-sym`: a distance is the same both ways; `pairs-cross`: the pairs of which one is in a set and one is not;
-- `split-cross`: a split sum is the distances between an edge's two sides; `cross-three`: and where those beyond are two sets.
use mathlib.Core.Path.{◌≡◌, refl, sym, ◌∙◌, ap, ap₂}
use mathlib.Core.List.{[], ◌∷◌}
use Prim.Native.Nat.{ℕ, zero, suc, ◌<◌}
use native.Mathlib.Decide.{dec_lt}
use native.Mathlib.Omega.{arith}
use borrow.Author.Tests.{lt-ltb, le-ltb}
use lib.IntN.{ℤ, pos, ◌+ℤ◌, ◌-ℤ◌, ◌*ℤ◌}
use Rattle.exact.proofs.Quote.{by-ring, quote, eq_by, z_sub, z*}
use Rattle.exact.proofs.Decide.{by_cases}
use Rattle.exact.specs.Sum.{sum, pairs}
use Rattle.exact.proofs.Sum.{sum_cong, sum-+, pairs_cong, ind-sq}
use Rattle.tree_theory.specs.Chain.{below}
use Rattle.tree_theory.proofs.Chains.{bit, parts-ind}
use Rattle.direct_theory.specs.Averages.{either}
use Rattle.direct_theory.specs.Splits.{split_at}
use Rattle.direct_theory.proofs.Star.{Same, link, link_cong, link-∪ʳ}

-- a sum that is the same both ways, over the pairs that b parts
pub pairs-cross : (n : ℕ) (b : ℕ → ℤ) (F : ℕ → ℕ → ℤ) → ((i : ℕ) → b i *ℤ b i ≡ b i) → ((i j : ℕ) → F i j ≡ F j i)
    → pairs n (λ p. (b p.0 +ℤ b p.1 -ℤ pos 2 *ℤ (b p.0 *ℤ b p.1)) *ℤ F p.0 p.1) ≡ link n F b (λ j. pos 1 -ℤ b j)
unfolding pairs sum link
pairs-cross zero b F h s = refl
pairs-cross (suc n) b F h s =
    ap₂ ◌+ℤ◌ (pairs-cross n b F h s)
    (sum_cong n (λ i l. by-ring (b i ∷ b n ∷ F i n ∷ []) (search quote depth 20) tt
    ∙ ap (λ y. b i *ℤ (pos 1 -ℤ b n) *ℤ F i n +ℤ b n *ℤ (pos 1 -ℤ b i) *ℤ y) (s i n))
    ∙ sum-+ n (λ i. b i *ℤ (pos 1 -ℤ b n) *ℤ F i n) (λ i. b n *ℤ (pos 1 -ℤ b i) *ℤ F n i))
    ∙ last (b n) (F n n) (link n F b (λ j. pos 1 -ℤ b j)) (sum n (λ i. b i *ℤ (pos 1 -ℤ b n) *ℤ F i n)) (sum n (λ i. b n *ℤ (pos 1 -ℤ b i) *ℤ F n i)) (h n)
    ∙ ap (λ y. y +ℤ (sum n (λ i. b n *ℤ (pos 1 -ℤ b i) *ℤ F n i) +ℤ b n *ℤ (pos 1 -ℤ b n) *ℤ F n n))
    (sym (sum-+ n (λ i. sum n (λ j. b i *ℤ (pos 1 -ℤ b j) *ℤ F i j)) (λ i. b i *ℤ (pos 1 -ℤ b n) *ℤ F i n)))
  where
    last : (b f l p q : ℤ) → b *ℤ b ≡ b → l +ℤ (p +ℤ q) ≡ l +ℤ p +ℤ (q +ℤ b *ℤ (pos 1 -ℤ b) *ℤ f)
    last b f l p q e = eq_by (z* f (z_sub e)) (by-ring (b ∷ f ∷ l ∷ p ∷ q ∷ []) (search quote depth 20) tt)

-- the distance at a pair i < j
pub either_lt : (d : ℕ × ℕ → ℤ) (p : ℕ × ℕ) → p.0 < p.1 → either d p.0 p.1 ≡ d p
either_lt d p h = rw (lt-ltb p.0 p.1 h)

-- a distance is the same both ways
pub either-sym : (d : ℕ × ℕ → ℤ) (i j : ℕ) → either d i j ≡ either d j i
either-sym d i j = by_cases (dec_lt i j)
    (λ l. rw (lt-ltb i j l, le-ltb j i (omega arith)))
    (λ l. by_cases (dec_lt j i)
    (λ k. rw (lt-ltb j i k, le-ltb i j (omega arith)))
    (λ k. let q : i ≡ j = omega arith in rw q))

module _ (N : ℕ) (par : ℕ → ℕ) (d : ℕ × ℕ → ℤ) where
  -- a split sum is the distances between the two sides of its edge
  pub split-cross : (v : ℕ) → split_at N par d v ≡ link N (either d) (bit par v) (λ j. pos 1 -ℤ bit par v j)
  split-cross v = pairs_cong N (λ p h k. ap₂ ◌*ℤ◌ (parts-ind par v p.0 p.1) (sym (either_lt d p h)))
      ∙ pairs-cross N (bit par v) (either d) (λ i. ind-sq (below par i v)) (either-sym d)

-- three sets that are all the strains: the distances between one and what it is not are those to the other two
module _ (N : ℕ) (e : ℕ → ℕ → ℤ) (e-sym : (i j : ℕ) → e i j ≡ e j i) (X Y Z : ℕ → ℤ) where
  pub cross-three : Same N (λ i. pos 1 -ℤ X i) (λ i. Y i +ℤ Z i) → link N e X (λ i. pos 1 -ℤ X i) ≡ link N e X Y +ℤ link N e X Z
  cross-three h = link_cong N e X X (λ i. pos 1 -ℤ X i) (λ i. Y i +ℤ Z i) (λ i l. refl) h ∙ link-∪ʳ N e e-sym X Y Z
