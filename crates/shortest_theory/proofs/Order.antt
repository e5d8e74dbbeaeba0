-- Fractions with positive denominators compared by their cross products: if a/d is less than b/e and b/e is at most c/f, then a/d is less
-- than c/f.
use mathlib.Core.Path.{refl}
use mathlib.Core.List.{List, [], ◌∷◌}
use mathlib.Core.Logic.{◌⊎◌, inl, inr}
use Prim.Native.Nat.{ℕ}
use lib.IntN.{ℤ, pos, ◌*ℤ◌}
use lib.Signed.{clash_ℤ}
use Rattle.exact.specs.Order.{◌≤ᶻ◌, ◌<ᶻ◌}
use Rattle.exact.proofs.Order.{nn+, nn-pos, nn_sub, le-by, pos-≤, ≤_trans, ≤-of-≡, *-mono, *-cancel, <-is, is-<, total}
use Rattle.exact.proofs.Quote.{by-ring, quote}
use Rattle.verdict.specs.declared.Rule.TheVariants.{Plain}
use Rattle.fit_theory.specs.Quantities.{tree_length}
use Rattle.reading.specs.Holds.{denominator_of, numerators_of}
use Rattle.sheet.proofs.Laws.{sheet-stands}
use Rattle.shortest_theory.specs.Promises.{Accepted, AtMost, Less}

weaker : {a b : ℤ} → a <ᶻ b → a ≤ᶻ b
weaker {a} {b} h = le-by (nn+ (nn_sub (<-is h)) (nn-pos 1)) (by-ring (a ∷ b ∷ []) (search quote depth 20) tt)

-- were c/f at most a/d, then b/e would be too
cross_trans : (a b c d e f : ℤ) → pos 0 ≤ᶻ d → pos 0 ≤ᶻ e → pos 0 <ᶻ f → a *ℤ e <ᶻ b *ℤ d → b *ℤ f ≤ᶻ c *ℤ e → a *ℤ f <ᶻ c *ℤ d
cross_trans a b c d e f p q r less most = go (total (c *ℤ d) (a *ℤ f))
  where
    go : (c *ℤ d ≤ᶻ a *ℤ f) ⊎ (a *ℤ f <ᶻ c *ℤ d) → a *ℤ f <ᶻ c *ℤ d
    go (inr k) = k
    go (inl k) = clash_ℤ less (*-cancel r
        (≤_trans (≤-of-≡ (by-ring (b ∷ d ∷ f ∷ []) (search quote depth 20) tt))
        (≤_trans (*-mono {c = d} {a = b *ℤ f} {b = c *ℤ e} p most)
        (≤_trans (≤-of-≡ (by-ring (c ∷ d ∷ e ∷ []) (search quote depth 20) tt))
        (≤_trans (*-mono {c = e} {a = c *ℤ d} {b = a *ℤ f} q k)
        (≤-of-≡ (by-ring (a ∷ e ∷ f ∷ []) (search quote depth 20) tt)))))))

-- ---- of sheets
pub positive : (s : List ℕ) → Accepted s → pos 0 <ᶻ pos (denominator_of s)
positive s z = is-< (pos-≤ {m = 1} {n = denominator_of s} (sheet-stands s Plain z).lengths.one)

pub less-most : (s t : List ℕ) → Less s t → AtMost s t
less-most s t = weaker

pub self_most : (s : List ℕ) → AtMost s s
self_most s = ≤-of-≡ refl

pub less_trans : (s t u : List ℕ) → Accepted s → Accepted t → Accepted u → Less s t → AtMost t u → Less s u
less_trans s t u x y z = cross_trans (tree_length (numerators_of s)) (tree_length (numerators_of t)) (tree_length (numerators_of u))
    (pos (denominator_of s)) (pos (denominator_of t)) (pos (denominator_of u)) (weaker (positive s x)) (weaker (positive t y)) (positive u z)
