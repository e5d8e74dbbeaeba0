-- The ranges of what the lengths are computed from, for at most 64 strains and distances of 0 to 50,000. The distances between two
-- sets are at most 50,000 for each pair of the two; so a top is at most 50,000 times its bottom, as a length is an average of
-- distances less other averages. A bottom is a product of sizes that are 64 together. Laws:
-- `between-nn`, `between_le`: the distances between two sets; `split-nn`, `split-le`: a split sum, at most 1,024 pairs of 50,000;
-- `outer-within`, `inner-within`: a top against its bottom; `outer-some`, `outer-small`, `outer-bound`, `inner-some`, `inner_bound`: a bottom.
use mathlib.Core.Path.{◌≡◌, sym, ◌∙◌, ap, subst}
use mathlib.Core.Bool.{Bool, true, false, cond}
use mathlib.Core.List.{[], ◌∷◌}
use Prim.Native.Nat.{ℕ, ◌≤◌, ◌<◌}
use native.Mathlib.Omega.{arith}
use lib.Dec.{ltb}
use lib.IntN.{ℤ, pos, ◌+ℤ◌, ◌-ℤ◌, ◌*ℤ◌}
use Rattle.exact.proofs.Quote.{by-ring, quote}
use Rattle.exact.specs.Order.{◌≤ᶻ◌, ◌<ᶻ◌, Within}
use Rattle.exact.proofs.Order.{nn+, nn*, nn-pos, nn-sq, nn_sub, le-by, ≤_trans, *-cancel, *-mono, <-is, pos-≤}
use Rattle.exact.specs.Sum.{sum, ind}
use Rattle.exact.proofs.Sum.{sum_cong, sum-*, sum-*ʳ, sum-nn, sum_mono, pairs-sums, S-mono, ind-nn}
use Rattle.verdict.specs.Table.{count}
use Rattle.tree_theory.specs.Chain.{below, parts_pair}
use Rattle.tree_theory.specs.Allowed.{Allowed}
use Rattle.tree_theory.proofs.Counts.{parted}
use Rattle.direct_theory.specs.Averages.{strains_below, neither, size, either, between}
use Rattle.direct_theory.specs.Children.{Resolved, child_of, sibling, farther}
use Rattle.direct_theory.specs.Splits.{split_at, outer_top, outer_bottom, inner_top, inner_bottom}
use Rattle.direct_theory.proofs.Children.{sibling-is, child₀, child₁}
use Rattle.direct_theory.proofs.Quartet.{star_of, edge_of, pos*, pos+}
use Rattle.direct_theory.proofs.Sizes.{cluster-some, neither-some, own-one, outer-all, inner-all}
use Rattle.direct_theory.proofs.BySplits.{outer-top, inner-top}

-- what is positive is not negative
lt-le : {z : ℤ} → pos 0 <ᶻ z → pos 0 ≤ᶻ z
lt-le {z} p = le-by (nn+ (nn_sub (<-is p)) (nn-pos 1)) (by-ring (z ∷ []) (search quote depth 20) tt)

-- ---- bottoms
-- 4ab where a and b are at most 64 together
four_bound : (a b : ℤ) → pos 0 ≤ᶻ a → pos 0 ≤ᶻ b → a +ℤ b ≤ᶻ pos 64 → outer_bottom a b ≤ᶻ pos 4096
four_bound a b ha hb h = le-by (nn+ (nn* (nn_sub h) (nn+ (nn-pos 64) (nn+ ha hb))) (nn-sq (a -ℤ b))) (by-ring (a ∷ b ∷ []) (search quote depth 40) tt)

-- 4abcd(a + b)(c + d) where the four are at most 64 together: with M = (a + b)(c + d), 16abcd is at most M² and M at most 1,024
eight_bound : (a b c d : ℤ) → pos 0 ≤ᶻ a → pos 0 ≤ᶻ b → pos 0 ≤ᶻ c → pos 0 ≤ᶻ d → a +ℤ b +ℤ (c +ℤ d) ≤ᶻ pos 64 → inner_bottom a b c d ≤ᶻ pos 268435456
eight_bound a b c d ha hb hc hd h = *-cancel {c = pos 4} (record { lt = tt }) (≤_trans {b = M *ℤ M *ℤ M}
    (le-by (nn* h_m four) (by-ring (a ∷ b ∷ c ∷ d ∷ []) (search quote depth 60 fits 9000) tt))
    (cube M h_m m≤))
  where
    M : ℤ
    M = (a +ℤ b) *ℤ (c +ℤ d)

    h_m : pos 0 ≤ᶻ M
    h_m = nn* (nn+ ha hb) (nn+ hc hd)

    -- M² - 16abcd
    four : pos 0 ≤ᶻ (a -ℤ b) *ℤ (a -ℤ b) *ℤ ((c +ℤ d) *ℤ (c +ℤ d)) +ℤ pos 4 *ℤ (a *ℤ b) *ℤ ((c -ℤ d) *ℤ (c -ℤ d))
    four = nn+ (nn* (nn-sq (a -ℤ b)) (nn-sq (c +ℤ d))) (nn* (nn* (nn-pos 4) (nn* ha hb)) (nn-sq (c -ℤ d)))

    m≤ : M ≤ᶻ pos 1024
    m≤ = *-cancel {c = pos 4} (record { lt = tt }) (four_bound (a +ℤ b) (c +ℤ d) (nn+ ha hb) (nn+ hc hd) h)

    cube : (m : ℤ) → pos 0 ≤ᶻ m → m ≤ᶻ pos 1024 → m *ℤ m *ℤ m ≤ᶻ pos 1073741824
    cube m p q = le-by (nn* (nn_sub q) (nn+ (nn+ (nn-pos 1048576) (nn* (nn-pos 1024) p)) (nn-sq m))) (by-ring (m ∷ []) (search quote depth 20) tt)

-- ---- tops against bottoms: m is the greatest distance
star-within : (m i a b p q r : ℤ) → i ≡ pos 1 → pos 0 ≤ᶻ m → pos 0 ≤ᶻ a → pos 0 ≤ᶻ b → pos 0 ≤ᶻ p → pos 0 ≤ᶻ q → pos 0 ≤ᶻ r
    → p ≤ᶻ m *ℤ (i *ℤ a) → q ≤ᶻ m *ℤ (i *ℤ b) → r ≤ᶻ m *ℤ (a *ℤ b) → Within (m *ℤ outer_bottom a b) (pos 2 *ℤ star_of (pos 1) a b p q r)
star-within m i a b p q r e hm ha hb hp hq hr kp kq kr = record {
  low = le-by (nn* (nn-pos 2) (nn+ (nn+ (nn* hb hp) (nn* ha hq)) (nn+ (nn_sub kr) (nn* hm (nn* ha hb))))) (by-ring (m ∷ a ∷ b ∷ p ∷ q ∷ r ∷ []) (search quote depth 60 fits 9000) tt);
  high = le-by (nn* (nn-pos 2) (nn+ (nn+ (nn* hb (nn_sub (rw e at kp))) (nn* ha (nn_sub (rw e at kq)))) hr)) (by-ring (m ∷ a ∷ b ∷ p ∷ q ∷ r ∷ []) (search quote depth 60 fits 9000) tt);
}

edge-within : (m a b c d ab ac ad bc bd cd : ℤ) → pos 0 ≤ᶻ a → pos 0 ≤ᶻ b → pos 0 ≤ᶻ c → pos 0 ≤ᶻ d
    → pos 0 ≤ᶻ ab → pos 0 ≤ᶻ ac → pos 0 ≤ᶻ ad → pos 0 ≤ᶻ bc → pos 0 ≤ᶻ bd → pos 0 ≤ᶻ cd
    → ab ≤ᶻ m *ℤ (a *ℤ b) → ac ≤ᶻ m *ℤ (a *ℤ c) → ad ≤ᶻ m *ℤ (a *ℤ d) → bc ≤ᶻ m *ℤ (b *ℤ c) → bd ≤ᶻ m *ℤ (b *ℤ d) → cd ≤ᶻ m *ℤ (c *ℤ d)
    → Within (m *ℤ inner_bottom a b c d) (pos 2 *ℤ edge_of a b c d ab ac ad bc bd cd)
edge-within m a b c d ab ac ad bc bd cd ha hb hc hd hab hac had hbc hbd hcd kab kac kad kbc kbd kcd = record {
  low = le-by
      (nn* (nn-pos 2) (nn+ (nn+
      (nn* w_l (nn+ (nn* (nn* hb hd) hac) (nn* (nn* ha hc) hbd)))
      (nn* w_r (nn+ (nn* (nn* hb hc) had) (nn* (nn* ha hd) hbc))))
      (nn* w_g (nn+ (nn* (nn* hc hd) (nn_sub kab)) (nn* (nn* ha hb) (nn_sub kcd))))))
      (by-ring (m ∷ a ∷ b ∷ c ∷ d ∷ ab ∷ ac ∷ ad ∷ bc ∷ bd ∷ cd ∷ []) (search quote depth 60 fits 9000) tt);
  high = le-by
      (nn* (nn-pos 2) (nn+ (nn+
      (nn* w_l (nn+ (nn* (nn* hb hd) (nn_sub kac)) (nn* (nn* ha hc) (nn_sub kbd))))
      (nn* w_r (nn+ (nn* (nn* hb hc) (nn_sub kad)) (nn* (nn* ha hd) (nn_sub kbc)))))
      (nn* w_g (nn+ (nn* (nn* hc hd) hab) (nn* (nn* ha hb) hcd)))))
      (by-ring (m ∷ a ∷ b ∷ c ∷ d ∷ ab ∷ ac ∷ ad ∷ bc ∷ bd ∷ cd ∷ []) (search quote depth 60 fits 9000) tt);
}
  where
    w_l : pos 0 ≤ᶻ a *ℤ d +ℤ b *ℤ c
    w_l = nn+ (nn* ha hd) (nn* hb hc)

    w_r : pos 0 ≤ᶻ a *ℤ c +ℤ b *ℤ d
    w_r = nn+ (nn* ha hc) (nn* hb hd)

    w_g : pos 0 ≤ᶻ (a +ℤ b) *ℤ (c +ℤ d)
    w_g = nn* (nn+ ha hb) (nn+ hc hd)

-- ---- sums of distances
module _ (N : ℕ) (d : ℕ × ℕ → ℤ) (range : (p : ℕ × ℕ) → (pos 0 ≤ᶻ d p) × (d p ≤ᶻ pos 50000)) where
  either-range : (i j : ℕ) → (pos 0 ≤ᶻ either d i j) × (either d i j ≤ᶻ pos 50000)
  either-range i j = go (ltb i j)
    where
      go : (b : Bool) → (pos 0 ≤ᶻ cond b (d (i, j)) (d (j, i))) × (cond b (d (i, j)) (d (j, i)) ≤ᶻ pos 50000)
      go true = range (i, j)
      go false = range (j, i)

  -- the distances between two sets are not negative
  pub between-nn : (A B : ℕ → Bool) → pos 0 ≤ᶻ between N d A B
  unfolding between
  between-nn A B = sum-nn N (λ i. sum N (λ j. ind (A i) *ℤ ind (B j) *ℤ either d i j))
      (λ i l. sum-nn N (λ j. ind (A i) *ℤ ind (B j) *ℤ either d i j) (λ j k. nn* (nn* (ind-nn (A i)) (ind-nn (B j))) (either-range i j).0))

  -- and at most 50,000 for each pair of the two
  pub between_le : (A B : ℕ → Bool) → between N d A B ≤ᶻ pos 50000 *ℤ (size N A *ℤ size N B)
  unfolding between size
  between_le A B = subst (λ y. between N d A B ≤ᶻ y) all
      (sum_mono N (λ i. sum N (λ j. ind (A i) *ℤ ind (B j) *ℤ either d i j)) (λ i. sum N (λ j. ind (A i) *ℤ pos 50000 *ℤ ind (B j)))
      (λ i l. sum_mono N (λ j. ind (A i) *ℤ ind (B j) *ℤ either d i j) (λ j. ind (A i) *ℤ pos 50000 *ℤ ind (B j))
      (λ j k. le-by (nn* (nn* (ind-nn (A i)) (ind-nn (B j))) (nn_sub (either-range i j).1)) (by-ring (ind (A i) ∷ ind (B j) ∷ either d i j ∷ []) (search quote depth 20) tt))))
    where
      all : sum N (λ i. sum N (λ j. ind (A i) *ℤ pos 50000 *ℤ ind (B j))) ≡ pos 50000 *ℤ (sum N (λ i. ind (A i)) *ℤ sum N (λ j. ind (B j)))
      all = sum_cong N (λ i l. sum-* N (ind (A i) *ℤ pos 50000) (λ j. ind (B j)))
          ∙ sum_cong N (λ i l. by-ring (ind (A i) ∷ sum N (λ j. ind (B j)) ∷ []) (search quote depth 20) tt)
          ∙ sum-* N (pos 50000) (λ i. ind (A i) *ℤ sum N (λ j. ind (B j))) ∙ ap (λ y. pos 50000 *ℤ y) (sum-*ʳ N (sum N (λ j. ind (B j))) (λ i. ind (A i)))

  -- a split sum is not negative
  pub split-nn : (par : ℕ → ℕ) (v : ℕ) → pos 0 ≤ᶻ split_at N par d v
  split-nn par v = (pairs-sums N).nn (λ p. ind (parts_pair par v p) *ℤ d p) (λ p. nn* (ind-nn (parts_pair par v p)) (range p).0)

  -- and at most 50,000 for each of the 1,024 pairs or fewer that an edge parts
  pub split-le : N ≤ 64 → (par : ℕ → ℕ) (v : ℕ) → split_at N par d v ≤ᶻ pos 51200000
  split-le small par v = ≤_trans (S-mono (pairs-sums N) (λ p. ind (parts_pair par v p) *ℤ d p) (λ p. pos 50000 *ℤ ind (parts_pair par v p))
      (λ p. le-by (nn* (ind-nn (parts_pair par v p)) (nn_sub (range p).1)) (by-ring (ind (parts_pair par v p) ∷ d p ∷ []) (search quote depth 20) tt)))
      (subst (λ y. y ≤ᶻ pos 51200000) (sym ((pairs-sums N).scale (pos 50000) (λ p. ind (parts_pair par v p)) ∙ ap (λ y. pos 50000 *ℤ y) (parted par N v)))
      (*-mono {c = pos 50000} (nn-pos 50000) (most (pos (count N (λ i. below par i v))) (pos N) (nn-pos N) (pos-≤ small))))
    where
      -- s(N - s) is at most 1,024
      most : (s n : ℤ) → pos 0 ≤ᶻ n → n ≤ᶻ pos 64 → s *ℤ (n -ℤ s) ≤ᶻ pos 1024
      most s n h k = *-cancel {c = pos 4} (record { lt = tt })
          (le-by (nn+ (nn* (nn_sub k) (nn+ (nn-pos 64) h)) (nn-sq (n -ℤ pos 2 *ℤ s))) (by-ring (s ∷ n ∷ []) (search quote depth 20) tt))

-- ---- the edges of a resolved tree
module _ (N K : ℕ) (par : ℕ → ℕ) (ok : Allowed N K par) (res : Resolved N K par) where
  some-sibling : (c : ℕ) → c < K → pos 0 <ᶻ size N (strains_below par (sibling K par c))
  some-sibling c l = cluster-some N K par ok res (sibling K par c) (omega (arith, (sibling-is N K par ok res c l).edge))

  some_first : (c : ℕ) → N ≤ c → c < K → pos 0 <ᶻ size N (strains_below par (child_of K par c 0))
  some_first c h l = cluster-some N K par ok res (child_of K par c 0) (omega (arith, (child₀ N K par ok res c h (omega arith)).edge))

  some-second : (c : ℕ) → N ≤ c → c < K → pos 0 <ᶻ size N (strains_below par (child_of K par c 1))
  some-second c h l = cluster-some N K par ok res (child_of K par c 1) (omega (arith, (child₁ N K par ok res c h (omega arith)).edge))

  -- an outer edge's bottom is positive, and at most 4,096
  pub outer-some : (c : ℕ) → c < K → pos 0 <ᶻ outer_bottom (size N (strains_below par (sibling K par c))) (size N (neither par c (sibling K par c)))
  outer-some c l = pos* {a = pos 4} (record { lt = tt }) (pos* (some-sibling c l) (neither-some N K par ok res c l))

  pub outer-small : (c : ℕ) → c < N → outer_bottom (size N (strains_below par (sibling K par c))) (size N (neither par c (sibling K par c))) ≤ᶻ pos 4096
  outer-small c k = let l : c < K = omega (arith, ok.edges) in let a = size N (strains_below par (sibling K par c)) in let b = size N (neither par c (sibling K par c)) in
      four_bound a b (lt-le (some-sibling c l)) (lt-le (neither-some N K par ok res c l))
      (≤_trans {b = pos 1 +ℤ a +ℤ b} (le-by (nn-pos 1) (by-ring (a ∷ b ∷ []) (search quote depth 20) tt)) (subst (λ y. y ≤ᶻ pos 64) (sym (outer-all N K par ok res c k)) (pos-≤ ok.few)))

  -- so at most what an inner edge's is
  pub outer-bound : (c : ℕ) → c < N → outer_bottom (size N (strains_below par (sibling K par c))) (size N (neither par c (sibling K par c))) ≤ᶻ pos 268435456
  outer-bound c k = ≤_trans (outer-small c k) (record { le = tt })

  -- an inner edge's bottom is positive, and at most 2²⁸
  pub inner-some : (c : ℕ) → N ≤ c → c < K → pos 0 <ᶻ inner_bottom (size N (strains_below par (child_of K par c 0))) (size N (strains_below par (child_of K par c 1)))
      (size N (strains_below par (sibling K par c))) (size N (neither par c (sibling K par c)))
  inner-some c h l = pos* (pos* {a = pos 4} (record { lt = tt }) (pos* (pos* (some_first c h l) (some-second c h l)) (pos* (some-sibling c l) (neither-some N K par ok res c l))))
      (pos* (pos+ (some_first c h l) (some-second c h l)) (pos+ (some-sibling c l) (neither-some N K par ok res c l)))

  pub inner_bound : (c : ℕ) → N ≤ c → c < K → inner_bottom (size N (strains_below par (child_of K par c 0))) (size N (strains_below par (child_of K par c 1)))
      (size N (strains_below par (sibling K par c))) (size N (neither par c (sibling K par c))) ≤ᶻ pos 268435456
  inner_bound c h l = eight_bound (size N (strains_below par (child_of K par c 0))) (size N (strains_below par (child_of K par c 1))) (size N (strains_below par (sibling K par c))) (size N (neither par c (sibling K par c)))
      (lt-le (some_first c h l)) (lt-le (some-second c h l)) (lt-le (some-sibling c l)) (lt-le (neither-some N K par ok res c l))
      (subst (λ y. y ≤ᶻ pos 64) (sym (inner-all N K par ok res c h l)) (pos-≤ ok.few))

  module _ (d : ℕ × ℕ → ℤ) (range : (p : ℕ × ℕ) → (pos 0 ≤ᶻ d p) × (d p ≤ᶻ pos 50000)) where
    -- a top is within 50,000 times its bottom
    pub outer-within : (c : ℕ) → c < N → Within (pos 50000 *ℤ outer_bottom (size N (strains_below par (sibling K par c))) (size N (neither par c (sibling K par c))))
        (outer_top (size N (strains_below par (sibling K par c))) (size N (neither par c (sibling K par c))) (split_at N par d c) (split_at N par d (sibling K par c)) (split_at N par d (farther K par c)))
    outer-within c k = let l : c < K = omega (arith, ok.edges) in
        let I = strains_below par c in let A = strains_below par (sibling K par c) in let B = neither par c (sibling K par c) in
        rw (outer-top N K par ok res d c k) (star-within (pos 50000) (size N I) (size N A) (size N B) (between N d I A) (between N d I B) (between N d A B)
        (own-one N K par ok res c k) (nn-pos 50000) (lt-le (some-sibling c l)) (lt-le (neither-some N K par ok res c l))
        (between-nn N d range I A) (between-nn N d range I B) (between-nn N d range A B)
        (between_le N d range I A) (between_le N d range I B) (between_le N d range A B))

    pub inner-within : (c : ℕ) → N ≤ c → c < K
        → Within
        (pos 50000 *ℤ inner_bottom (size N (strains_below par (child_of K par c 0))) (size N (strains_below par (child_of K par c 1))) (size N (strains_below par (sibling K par c))) (size N (neither par c (sibling K par c))))
        (inner_top (size N (strains_below par (child_of K par c 0))) (size N (strains_below par (child_of K par c 1))) (size N (strains_below par (sibling K par c))) (size N (neither par c (sibling K par c)))
        (split_at N par d c) (split_at N par d (child_of K par c 0)) (split_at N par d (child_of K par c 1)) (split_at N par d (sibling K par c)) (split_at N par d (farther K par c)))
    inner-within c h l =
        let A = strains_below par (child_of K par c 0) in let B = strains_below par (child_of K par c 1) in let C = strains_below par (sibling K par c) in let E = neither par c (sibling K par c) in
        rw (inner-top N K par ok res d c h l) (edge-within (pos 50000) (size N A) (size N B) (size N C) (size N E)
        (between N d A B) (between N d A C) (between N d A E) (between N d B C) (between N d B E) (between N d C E)
        (lt-le (some_first c h l)) (lt-le (some-second c h l)) (lt-le (some-sibling c l)) (lt-le (neither-some N K par ok res c l))
        (between-nn N d range A B) (between-nn N d range A C) (between-nn N d range A E) (between-nn N d range B C) (between-nn N d range B E) (between-nn N d range C E)
        (between_le N d range A B) (between_le N d range A C) (between_le N d range A E) (between_le N d range B C) (between_le N d range B E) (between_le N d range C E))
