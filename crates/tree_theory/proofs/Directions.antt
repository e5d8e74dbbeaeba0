-- Three strains in three directions at a vertex, and the paths that go through it. Edge v parts a and b as often as it parts a
-- and w and w and b together wherever one of a and b stands on w's side of v: so a path is the two paths to a vertex on it. Laws:
-- `between`: the path by way of w; `through`: by way of c's parent, from what is below c to what is not;
-- `onward`: one edge further up; `edge-alone`: the path over one edge is its length;
-- `spread`: beside what is below c, a strain below another child of c's parent and a strain below neither.
use mathlib.Core.Path.{◌≡◌, refl, sym, ◌∙◌, ap, ap₂, subst}
use mathlib.Core.List.{[], ◌∷◌}
use mathlib.Core.Logic.{◌⊎◌, inl, inr}
use Prim.Native.Nat.{ℕ, ◌≤◌, ◌<◌}
use native.Mathlib.Decide.{ℕ_discrete}
use native.Mathlib.Omega.{arith}
use lib.IntN.{ℤ, pos, negsuc, ◌+ℤ◌, ◌-ℤ◌, ◌*ℤ◌, +ℤ_idl, +ℤ_idr, zero-*ℤ}
use Rattle.exact.proofs.Ring.{*ℤ-distribʳ}
use Rattle.exact.proofs.Quote.{by-ring, quote, eq_by, z_sub, z+, z*}
use Rattle.exact.proofs.Decide.{by_cases, eq_no}
use Rattle.exact.specs.Sum.{ind}
use Rattle.exact.proofs.Sum.{sum_cong, sum-+, ind-sq, ind-no}
use Rattle.exact.specs.LeastSquares.{path}
use Rattle.tree_theory.specs.Chain.{below, parts}
use Rattle.tree_theory.specs.Allowed.{Allowed}
use Rattle.tree_theory.proofs.Chains.{Below, Up, bit, along, parts-ind, along_self, along-climb, above, above-par, below?, below-yes, below-no, below_self, below_trans, below_up, laminar}
use Rattle.tree_theory.proofs.Strains.{siblings, another, leaf, third-way}

-- ---- paths by way of a vertex
-- v has a or b on w's side
abbrev pub Beside : (ℕ → ℕ) → ℕ → ℕ → ℕ → ℕ → Type 0
Beside par v a b w = (bit par v a ≡ bit par v w) ⊎ (bit par v b ≡ bit par v w)

-- one edge, as 0 and 1: x and y stand for the ends, z for the vertex between
by_way : (x y z : ℤ) → z *ℤ z ≡ z → (x -ℤ z) *ℤ (y -ℤ z) ≡ pos 0
    → x +ℤ y -ℤ pos 2 *ℤ (x *ℤ y) ≡ (x +ℤ z -ℤ pos 2 *ℤ (x *ℤ z)) +ℤ (z +ℤ y -ℤ pos 2 *ℤ (z *ℤ y))
by_way x y z e f = eq_by (z+ (z* (negsuc 1) f) (z* (pos 2) (z_sub e))) (by-ring (x ∷ y ∷ z ∷ []) (search quote depth 20) tt)

module _ (par : ℕ → ℕ) (K : ℕ) where
  -- the path from a to b by way of w, which no edge cuts off from both
  pub between : (x : ℕ → ℤ) (a b w : ℕ) → ((v : ℕ) → v < K → Beside par v a b w) → along par K x a b ≡ along par K x a w +ℤ along par K x w b
  unfolding path
  between x a b w h = sum_cong K (λ v l. ap (λ y. y *ℤ x v) (at v (h v l)) ∙ *ℤ-distribʳ (ind (parts par v a w)) (ind (parts par v w b)) (x v))
      ∙ sum-+ K (λ v. ind (parts par v a w) *ℤ x v) (λ v. ind (parts par v w b) *ℤ x v)
    where
      flat : (v : ℕ) → Beside par v a b w → (bit par v a -ℤ bit par v w) *ℤ (bit par v b -ℤ bit par v w) ≡ pos 0
      flat v (inl e) = ap (λ y. y *ℤ (bit par v b -ℤ bit par v w)) (z_sub e) ∙ zero-*ℤ (bit par v b -ℤ bit par v w)
      flat v (inr e) = z* (bit par v a -ℤ bit par v w) (z_sub e)

      at : (v : ℕ) → Beside par v a b w → ind (parts par v a b) ≡ ind (parts par v a w) +ℤ ind (parts par v w b)
      at v h = parts-ind par v a b ∙ by_way (bit par v a) (bit par v b) (bit par v w) (ind-sq (below par w v)) (flat v h)
          ∙ ap₂ ◌+ℤ◌ (sym (parts-ind par v a w)) (sym (parts-ind par v w b))

module _ (par : ℕ → ℕ) (K : ℕ) (up : Up par K) where
  -- two that are both below v, or both not, stand on one side of it
  both_in : (v a b : ℕ) → Below par a v → Below par b v → bit par v a ≡ bit par v b
  both_in v a b e f = ap ind (below-yes par a v e ∙ sym (below-yes par b v f))

  both_out : (v a b : ℕ) → (Below par a v → ⊥) → (Below par b v → ⊥) → bit par v a ≡ bit par v b
  both_out v a b e f = ap ind (below-no par a v e ∙ sym (below-no par b v f))

  -- from i below c to k that is not: by way of c's parent
  pub through : (x : ℕ → ℤ) (i k c : ℕ) → c < K → par c ≤ K → Below par i c → (Below par k c → ⊥)
      → along par K x i k ≡ along par K x i (par c) +ℤ along par K x (par c) k
  through x i k c hc hw e n = between par K x i k (par c) (λ v l. by_cases (below? par (par c) v)
      (λ f. inl (both_in v i (par c) (below_trans par K up i (par c) v (omega arith) (below_up par K up i c (par c) hc hw refl e) f) f))
      (λ f. by_cases (below? par i v)
      (λ g. inr (both_out v k (par c) (λ q. apart v l f q (laminar par K up i v c (omega arith) (omega arith) g e)) f))
      (λ g. inl (both_out v i (par c) g f))))
    where
      -- what is above i and k, and so not c, is above c's parent
      apart : (v : ℕ) → v < K → (Below par (par c) v → ⊥) → Below par k v → Below par v c ⊎ Below par c v → ⊥
      apart v l f q (inl s) = n (below_trans par K up k v c (omega arith) q s)
      apart v l f q (inr s) = by_cases (ℕ_discrete c v)
          (λ r. n (subst (Below par k) (sym r) q))
          (λ r. f (above-par par K up c v (omega arith) s r))

  -- the path over one edge is its length
  pub edge-alone : (x : ℕ → ℤ) (c : ℕ) → c < K → along par K x c (par c) ≡ x c
  edge-alone x c h = along-climb par K up x c (par c) h (up c h) ∙ ap (λ y. x c +ℤ y) (along_self par K x (par c)) ∙ +ℤ_idr (x c)

  -- from i below c one edge further up, to c's parent
  pub onward : (x : ℕ → ℤ) (i c : ℕ) → c < K → Below par i c → along par K x i (par c) ≡ along par K x i c +ℤ x c
  onward x i c h e = between par K x i (par c) c (λ v l. by_cases (ℕ_discrete v c)
      (λ r. inl (subst (λ y. bit par y i ≡ bit par y c) (sym r) (both_in c i c e (below_self par c))))
      (λ r. inr (sym (above par K up v c l h ∙ ap (λ y. y +ℤ bit par v (par c)) (ind-no (eq_no r)) ∙ +ℤ_idl (bit par v (par c))))))
      ∙ ap (λ y. along par K x i c +ℤ y) (edge-alone x c h)

-- ---- three directions at c's parent: c, another child c' with a strain j below it, and a strain k below neither
pub record Spread (N K : ℕ) (par : ℕ → ℕ) (c : ℕ) : Type 0 where
  pub c' : ℕ
  pub j : ℕ
  pub k : ℕ
  pub c'_edge : c' < K
  pub sib : par c' ≡ par c
  pub j-strain : j < N
  pub k-strain : k < N
  pub j_in : Below par j c'
  pub j-out : Below par j c → ⊥
  pub k-out : Below par k c → ⊥
  pub k_out' : Below par k c' → ⊥

-- every edge has them at its upper end
pub spread : (N K : ℕ) (par : ℕ → ℕ) → Allowed N K par → (c : ℕ) → c < K → Spread N K par c
spread N K par ok c h =
    let (u, l, e, n) = another N K par ok (par c) c (ok.inner c h) (ok.top c h) in
    let (j, m, b) = leaf N K par ok u (omega arith) in
    let (k, o, p, q) = third-way N K par ok c u h l e in
    record {
      c' = u;
      j = j;
      k = k;
      c'_edge = l;
      sib = e;
      j-strain = m;
      k-strain = o;
      j_in = b;
      j-out = siblings par K ok.up u c j l h n e b;
      k-out = p;
      k_out' = q;
    }
