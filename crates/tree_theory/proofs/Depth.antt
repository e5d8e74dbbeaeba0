-- How long a path is. Laws:
-- `meet`: two strains are below two children of one vertex, where their ways meet;
-- `grows`: a vertex has fewer strains below it than its parent; `two-few`: two children of one vertex have fewer than N together;
-- `way-bound`: a way is shorter than the strains that the climb has gathered; `path-bound`: a path has at most N - 1 edges.
use mathlib.Core.Path.{◌≡◌, refl, sym, ◌∙◌, ap, ap₂, subst, subst₂}
use mathlib.Core.Bool.{Bool, true, false}
use mathlib.Core.Logic.{◌≢◌}
use Prim.Native.Nat.{ℕ, ◌≤◌, ◌<◌}
use native.Mathlib.Omega.{arith}
use lib.IntN.{ℤ, pos, ◌+ℤ◌}
use Rattle.exact.specs.Order.{◌≤ᶻ◌, ◌<ᶻ◌}
use Rattle.exact.specs.Sum.{sum, ind}
use Rattle.exact.specs.LeastSquares.{path, hops}
use Rattle.exact.proofs.Ring.{*ℤ-oneʳ}
use Rattle.exact.proofs.Decide.{by_cases}
use Rattle.exact.proofs.Order.{pos-≤, ≤-of-≡}
use Rattle.exact.proofs.Linear.{d_atom, lin, lt→, →lt, eq→}
use Rattle.exact.proofs.Sum.{sum_cong, sum-+, sum_const, sum-zero, sum_less, ind-yes, ind-no, ind-nn}
use Rattle.tree_theory.specs.Chain.{below, parts, parts_pair}
use Rattle.tree_theory.specs.Allowed.{Allowed}
use Rattle.tree_theory.proofs.Chains.{Below, bit, along, chain, below?, below-yes, below-no, below_true, below_self, below_up, below_root}
use Rattle.tree_theory.proofs.Strains.{siblings, another, leaf, third-way}
use Rattle.tree_theory.proofs.Union.{Inside, below-child}
use Rattle.tree_theory.specs.Way.{way}
use Rattle.tree_theory.proofs.Ways.{way-split, way-stop, way_step}

-- i is below c and j below c', two children of one vertex
pub record Meet (par : ℕ → ℕ) (K i j : ℕ) : Type 0 where
  pub c : ℕ
  pub c' : ℕ
  pub edge : c < K
  pub edge' : c' < K
  pub same : par c' ≡ par c
  pub apart : c ≢ c'
  pub i_in : Below par i c
  pub j_in : Below par j c'

-- a test that gives another is no more than it
ind-≤ : (a b : Bool) → (a ≡ true → b ≡ true) → ind a ≤ᶻ ind b
ind-≤ true b h = ≤-of-≡ (ap ind (sym (h refl)))
ind-≤ false b h = unfold ind in ind-nn b

-- tests that exclude each other are 1 at most together
ind-≤1 : (a b : Bool) → (a ≡ true → b ≡ true → ⊥) → ind a +ℤ ind b ≤ᶻ pos 1
unfolding ind
ind-≤1 true true h = absurd (h refl refl)
ind-≤1 true false h = pos-≤ (omega arith)
ind-≤1 false true h = pos-≤ (omega arith)
ind-≤1 false false h = pos-≤ (omega arith)

module _ (N K : ℕ) (par : ℕ → ℕ) (ok : Allowed N K par) where
  -- the last vertex above i that is not above j, and its sibling above j
  pub meet : (i j : ℕ) → i < N → j < N → i ≢ j → Meet par K i j
  meet i j hi hj n = chain par K i (λ a. Below par j a → Meet par K i j)
      (λ e. absurd (start (below-child par K j i (omega (arith, ok.edges)) (omega arith) e)))
      (λ a h e p f. by_cases (below? par j a) p (λ q. found a h e q (below-child par K j (par a) (ok.top a h) (omega (arith, ok.inner a h)) f)))
      K (omega arith) (root i (omega (arith, ok.edges))) (root j (omega (arith, ok.edges)))
    where
      root : (i : ℕ) → i ≤ K → Below par i K
      root = below_root par K ok.up ok.top

      start : Inside par K j i → ⊥
      start (c, l, e, b) = omega (arith, ok.inner c l)

      found : (a : ℕ) → a < K → Below par i a → (Below par j a → ⊥) → Inside par K j (par a) → Meet par K i j
      found a h e q (c, l, s, b) = record {
        c = a;
        c' = c;
        edge = h;
        edge' = l;
        same = s;
        apart = λ r. q (subst (Below par j) (sym r) b);
        i_in = e;
        j_in = b;
      }

  -- a parent has the strains of its other children besides
  pub grows : (c : ℕ) → c < K → sum N (bit par c) <ᶻ sum N (bit par (par c))
  grows c h = let w = par c in let (u, l, e, n) = another N K par ok w c (ok.inner c h) (ok.top c h) in let (k, m, b) = leaf N K par ok u (omega arith) in
      sum_less N k (bit par c) (bit par w)
      (λ i _. ind-≤ (below par i c) (below par i w) (λ t. below-yes par i w (below_up par K ok.up i c w h (ok.top c h) refl (below_true par i c t)))) m
      (subst₂ ◌<ᶻ◌ (sym (ind-no (below-no par k c (siblings par K ok.up u c k l h n e b))))
      (sym (ind-yes (below-yes par k w (below_up par K ok.up k u w l (ok.top c h) e b)))) (record { lt = tt }))

  -- the strain below neither is not counted
  pub two-few : (c c' : ℕ) → c < K → c' < K → par c' ≡ par c → c ≢ c' → sum N (bit par c) +ℤ sum N (bit par c') <ᶻ pos N
  two-few c c' h h' e n = let (k, m, a, b) = third-way N K par ok c c' h h' e in
      subst₂ ◌<ᶻ◌ (sum-+ N (bit par c) (bit par c')) (sum_const N (pos 1) ∙ *ℤ-oneʳ (pos N))
      (sum_less N k (λ i. bit par c i +ℤ bit par c' i) (λ i. pos 1)
      (λ i _. ind-≤1 (below par i c) (below par i c') (λ s t. siblings par K ok.up c c' i h h' n (sym e) (below_true par i c s) (below_true par i c' t))) m
      (subst (λ y. y <ᶻ pos 1) (sym (ap₂ ◌+ℤ◌ (ind-no (below-no par k c a)) (ind-no (below-no par k c' b)))) (record { lt = tt })))

  -- the edges of a way
  abbrev steps : ℕ → ℕ → ℤ
  steps = way par K (λ v. pos 1)

  -- climbing from i to a takes fewer steps than a has strains below it
  pub way-bound : (i j a : ℕ) → i < N → a ≤ K → Below par i a → way par K (λ v. pos 1) i j <ᶻ way par K (λ v. pos 1) a j +ℤ sum N (bit par a)
  way-bound i j a l k b = chain par K i (λ a. steps i j <ᶻ steps a j +ℤ sum N (bit par a))
      (more (steps i j) (sum N (bit par i)) (subst (λ y. y <ᶻ sum N (bit par i)) (sum-zero N) (sum_less N i (λ i. pos 0) (bit par i) (λ v _. ind-nn (below par v i)) l
      (subst (λ y. pos 0 <ᶻ y) (sym (ind-yes (below-yes par i i (below_self par i)))) (record { lt = tt })))))
      (λ a h e p. by_cases (below? par j a)
      (λ q. still (steps i j) (steps a j) (steps (par a) j) (sum N (bit par a)) (sum N (bit par (par a))) p (grows a h)
      (way-stop par K ok.up (λ v. pos 1) a j q) (way-stop par K ok.up (λ v. pos 1) (par a) j (below_up par K ok.up j a (par a) h (ok.top a h) refl q)))
      (λ q. climbs (steps i j) (steps a j) (steps (par a) j) (sum N (bit par a)) (sum N (bit par (par a))) p (grows a h) (way_step par K ok.up (λ v. pos 1) a j h q)))
      a k b
    where
      more : (w s : ℤ) → pos 0 <ᶻ s → w <ᶻ w +ℤ s
      more w s h = let A = d_atom w in let B = d_atom s in →lt (search lin) (omega (arith, lt→ (search lin) h))

      climbs : (w x y s t : ℤ) → w <ᶻ x +ℤ s → s <ᶻ t → x ≡ pos 1 +ℤ y → w <ᶻ y +ℤ t
      climbs w x y s t h k e = let A = d_atom w in let B = d_atom x in let C = d_atom y in let D = d_atom s in let E = d_atom t in
          →lt (search lin) (omega (arith, lt→ (search lin) h, lt→ (search lin) k, eq→ (search lin) e))

      still : (w x y s t : ℤ) → w <ᶻ x +ℤ s → s <ᶻ t → x ≡ pos 0 → y ≡ pos 0 → w <ᶻ y +ℤ t
      still w x y s t h k e f = let A = d_atom w in let B = d_atom x in let C = d_atom y in let D = d_atom s in let E = d_atom t in
          →lt (search lin) (omega (arith, lt→ (search lin) h, lt→ (search lin) k, eq→ (search lin) e, eq→ (search lin) f))

  -- the way from i to j ends at c's parent
  half : (i j c : ℕ) → i < N → c < K → Below par i c → (Below par j c → ⊥) → Below par j (par c) → steps i j <ᶻ pos 1 +ℤ sum N (bit par c)
  half i j c l h b n f = subst (λ y. steps i j <ᶻ y +ℤ sum N (bit par c))
      (way_step par K ok.up (λ v. pos 1) c j h n ∙ ap (λ y. pos 1 +ℤ y) (way-stop par K ok.up (λ v. pos 1) (par c) j f))
      (way-bound i j c l (omega arith) b)

  -- the two halves have no more edges than the strains below the two children
  pub path-bound : (i j : ℕ) → i < N → j < N → i ≢ j → hops K (parts_pair par) (i, j) <ᶻ pos N
  path-bound i j hi hj n = let M = meet i j hi hj n in let c = M.c in let c' = M.c' in
      let out : (k : ℕ) → Below par k c → Below par k c' → ⊥ = λ k. siblings par K ok.up c c' k M.edge M.edge' M.apart (sym M.same) in
      subst (λ y. y <ᶻ pos N) (sym edges)
      (add (steps i j) (steps j i) (sum N (bit par c)) (sum N (bit par c')) N
      (half i j c hi M.edge M.i_in (λ q. out j q M.j_in) (below_up par K ok.up j c' (par c) M.edge' (ok.top c M.edge) M.same M.j_in))
      (half j i c' hj M.edge' M.j_in (out i M.i_in) (below_up par K ok.up i c (par c') M.edge (ok.top c' M.edge') (sym M.same) M.i_in))
      (two-few c c' M.edge M.edge' M.same M.apart))
    where
      edges : hops K (parts_pair par) (i, j) ≡ steps i j +ℤ steps j i
      edges = let e : hops K (parts_pair par) (i, j) ≡ along par K (λ v. pos 1) i j = unfold hops path in sum_cong K (λ v l. sym (*ℤ-oneʳ (ind (parts par v i j)))) in
          e ∙ way-split par K (λ v. pos 1) i j

      add : (x y s t : ℤ) (n : ℕ) → x <ᶻ pos 1 +ℤ s → y <ᶻ pos 1 +ℤ t → s +ℤ t <ᶻ pos n → x +ℤ y <ᶻ pos n
      add x y s t n h k e = let A = d_atom x in let B = d_atom y in let C = d_atom s in let D = d_atom t in
          →lt (search lin) (omega (arith, lt→ (search lin) h, lt→ (search lin) k, lt→ (search lin) e))
