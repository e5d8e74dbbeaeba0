-- The pass from the leaves up, one turn an edge. When vertex v's turn comes, an edge from v on has the cut of the strains that stand there,
-- so v itself has its split sum, which it keeps, since a parent is greater. Its parent gets the cut of both sets together, but for the root.
-- `pass-start` starts it, `pass-turn` is one turn and `pass-root` one below the root, `pass-end` its end.
use Rattle.std.proofs.Common.{◌≡◌, ℕ, suc, ◌+◌, ◌*◌, ◌<◌, ◌≤◌, Bool, true, T, eqb, ◌≢◌, List, length, get_or, set, ℤ, pos, ◌+ℤ◌, ◌-ℤ◌, ◌*ℤ◌, nat_abs, sym, refl, ap, ◌∙◌, subst, ap₂, true≢false, add-one, arith, eqb→eq, length-set, get_or-set_other, get_or-set_same, w64, SFits, to_z, of_z}
use native.Mathlib.Decide.{ℕ_discrete, dec_lt}
use lib.Bits.{bit_or}
use Rattle.exact.specs.Sum.{ind}
use Rattle.exact.specs.Table.{entry_of}
use Rattle.exact.proofs.Decide.{by_cases, eq_yes}
use Rattle.exact.proofs.Ring.{*ℤ-oneˡ}
use Rattle.exact.proofs.Sign.{nat_abs_add, nat_abs_sub, fits_abs, back}
use Rattle.exact.proofs.Sum.{ind-yes}
use Rattle.exact.proofs.Sweep.{ind-one}
use Rattle.matrix.specs.Limits.{max_strains}
use Rattle.matrix.specs.Place.{pair_place}
use Rattle.matrix.proofs.Places.{place-bound, pair-place-up, pair-place-down}
use Rattle.tree_theory.specs.Limits.{max_edges}
use Rattle.tree_theory.specs.Chain.{parent_of, lift, below}
use Rattle.tree_theory.specs.Cluster.{bit_at, mask}
use Rattle.tree_theory.specs.EdgeTable.{EdgeTable}
use Rattle.tree_theory.proofs.Chains.{Below, bit, below_true, seen, seen_start, seen-off, seen_done, one_more}
use Rattle.tree_theory.proofs.Masks.{mask-bit, mask_lt, bit_past}
use Rattle.clusters.proofs.Handing.{Handed, own_bits, hand_none, hand_more, own-done}
use Rattle.direct_theory.proofs.Star.{link}
use Rattle.splits.specs.Sums.{entry_of_two, split_of, Splittable, Rows, Apart}
use Rattle.splits.proofs.Adding.{max_part}
use Rattle.splits.proofs.Rowing.{no_row}
use Rattle.splits.proofs.Swapping.{across}
use Rattle.splits.proofs.Cutting.{cut, cut_cong, cut-∪, cut-split, cut-one, cut_abs, link_abs, across-link}

pub record Passing (N K : ℕ) (ds ps : List ℕ) (v : ℕ) (come : List ℕ) (sums : List ℤ) : Type 0 where
  pub here : v ≤ K
  pub size : length sums ≡ max_edges
  pub held : Handed N (parent_of ps) v come
  pub done : (u : ℕ) → u < v → entry_of sums u ≡ split_of N ds (parent_of ps) u
  pub cuts : (u : ℕ) → v ≤ u → u < K → entry_of sums u ≡ cut N ds (λ i. ind (seen (parent_of ps) v i u))
  pub rest : (u : ℕ) → K ≤ u → entry_of sums u ≡ pos 0

-- a strain of a mask
in_mask : (N k : ℕ) (b : ℕ → Bool) (i : ℕ) → k ≡ mask N b → bit_at k i ≡ true → (i < N) × (b i ≡ true)
in_mask N k b i e h = by_cases (dec_lt i N)
    (λ l. (l, sym (mask-bit N b i l) ∙ ap (λ (y : ℕ). bit_at y i) (sym e) ∙ h))
    (λ l. absurd (true≢false (sym h ∙ ap (λ (y : ℕ). bit_at y i) e ∙ bit_past N (mask N b) i (mask_lt N b) (omega arith))))

-- the strains at v come to those at its parent
joined : (par : ℕ → ℕ) (v i : ℕ) → v < par v → ind (seen par (suc v) i (par v)) ≡ ind (seen par v i (par v)) +ℤ bit par v i
unfolding lift below
joined par v i l = one_more par (par v) i v (lift par v i) (omega arith)
    ∙ ap (λ y. ind (seen par v i (par v)) +ℤ y) (ap (λ y. y *ℤ bit par v i) (ind-yes (eq_yes {a = par v} {b = par v} refl)) ∙ *ℤ-oneˡ (bit par v i))

module _ {N K : ℕ} {ds ps : List ℕ} (w : Splittable N K ds ps) where
  abbrev par : ℕ → ℕ
  par = parent_of ps

  few : N ≤ max_strains
  few = w.allowed.few

  pub few-edges : K ≤ max_edges
  few-edges = omega (arith, w.allowed.few, w.allowed.most)

  pub pass-start : (come : List ℕ) (sums : List ℤ) → Rows N ds sums → come ≡ own_bits N → Passing N K ds ps 0 come sums
  pass-start come sums r e = record {
    here = omega arith;
    size = r.size;
    held = hand_none N par (omega (arith, few)) come e;
    done = λ u h. absurd (omega arith);
    cuts = λ u _ _. r.entries u ∙ cut-one N ds u ∙ cut_cong N ds (λ i. ind (eqb i u)) (λ i. ind (seen par 0 i u)) (λ i _. sym (ap ind (seen_start par i u)));
    rest = λ u h. r.entries u ∙ no_row N ds u (omega (arith, w.allowed.edges));
  }

  pub pass-end : {v : ℕ} {come : List ℕ} {sums : List ℤ} → K ≤ v → Passing N K ds ps v come sums → EdgeTable K (split_of N ds par) sums
  pass-end h g = record { size = g.size; entries = λ u l. g.done u (omega arith); rest = g.rest }

  -- ---- one turn
  module _ {v : ℕ} {come : List ℕ} {sums : List ℤ} (g : Passing N K ds ps v come sums) (edge : v < K) where
    abbrev m : ℕ
    m = par v

    abbrev here : ℕ
    here = get_or come v 0

    abbrev there : ℕ
    there = get_or come m 0

    up : v < m
    up = w.allowed.up v edge

    pub parent_low : m ≤ max_edges
    parent_low = omega (arith, w.allowed.top v edge, few-edges)

    here-is : here ≡ mask N (λ i. below par i v)
    here-is = own-done N par v come g.held

    there-is : there ≡ mask N (λ i. seen par v i m)
    there-is = g.held.held m (omega (arith, up))

    at_here : (j : ℕ) → bit_at here j ≡ true → (j < N) × Below par j v
    at_here j h = let q = in_mask N here (λ i. below par i v) j here-is h in (q.0, below_true par j v q.1)

    at_there : (i : ℕ) → bit_at there i ≡ true → (i < N) × (lift par v i ≡ m)
    at_there i h = let q = in_mask N there (λ k. seen par v k m) i there-is h in (q.0, eqb→eq (lift par v i) m (subst T (sym q.1) tt))

    slot : (i j : ℕ) → i < N → j < N → i ≢ j → pair_place i j < length ds
    slot i j a b n = by_cases (dec_lt i j)
        (λ l. omega (arith, pair-place-up i j l, place-bound N i j l b, w.held))
        (λ l. omega (arith, pair-place-down i j (omega arith), place-bound N j i (omega arith) a, w.held))

    pub met-apart : (j : ℕ) → bit_at here j ≡ true → Apart ds there j
    met-apart j q i p =
        let a = at_there i p in
        let b = at_here j q in
        let n : i ≢ j = λ e. omega (arith, up, b.1, ap (lift par v) e, a.1) in
        (n, slot i j a.0 b.0 n)

    -- ---- what is at v
    at-v : entry_of sums v ≡ cut N ds (bit par v)
    at-v = g.cuts v (omega arith) edge ∙ cut_cong N ds (λ i. ind (seen par v i v)) (bit par v) (λ i _. ap ind (seen_done par i v))

    v_abs : nat_abs (entry_of sums v) ≤ max_strains * max_part
    v_abs = omega (arith, ap nat_abs at-v, cut_abs N ds few w.near (λ i. below par i v))

    -- ---- the turn, by what is at the parent after it
    turned : (new : List ℤ) → length new ≡ max_edges → ((u : ℕ) → u ≢ m → entry_of new u ≡ entry_of sums u)
        → (m < K → entry_of new m ≡ cut N ds (λ i. ind (seen par (suc v) i m))) → (K ≤ m → entry_of new m ≡ pos 0)
        → Passing N K ds ps (v + 1) (set come m (bit_or there here)) new
    turned new size same inner root = rw add-one (record {
      here = edge;
      size = size;
      held = subst (λ (k : ℕ). Handed N par k (set come m (bit_or there here))) (add-one v) (hand_more N par v come up (omega (arith, parent_low)) g.held);
      done = λ u h. same u (λ q. omega (arith, up)) ∙ by_cases (ℕ_discrete u v)
          (λ e. rw e (at-v ∙ sym (cut-split N ds par v)))
          (λ e. g.done u (omega arith));
      cuts = λ u h l. by_cases (ℕ_discrete u m)
          (λ e. rw e (inner (omega arith)))
          (λ e. same u e ∙ g.cuts u (omega arith) l
          ∙ cut_cong N ds (λ i. ind (seen par v i u)) (λ i. ind (seen par (suc v) i u)) (λ i _. ap ind (sym (seen-off par v i u h (λ q. e (sym q))))));
      rest = λ u h. by_cases (ℕ_discrete u m)
          (λ e. rw e (root (omega arith)))
          (λ e. same u e ∙ g.rest u h);
    })

    -- below the root nothing is added
    pub pass-root : K ≤ m → Passing N K ds ps (v + 1) (set come m (bit_or there here)) sums
    pass-root l = turned sums g.size (λ u _. refl) (λ k. absurd (omega arith)) (g.rest m)

    -- ---- what is at the parent, and between them
    abbrev between : ℤ
    between = link N (entry_of_two ds) (bit par v) (λ i. ind (seen par v i m))

    between_abs : nat_abs between ≤ max_strains * max_part
    between_abs = link_abs N ds few w.near (bit par v) (λ i. ind (seen par v i m)) (λ i. ind-one (below par i v)) (λ i. ind-one (seen par v i m))

    module _ (low : m < K) {x : ℤ} (ex : x ≡ across ds here there) where
      at-m : entry_of sums m ≡ cut N ds (λ i. ind (seen par v i m))
      at-m = g.cuts m (omega (arith, up)) low

      m_abs : nat_abs (entry_of sums m) ≤ max_strains * max_part
      m_abs = omega (arith, ap nat_abs at-m, cut_abs N ds few w.near (λ i. seen par v i m))

      abbrev met : ℤ
      met = to_z w64 (of_z w64 x)

      met-is : met ≡ between
      met-is = let e = ex ∙ across-link N ds few w.near here there (λ i. below par i v) (λ i. seen par v i m) here-is there-is in
          back x (omega (arith, ap nat_abs e, between_abs)) ∙ e

      met_abs : nat_abs met ≤ max_strains * max_part
      met_abs = omega (arith, ap nat_abs met-is, between_abs)

      abbrev both : ℤ
      both = to_z w64 (of_z w64 (entry_of sums m)) +ℤ to_z w64 (of_z w64 (entry_of sums v))

      both_is : both ≡ entry_of sums m +ℤ entry_of sums v
      both_is = ap₂ ◌+ℤ◌ (back (entry_of sums m) (omega (arith, m_abs))) (back (entry_of sums v) (omega (arith, v_abs)))

      both_abs : nat_abs both ≤ 2 * (max_strains * max_part)
      both_abs = omega (arith, ap nat_abs both_is, nat_abs_add (entry_of sums m) (entry_of sums v), v_abs, m_abs)

      pub both-fits : SFits w64 both
      both-fits = fits_abs both (omega (arith, both_abs))

      abbrev once : ℤ
      once = to_z w64 (of_z w64 both) -ℤ met

      once_is : once ≡ both -ℤ met
      once_is = ap (λ y. y -ℤ met) (back both (omega (arith, both_abs)))

      once_abs : nat_abs once ≤ 3 * (max_strains * max_part)
      once_abs = omega (arith, ap nat_abs once_is, nat_abs_sub both met, both_abs, met_abs)

      pub once-fits : SFits w64 once
      once-fits = fits_abs once (omega (arith, once_abs))

      abbrev twice : ℤ
      twice = to_z w64 (of_z w64 once) -ℤ met

      twice-is : twice ≡ once -ℤ met
      twice-is = ap (λ y. y -ℤ met) (back once (omega (arith, once_abs)))

      twice_abs : nat_abs twice ≤ 4 * (max_strains * max_part)
      twice_abs = omega (arith, ap nat_abs twice-is, nat_abs_sub once met, once_abs, met_abs)

      pub twice-fits : SFits w64 twice
      twice-fits = fits_abs twice (omega (arith, twice_abs))

      -- the parent has the cut of both sets together
      at_parent : to_z w64 (of_z w64 twice) ≡ cut N ds (λ i. ind (seen par (suc v) i m))
      at_parent = back twice (omega (arith, twice_abs)) ∙ twice-is ∙ ap (λ y. y -ℤ met) once_is
          ∙ ap₂ (λ y z. y -ℤ z -ℤ z) (both_is ∙ ap₂ ◌+ℤ◌ at-m at-v) met-is
          ∙ sym (cut-∪ N ds (λ i. ind (seen par v i m)) (bit par v))
          ∙ cut_cong N ds (λ i. ind (seen par v i m) +ℤ bit par v i) (λ i. ind (seen par (suc v) i m)) (λ i _. sym (joined par v i up))

      pub pass-turn : Passing N K ds ps (v + 1) (set come m (bit_or there here)) (set sums m (to_z w64 (of_z w64 twice)))
      pass-turn = turned (set sums m (to_z w64 (of_z w64 twice))) (simp length-set g.size)
          (λ u e. get_or-set_other sums m u (to_z w64 (of_z w64 twice)) (pos 0) e)
          (λ _. get_or-set_same sums m (to_z w64 (of_z w64 twice)) (pos 0) (omega (arith, g.size, few-edges)) ∙ at_parent)
          (λ l. absurd (omega arith))
