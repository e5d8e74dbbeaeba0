-- The clusters by handing masks up: `Handed v` says what the table holds when the vertices below v have handed theirs to their
-- parents. Those are done and hold their clusters; from v on a vertex holds what has come so far, which is `seen`.
use mathlib.Core.Path.{◌≡◌, sym, ◌∙◌, ap, ap₂}
use mathlib.Core.Bool.{cond}
use mathlib.Core.List.{List}
use Prim.Native.Nat.{ℕ, suc, ◌+◌, ◌^◌, ◌≤◌, ◌<◌}
use native.Mathlib.Decide.{ℕ_discrete, dec_lt}
use native.Mathlib.Numerals.{add-one}
use native.Mathlib.Omega.{arith}
use borrow.Author.Tests.{le-ltb, le-leb, lt-leb}
use lib.Bits.{bit_or}
use lib.Dec.{ltb, leb}
use lib.ListN.{length, get_or, set, length-set, get_or-eq_default}
use lib.Seq.{get_or-set_same, get_or-set_other}
use Rattle.exact.specs.Table.{table}
use Rattle.exact.proofs.Decide.{by_cases, eq_no}
use Rattle.exact.proofs.Fill.{length-table, get_or_table, table_is}
use Rattle.tree_theory.specs.Chain.{below, lift}
use Rattle.tree_theory.specs.Allowed.{Allowed}
use Rattle.tree_theory.specs.Cluster.{mask, cluster}
use Rattle.tree_theory.proofs.Chains.{seen, seen_start, seen_up, seen-off, seen_done, below_root}
use Rattle.tree_theory.proofs.Masks.{mask_cong, mask_one, mask_or, mask-none}

-- the masks that the handing starts from: each strain alone
abbrev pub own_bits : ℕ → List ℕ
own_bits N = table 126 (λ w. cond (ltb w N) (2 ^ w) 0)

-- the clusters of all vertices up to the root, then zeros
abbrev pub cluster_table : ℕ → ℕ → (ℕ → ℕ) → List ℕ
cluster_table N K par = table 126 (λ v. cond (leb v K) (cluster N par v) 0)

pub record Handed (N : ℕ) (par : ℕ → ℕ) (v : ℕ) (l : List ℕ) : Type 0 where
  pub size : length l ≡ 126
  pub done : (w : ℕ) → w < v → get_or l w 0 ≡ cluster N par w
  pub held : (w : ℕ) → v ≤ w → get_or l w 0 ≡ mask N (λ i. seen par v i w)

module _ (N : ℕ) (par : ℕ → ℕ) where
  own_at : N ≤ 126 → (w : ℕ) → get_or (own_bits N) w 0 ≡ cond (ltb w N) (2 ^ w) 0
  own_at n w = by_cases (dec_lt w 126) (get_or_table 126 (λ u. cond (ltb u N) (2 ^ u) 0) 0 w)
      (λ h. get_or-eq_default (own_bits N) 0 (omega (arith, length-table {A = ℕ} 126 (λ u. cond (ltb u N) (2 ^ u) 0)))
      ∙ sym (ap (λ b. cond b (2 ^ w) 0) (le-ltb w N (omega arith))))

  pub hand_none : N ≤ 126 → (l : List ℕ) → l ≡ own_bits N → Handed N par 0 l
  hand_none n l e = record {
    size = ap length e ∙ length-table 126 _;
    done = λ w h. absurd (omega arith);
    held = λ w h. ap (λ (m : List ℕ). get_or m w 0) e ∙ own_at n w ∙ sym (mask_one N w) ∙ mask_cong N _ _ (λ i l. sym (seen_start par i w));
  }

  -- v's own mask is whole when its turn comes
  pub own-done : (v : ℕ) (l : List ℕ) → Handed N par v l → get_or l v 0 ≡ cluster N par v
  own-done v l t = t.held v (omega arith) ∙ mask_cong N _ _ (λ i l. seen_done par i v)

  -- vertex v hands its mask to its parent
  module _ (v : ℕ) (l : List ℕ) (up : v < par v) (fits : par v < 126) (t : Handed N par v l) where
    abbrev handed : List ℕ
    handed = set l (par v) (bit_or (get_or l (par v) 0) (get_or l v 0))

    elsewhere : (w : ℕ) → (w ≡ par v → ⊥) → get_or handed w 0 ≡ get_or l w 0
    elsewhere w n = get_or-set_other l (par v) w _ 0 n

    at_parent : get_or handed (par v) 0 ≡ mask N (λ i. seen par (suc v) i (par v))
    at_parent = get_or-set_same l (par v) _ 0 (omega (arith, t.size))
        ∙ ap₂ bit_or (t.held (par v) (omega arith)) (own-done v l t)
        ∙ mask_or N (λ i. seen par v i (par v)) (λ i. below par i v)
        ∙ mask_cong N _ _ (λ i h. sym (seen_up par v i up))

    still-held : (w : ℕ) → suc v ≤ w → get_or handed w 0 ≡ mask N (λ i. seen par (suc v) i w)
    still-held w h = by_cases (ℕ_discrete w (par v))
        (λ e. rw e at_parent)
        (λ n. elsewhere w n ∙ t.held w (omega arith) ∙ mask_cong N _ _ (λ i l. sym (seen-off par v i w h (λ q. n (sym q)))))

    now_done : (w : ℕ) → w < suc v → get_or handed w 0 ≡ cluster N par w
    now_done w h = elsewhere w (omega arith) ∙ by_cases (ℕ_discrete w v)
        (λ e. rw e (own-done v l t))
        (λ n. t.done w (omega arith))

    pub hand_more : Handed N par (v + 1) handed
    hand_more = rw add-one (record { size = simp length-set t.size; done = now_done; held = still-held })

-- when every vertex below the root has handed its mask up, the table is the clusters
module _ (N K : ℕ) (par : ℕ → ℕ) (a : Allowed N K par) where
  past-root : (w : ℕ) → K < w → mask N (λ i. seen par K i w) ≡ 0
  past-root w h = mask-none N _ (λ i l.
      let e = below_root par K a.up a.top i (omega (arith, a.edges)) in eq_no {a = lift par K i} {b = w} (omega arith))

  pub hand_all : (l : List ℕ) → Handed N par K l → l ≡ cluster_table N K par
  hand_all l t = table_is 0 (λ v. cond (leb v K) (cluster N par v) 0) 126 l t.size (λ w _. at w)
    where
      at : (w : ℕ) → get_or l w 0 ≡ cond (leb w K) (cluster N par w) 0
      at w = by_cases (dec_lt w K)
          (λ h. rw (le-leb w K (omega arith)) (t.done w h))
          (λ h. by_cases (ℕ_discrete w K)
          (λ e. rw (e, le-leb K K (omega arith)) (own-done N par K l t))
          (λ n. rw (lt-leb w K (omega arith)) (t.held w (omega arith) ∙ past-root w (omega arith))))
