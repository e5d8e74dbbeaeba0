-- The pass up. The idea: when the turn of vertex v comes, a vertex from v on has the strains that stand there, and those before v have all that is
-- below them; so v itself has all that is below it, and hands it to its parent.
use mathlib.Core.Path.{◌≡◌, refl, sym, ap, ap₂, ◌∙◌}
use mathlib.Core.List.{List, [], ◌∷◌}
use mathlib.Core.Logic.{◌≢◌}
use Prim.Native.Nat.{ℕ, suc, ◌+◌, ◌*◌, ◌≤◌, ◌<◌, ◌^◌}
use native.Mathlib.Decide.{ℕ_discrete, dec_lt}
use native.Mathlib.Nat.{mul-le-mul, mul-le-mul_right}
use native.Mathlib.Numerals.{add-one}
use native.Mathlib.Omega.{arith}
use lib.Dec.{eqb}
use lib.IntN.{ℤ, pos, nat_abs, ◌+ℤ◌, ◌*ℤ◌, +ℤ_idr, zero-*ℤ}
use lib.ListN.{length, set, length-set}
use lib.Seq.{get_or-set_same, get_or-set_other}
use Rattle.exact.specs.Sum.{ind}
use Rattle.exact.specs.Table.{table, entry_of}
use Rattle.exact.proofs.Decide.{by_cases, eq_yes, eq_no}
use Rattle.exact.proofs.Fill.{length-table, get_or_table_const}
use Rattle.exact.proofs.Quote.{by-ring, quote}
use Rattle.exact.proofs.Ring.{*ℤ-oneˡ}
use Rattle.exact.proofs.Sign.{nat_abs_add, nat_abs_mul}
use Rattle.exact.proofs.Sum.{ind-yes, ind-no}
use Rattle.exact.proofs.Sweep.{sum_abs, ind-one, chosen-sum_abs}
use Rattle.tree_theory.specs.Limits.{max_edges, max_vertices}
use Rattle.tree_theory.specs.Chain.{parent_of, lift}
use Rattle.tree_theory.proofs.Chains.{along}
use Rattle.paths.specs.Standing.{max_thousandths}
use Rattle.paths.proofs.Bounds.{farthest_path, path-near}
use Rattle.inner_paths.specs.Between.{Lengthened}
use Rattle.path_sums.specs.Sums.{crowd, ways_up, Alone, Gathered}
use Rattle.path_sums.proofs.Sides.{come, come_way, come-strain, come-other, come-own, come-step, come-way-start, come-way-own, come-way-step}

-- a product's magnitude, by those of its factors
pub mul-near : (y z : ℤ) {a b : ℕ} → nat_abs y ≤ a → nat_abs z ≤ b → nat_abs (y *ℤ z) ≤ a * b
mul-near y z {a} {b} h k = omega (arith, nat_abs_mul y z, mul-le-mul {n₂ = a} {m₂ = b} h k)

-- how far the paths of all strains together go at most
abbrev pub farthest : ℕ
farthest = 64 * farthest_path

-- when v's turn comes
pub record GatherAt (N K : ℕ) (par : ℕ → ℕ) (X : ℕ → ℤ) (v : ℕ) (sizes ways : List ℤ) : Type 0 where
  pub here : v ≤ K
  pub room_of_sizes : length sizes ≡ max_vertices
  pub room_of_ways : length ways ≡ max_vertices
  pub size : (w : ℕ) → w < v → entry_of sizes w ≡ crowd N par w
  pub way : (w : ℕ) → w < v → entry_of ways w ≡ ways_up N K par X w
  pub size_held : (w : ℕ) → v ≤ w → w ≤ K → entry_of sizes w ≡ come N par v w
  pub way_held : (w : ℕ) → v ≤ w → w ≤ K → entry_of ways w ≡ come_way N K par X v w

module _ {N K : ℕ} {ps : List ℕ} {x : List ℤ} (L : Lengthened N K ps x) where
  abbrev par : ℕ → ℕ
  par = parent_of ps

  abbrev X : ℕ → ℤ
  X = entry_of x

  pub few : K ≤ max_edges
  few = omega (arith, L.allowed.few, L.allowed.most)

  pub near : (a b : ℕ) → nat_abs (along par K X a b) ≤ farthest_path
  near a b = path-near L.small few par (a, b)

  pub come-near : (m w : ℕ) → nat_abs (come N par m w) ≤ 64
  unfolding come
  come-near m w = omega (arith, sum_abs N 1 (λ i. ind (eqb (lift par m i) w)) (λ i _. ind-one (eqb (lift par m i) w)), L.allowed.few)

  pub come-way-near : (m w : ℕ) → nat_abs (come_way N K par X m w) ≤ farthest
  unfolding come_way
  come-way-near m w = omega (arith, chosen-sum_abs N farthest_path (λ i. eqb (lift par m i) w) (λ i. along par K X i w) (λ i _. near i w), mul-le-mul_right farthest_path L.allowed.few)

  pub gather_start : (sizes ways : List ℤ) → Alone N sizes → ways ≡ table max_vertices (λ _. pos 0) → GatherAt N K par X 0 sizes ways
  gather_start sizes ways a e = record {
    here = omega arith;
    room_of_sizes = a.room;
    room_of_ways = ap length e ∙ length-table max_vertices (λ _. pos 0);
    size = λ w h. absurd (omega arith);
    way = λ w h. absurd (omega arith);
    size_held = λ w _ _. by_cases (dec_lt w N)
        (λ h. a.strain w h ∙ sym (come-strain N par w h))
        (λ h. a.other w (omega arith) ∙ sym (come-other N par w (omega arith)));
    way_held = λ w _ _. ap (λ l. entry_of l w) e ∙ get_or_table_const max_vertices (pos 0) w ∙ sym (come-way-start N K par L.allowed X w);
  }

  pub gather_end : {v : ℕ} {sizes ways : List ℤ} → K ≤ v → GatherAt N K par X v sizes ways → Gathered N K par X sizes ways
  gather_end {v} {sizes} {ways} h t = record {
    room_of_sizes = t.room_of_sizes;
    room_of_ways = t.room_of_ways;
    size = λ w l. by_cases (dec_lt w v) (t.size w) (λ q. let e : w ≡ v = omega (arith, t.here) in t.size_held w (omega arith) l ∙ rw e (come-own N par v));
    way = λ w l. by_cases (dec_lt w v) (t.way w) (λ q. let e : w ≡ v = omega (arith, t.here) in t.way_held w (omega arith) l ∙ rw e (come-way-own N K par L.allowed X v));
  }

  module _ {v : ℕ} {sizes ways : List ℤ} (edge : v < K) (t : GatherAt N K par X v sizes ways) where
    abbrev m : ℕ
    m = par v

    pub parent_low : m ≤ max_edges
    parent_low = omega (arith, L.allowed.top v edge, few)

    own-size : entry_of sizes v ≡ crowd N par v
    own-size = t.size_held v (omega arith) (omega arith) ∙ come-own N par v

    own-way : entry_of ways v ≡ ways_up N K par X v
    own-way = t.way_held v (omega arith) (omega arith) ∙ come-way-own N K par L.allowed X v

    pub size-near : nat_abs (entry_of sizes v) ≤ 64
    size-near = omega (arith, ap nat_abs (t.size_held v (omega arith) (omega arith)), come-near v v)

    pub size-there-near : nat_abs (entry_of sizes m) ≤ 64
    size-there-near = omega (arith, ap nat_abs (t.size_held m (omega (arith, L.allowed.up v edge)) (L.allowed.top v edge)), come-near v m)

    pub way-near : nat_abs (entry_of ways v) ≤ farthest
    way-near = omega (arith, ap nat_abs (t.way_held v (omega arith) (omega arith)), come-way-near v v)

    pub way-there-near : nat_abs (entry_of ways m) ≤ farthest
    way-there-near = omega (arith, ap nat_abs (t.way_held m (omega (arith, L.allowed.up v edge)) (L.allowed.top v edge)), come-way-near v m)

    pub step-near : nat_abs (X v) ≤ max_thousandths
    step-near = L.small.near v edge

    -- what the sums of `come_up` ask
    pub both-near : nat_abs (entry_of ways m +ℤ entry_of ways v) < 2 ^ 63
    both-near = omega (arith, nat_abs_add (entry_of ways m) (entry_of ways v), way-near, way-there-near)

    pub steps-near : nat_abs (entry_of sizes v *ℤ X v) ≤ 64 * max_thousandths
    steps-near = mul-near (entry_of sizes v) (X v) size-near step-near

    pub all_near : nat_abs (entry_of ways m +ℤ entry_of ways v +ℤ entry_of sizes v *ℤ X v) < 2 ^ 63
    all_near = omega (arith, nat_abs_add (entry_of ways m +ℤ entry_of ways v) (entry_of sizes v *ℤ X v), nat_abs_add (entry_of ways m) (entry_of ways v), way-near, way-there-near, steps-near)

    module _ (s y : ℤ) (e : s ≡ entry_of sizes m +ℤ entry_of sizes v) (f : y ≡ entry_of ways m +ℤ entry_of ways v +ℤ entry_of sizes v *ℤ X v) where
      sizes-then : (w : ℕ) → v < w → w ≤ K → entry_of (set sizes m s) w ≡ come N par (suc v) w
      sizes-then w h k = by_cases (ℕ_discrete w m)
          (λ q. rw q (get_or-set_same sizes m s (pos 0) (omega (arith, parent_low, t.room_of_sizes)) ∙ e
          ∙ ap₂ ◌+ℤ◌ (t.size_held m (omega (arith, L.allowed.up v edge)) (L.allowed.top v edge)) (own-size ∙ sym (ap (λ z. z *ℤ crowd N par v) (ind-yes (eq_yes {a = m} {b = m} refl)) ∙ *ℤ-oneˡ (crowd N par v)))
          ∙ sym (come-step N par v m (L.allowed.up v edge))))
          (λ q. get_or-set_other sizes m w s (pos 0) q ∙ t.size_held w (omega arith) k
          ∙ sym (come-step N par v w h ∙ ap (λ z. come N par v w +ℤ z) (ap (λ z. z *ℤ crowd N par v) (ind-no (eq_no {a = m} {b = w} (λ r. q (sym r)))) ∙ zero-*ℤ (crowd N par v)) ∙ +ℤ_idr (come N par v w)))

      abbrev brought : ℤ
      brought = ways_up N K par X v +ℤ crowd N par v *ℤ X v

      ways_then : (w : ℕ) → v < w → w ≤ K → entry_of (set ways m y) w ≡ come_way N K par X (suc v) w
      ways_then w h k = by_cases (ℕ_discrete w m)
          (λ q. rw q (get_or-set_same ways m y (pos 0) (omega (arith, parent_low, t.room_of_ways)) ∙ f
          ∙ by-ring (entry_of ways m ∷ entry_of ways v ∷ entry_of sizes v ∷ X v ∷ []) (search quote depth 20) tt
          ∙ ap₂ ◌+ℤ◌ (t.way_held m (omega (arith, L.allowed.up v edge)) (L.allowed.top v edge))
          (ap₂ (λ a b. a +ℤ b *ℤ X v) own-way own-size ∙ sym (ap (λ z. z *ℤ brought) (ind-yes (eq_yes {a = m} {b = m} refl)) ∙ *ℤ-oneˡ brought))
          ∙ sym (come-way-step N K par L.allowed X v m (L.allowed.up v edge) edge)))
          (λ q. get_or-set_other ways m w y (pos 0) q ∙ t.way_held w (omega arith) k
          ∙ sym (come-way-step N K par L.allowed X v w h edge ∙ ap (λ z. come_way N K par X v w +ℤ z) (ap (λ z. z *ℤ brought) (ind-no (eq_no {a = m} {b = w} (λ r. q (sym r)))) ∙ zero-*ℤ brought) ∙ +ℤ_idr (come_way N K par X v w)))

      low : (w : ℕ) → w < suc v → w ≢ m
      low w h q = omega (arith, L.allowed.up v edge)

      pub gather_turn : GatherAt N K par X (v + 1) (set sizes m s) (set ways m y)
      gather_turn = rw add-one (record {
        here = edge;
        room_of_sizes = length-set sizes m s ∙ t.room_of_sizes;
        room_of_ways = length-set ways m y ∙ t.room_of_ways;
        size = λ w h. get_or-set_other sizes m w s (pos 0) (low w h) ∙ by_cases (ℕ_discrete w v) (λ q. rw q own-size) (λ q. t.size w (omega arith));
        way = λ w h. get_or-set_other ways m w y (pos 0) (low w h) ∙ by_cases (ℕ_discrete w v) (λ q. rw q own-way) (λ q. t.way w (omega arith));
        size_held = λ w h k. sizes-then w h k;
        way_held = λ w h k. ways_then w h k;
      })
