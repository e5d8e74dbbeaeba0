-- The pass down. The idea: from the root on a vertex has the paths to all strains, by those of its parent, and with them and what came up its edge
-- has the paths of the pairs that it parts. Both are put where what came up stood: no later turn reads that again.
use mathlib.Core.Path.{◌≡◌, sym, ap, ap₂, ◌∙◌}
use mathlib.Core.List.{List}
use mathlib.Core.Logic.{◌≢◌}
use Prim.Native.Nat.{ℕ, ◌+◌, ◌-◌, ◌*◌, ◌≤◌, ◌<◌, ◌^◌}
use native.Mathlib.Decide.{ℕ_discrete, dec_le}
use native.Mathlib.Nat.{mul-le-mul_right}
use native.Mathlib.Omega.{arith}
use lib.IntN.{ℤ, pos, nat_abs, ◌+ℤ◌, ◌-ℤ◌, ◌*ℤ◌}
use lib.ListN.{length, set, length-set}
use lib.Seq.{get_or-set_same, get_or-set_other}
use Rattle.exact.specs.Table.{entry_of}
use Rattle.exact.proofs.Decide.{by_cases}
use Rattle.exact.proofs.Sign.{nat_abs_sub}
use Rattle.exact.proofs.Sweep.{sum_abs}
use Rattle.tree_theory.specs.Limits.{max_edges, max_vertices}
use Rattle.tree_theory.specs.Chain.{parent_of}
use Rattle.tree_theory.proofs.Chains.{along}
use Rattle.paths.specs.Standing.{max_thousandths}
use Rattle.paths.proofs.Bounds.{farthest_path}
use Rattle.inner_paths.specs.Between.{Lengthened}
use Rattle.path_sums.specs.Sums.{path_sum, crowd, ways_up, ways_out, Gathered, PathSums}
use Rattle.path_sums.proofs.Sides.{out-root, out_step, over}
use Rattle.path_sums.proofs.Gathering.{few, near, farthest, mul-near}
use Rattle.path_sums.proofs.Spans as spans

-- the vertices from w on have their paths to all strains, and their edges their sums; those before w have what came up
pub record SpreadAt (N K : ℕ) (par : ℕ → ℕ) (X : ℕ → ℤ) (w : ℕ) (sizes ways : List ℤ) : Type 0 where
  pub here : w ≤ K
  pub room_of_sizes : length sizes ≡ max_vertices
  pub room_of_ways : length ways ≡ max_vertices
  pub size : (u : ℕ) → u < w → entry_of sizes u ≡ crowd N par u
  pub way : (u : ℕ) → u < w → entry_of ways u ≡ ways_up N K par X u
  pub done : (u : ℕ) → w ≤ u → u < K → entry_of sizes u ≡ path_sum N K par X u
  pub out : (u : ℕ) → w ≤ u → u ≤ K → entry_of ways u ≡ ways_out N K par X u

module _ {N K : ℕ} {ps : List ℕ} {x : List ℤ} (L : Lengthened N K ps x) where
  abbrev par : ℕ → ℕ
  par = parent_of ps

  abbrev X : ℕ → ℤ
  X = entry_of x

  pub out-near : (v : ℕ) → nat_abs (ways_out N K par X v) ≤ farthest
  unfolding ways_out
  out-near v = omega (arith, sum_abs N farthest_path (λ i. along par K X v i) (λ i _. near L v i), mul-le-mul_right farthest_path L.allowed.few)

  pub spread-start : {sizes ways : List ℤ} → Gathered N K par X sizes ways → SpreadAt N K par X K sizes ways
  spread-start g = record {
    here = omega arith;
    room_of_sizes = g.room_of_sizes;
    room_of_ways = g.room_of_ways;
    size = λ u l. g.size u (omega arith);
    way = λ u l. g.way u (omega arith);
    done = λ u l k. absurd (omega arith);
    out = λ u l k. let q : u ≡ K = omega arith in rw q (g.way K (omega arith) ∙ sym (out-root N K par L.allowed X));
  }

  pub spread_end : {w : ℕ} {sizes ways : List ℤ} → w ≤ 0 → SpreadAt N K par X w sizes ways → PathSums N K par X sizes
  spread_end h t = record { size = t.room_of_sizes; entries = λ u l. t.done u (omega arith) l }

  module _ {w : ℕ} {sizes ways : List ℤ} (more : 0 < w) (t : SpreadAt N K par X w sizes ways) where
    abbrev u : ℕ
    u = w - 1

    pub edge : u < K
    edge = omega (arith, t.here)

    pub parent_low : par u ≤ max_edges
    parent_low = omega (arith, L.allowed.top u edge, few L)

    above-is : entry_of ways (par u) ≡ ways_out N K par X (par u)
    above-is = t.out (par u) (omega (arith, L.allowed.up u edge)) (L.allowed.top u edge)

    size_is : entry_of sizes u ≡ crowd N par u
    size_is = t.size u (omega arith)

    way-is : entry_of ways u ≡ ways_up N K par X u
    way-is = t.way u (omega arith)

    -- what is read fits
    pub above-near : nat_abs (entry_of ways (par u)) ≤ farthest
    above-near = omega (arith, ap nat_abs above-is, out-near (par u))

    pub size-near : nat_abs (entry_of sizes u) ≤ 64
    size-near = omega (arith, ap nat_abs size_is, spans.crowd-near L.allowed L.small u edge)

    pub way-near : nat_abs (entry_of ways u) < 2 ^ 63
    way-near = omega (arith, ap nat_abs way-is, spans.up_abs L.allowed L.small u edge, spans.in_few L.allowed L.small u edge)

    pub step-near : nat_abs (X u) ≤ max_thousandths
    step-near = L.small.near u edge

    -- one vertex down
    pub twice-near : nat_abs (pos 2 *ℤ entry_of sizes u) ≤ 128
    twice-near = mul-near (pos 2) (entry_of sizes u) {a = 2} {b = 64} (omega arith) size-near

    pub sides-near : nat_abs (pos N -ℤ pos 2 *ℤ entry_of sizes u) ≤ 192
    sides-near = omega (arith, nat_abs_sub (pos N) (pos 2 *ℤ entry_of sizes u), twice-near, L.allowed.few)

    pub moved-near : nat_abs (X u *ℤ (pos N -ℤ pos 2 *ℤ entry_of sizes u)) < 2 ^ 63
    moved-near = omega (arith, mul-near (X u) (pos N -ℤ pos 2 *ℤ entry_of sizes u) {a = max_thousandths} {b = 192} step-near sides-near)

    pub down_is : entry_of ways (par u) +ℤ X u *ℤ (pos N -ℤ pos 2 *ℤ entry_of sizes u) ≡ ways_out N K par X u
    down_is = ap₂ (λ a b. a +ℤ X u *ℤ (pos N -ℤ pos 2 *ℤ b)) above-is size_is ∙ sym (out_step N K par L.allowed X u edge)

    pub down-near : nat_abs (entry_of ways (par u) +ℤ X u *ℤ (pos N -ℤ pos 2 *ℤ entry_of sizes u)) < 2 ^ 63
    down-near = omega (arith, ap nat_abs down_is, out-near u)

    -- across its edge
    pub beyond-near : nat_abs (pos N -ℤ entry_of sizes u) < 2 ^ 63
    beyond-near = omega (arith, ap (λ y. nat_abs (pos N -ℤ y)) size_is, spans.beyond-near L.allowed L.small u edge)

    module _ (f : ℤ) (e : f ≡ ways_out N K par X u) where
      pub far-near : nat_abs f < 2 ^ 63
      far-near = omega (arith, ap nat_abs e, out-near u)

      pub on-near : nat_abs (f -ℤ entry_of ways u) < 2 ^ 63
      on-near = omega (arith, ap nat_abs (ap₂ ◌-ℤ◌ e way-is), spans.on_abs L.allowed L.small u edge, spans.out-few L.allowed L.small u edge)

      pub first-near : nat_abs ((pos N -ℤ entry_of sizes u) *ℤ entry_of ways u) < 2 ^ 63
      first-near = omega (arith, ap nat_abs (ap₂ (λ a b. (pos N -ℤ a) *ℤ b) size_is way-is), spans.first-near L.allowed L.small u edge)

      pub second-near : nat_abs (entry_of sizes u *ℤ (f -ℤ entry_of ways u)) < 2 ^ 63
      second-near = omega (arith, ap nat_abs (ap₂ ◌*ℤ◌ size_is (ap₂ ◌-ℤ◌ e way-is)), spans.second-near L.allowed L.small u edge)

      pub across-is : (pos N -ℤ entry_of sizes u) *ℤ entry_of ways u +ℤ entry_of sizes u *ℤ (f -ℤ entry_of ways u) ≡ path_sum N K par X u
      across-is = ap₂ ◌+ℤ◌ (ap₂ (λ a b. (pos N -ℤ a) *ℤ b) size_is way-is) (ap₂ ◌*ℤ◌ size_is (ap₂ ◌-ℤ◌ e way-is)) ∙ sym (over N K par L.allowed X u edge)

      pub sum_near : nat_abs ((pos N -ℤ entry_of sizes u) *ℤ entry_of ways u +ℤ entry_of sizes u *ℤ (f -ℤ entry_of ways u)) < 2 ^ 63
      sum_near = omega (arith, ap nat_abs across-is, spans.sum_near L.allowed L.small u edge)

    pub spread-turn : (f s : ℤ) → f ≡ ways_out N K par X u → s ≡ path_sum N K par X u → SpreadAt N K par X (w - 1) (set sizes u s) (set ways u f)
    spread-turn f s e h = record {
      here = omega (arith, edge);
      room_of_sizes = length-set sizes u s ∙ t.room_of_sizes;
      room_of_ways = length-set ways u f ∙ t.room_of_ways;
      size = λ v l. get_or-set_other sizes u v s (pos 0) (λ q. omega arith) ∙ t.size v (omega arith);
      way = λ v l. get_or-set_other ways u v f (pos 0) (λ q. omega arith) ∙ t.way v (omega arith);
      done = λ v l k. by_cases (ℕ_discrete v u)
          (λ q. rw q (get_or-set_same sizes u s (pos 0) (omega (arith, t.room_of_sizes, edge, few L)) ∙ h))
          (λ q. get_or-set_other sizes u v s (pos 0) q ∙ t.done v (later v l q) k);
      out = λ v l k. by_cases (ℕ_discrete v u)
          (λ q. rw q (get_or-set_same ways u f (pos 0) (omega (arith, t.room_of_ways, edge, few L)) ∙ e))
          (λ q. get_or-set_other ways u v f (pos 0) q ∙ t.out v (later v l q) k);
    }
      where
        later : (v : ℕ) → u ≤ v → v ≢ u → w ≤ v
        later v l q = by_cases (dec_le w v) (λ z. z) (λ z. absurd (q (omega arith)))
