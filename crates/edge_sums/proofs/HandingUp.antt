-- Shares handed up. The idea: when the vertices below m have handed theirs to their parents, a vertex from m on has the shares
-- of those whose chains it is the first to meet there, so m itself has the shares of all that is below it.
use mathlib.Core.Path.{◌≡◌, refl, sym, ap, ap₂, ◌∙◌}
use mathlib.Core.List.{List, [], ◌∷◌}
use Prim.Native.Nat.{ℕ, suc, ◌+◌, ◌≤◌, ◌<◌, ◌^◌}
use native.Mathlib.Decide.{ℕ_discrete}
use native.Mathlib.Numerals.{add-one}
use native.Mathlib.Omega.{arith}
use lib.Dec.{eqb}
use lib.IntN.{ℤ, pos, nat_abs, ◌+ℤ◌, ◌*ℤ◌}
use lib.ListN.{length, set, length-set}
use lib.Seq.{get_or-set_same, get_or-set_other}
use Rattle.exact.specs.Sum.{sum, ind}
use Rattle.exact.specs.Table.{table, entry_of}
use Rattle.exact.proofs.Decide.{by_cases, eq_yes, eqb-sym}
use Rattle.exact.proofs.Fill.{length-table, get_or_table_const}
use Rattle.exact.proofs.Quote.{by-ring, quote}
use Rattle.exact.proofs.Ring.{*ℤ-oneˡ}
use Rattle.exact.proofs.Sum.{sum_cong, sum-+, sum-*, sum-at, ind-yes}
use Rattle.tree_theory.specs.Limits.{max_edges, max_vertices}
use Rattle.tree_theory.specs.Chain.{parent_of, below, lift, kid}
use Rattle.tree_theory.proofs.Chains.{bit, one_more}
use Rattle.meeting.specs.Shares.{Put, under, mass}
use Rattle.edge_sums.specs.Rooted.{Rooted}
use Rattle.edge_sums.specs.Sums.{HandedUp}
use Rattle.meeting.proofs.Putting.{mass-sum}

-- the shares that vertex w has when the vertices below m have handed theirs up
unfoldable pub come : (ℕ → ℕ) → List ℤ → ℕ → ℕ → ℤ
come par first m w = sum max_vertices (λ u. ind (eqb (lift par m u) w) *ℤ entry_of first u)

module _ (par : ℕ → ℕ) (first : List ℤ) where
  come-start : (w : ℕ) → w < max_vertices → come par first 0 w ≡ entry_of first w
  unfolding come lift
  come-start w h = sum-at max_vertices w (entry_of first) h

  come-own : (m : ℕ) → come par first m m ≡ under par first m
  unfolding come under below
  come-own m = refl

  come-at : (m w u : ℕ) → m < w → ind (eqb (lift par (suc m) u) w) ≡ ind (eqb (lift par m u) w) +ℤ ind (kid par w m) *ℤ bit par m u
  unfolding lift below
  come-at m w u h = one_more par w u m (lift par m u) (omega arith)

  come-kid : (m w : ℕ) → m < w → come par first (suc m) w ≡ come par first m w +ℤ ind (kid par w m) *ℤ under par first m
  come-kid m w h = unfold come under in
      sum_cong max_vertices (λ u _. ap (λ y. y *ℤ entry_of first u) (come-at m w u h)
      ∙ by-ring (ind (eqb (lift par m u) w) ∷ ind (kid par w m) ∷ bit par m u ∷ entry_of first u ∷ []) (search quote depth 20) tt)
      ∙ sum-+ max_vertices (λ u. ind (eqb (lift par m u) w) *ℤ entry_of first u) (λ u. ind (kid par w m) *ℤ (bit par m u *ℤ entry_of first u))
      ∙ ap (λ y. sum max_vertices (λ u. ind (eqb (lift par m u) w) *ℤ entry_of first u) +ℤ y) (sum-* max_vertices (ind (kid par w m)) (λ u. bit par m u *ℤ entry_of first u))

  come-step : (m w : ℕ) → m < w → come par first (suc m) w ≡ come par first m w +ℤ ind (eqb w (par m)) *ℤ under par first m
  come-step m w h = come-kid m w h ∙ ap (λ b. come par first m w +ℤ ind b *ℤ under par first m) (eqb-sym (par m) w)

  come_abs : (m w : ℕ) → nat_abs (come par first m w) ≤ mass max_vertices first
  unfolding come
  come_abs m w = mass-sum max_vertices first (λ u. eqb (lift par m u) w)

-- the loop: the edges below v have their sums, those from v on have zero yet, and the vertices from v on hold what has come so far
pub record SharesAt (K : ℕ) (ps : List ℕ) (first : List ℤ) (v : ℕ) (own sums : List ℤ) : Type 0 where
  pub here : v ≤ K
  pub size : length own ≡ max_vertices
  pub room : length sums ≡ max_edges
  pub done : (w : ℕ) → w < v → entry_of sums w ≡ under (parent_of ps) first w
  pub rest : (w : ℕ) → v ≤ w → entry_of sums w ≡ pos 0
  pub held : (w : ℕ) → v ≤ w → w < max_vertices → entry_of own w ≡ come (parent_of ps) first v w

module _ {K : ℕ} {ps : List ℕ} (w : Rooted K ps) (first : List ℤ) (light : mass max_vertices first < 2 ^ 63) where
  abbrev par : ℕ → ℕ
  par = parent_of ps

  pub hand_start : length first ≡ max_vertices → (sums : List ℤ) → sums ≡ table max_edges (λ _. pos 0) → SharesAt K ps first 0 first sums
  hand_start e sums f = record {
    here = omega arith;
    size = e;
    room = ap length f ∙ length-table max_edges (λ _. pos 0);
    done = λ u h. absurd (omega arith);
    rest = λ u _. ap (λ l. entry_of l u) f ∙ get_or_table_const max_edges (pos 0) u;
    held = λ u _ h. sym (come-start par first u h);
  }

  pub hand_end : {v : ℕ} {own sums : List ℤ} → K ≤ v → SharesAt K ps first v own sums → HandedUp K ps first sums
  hand_end h t = record {
    size = t.room;
    entries = λ u l. t.done u (omega arith);
    rest = λ u l. t.rest u (omega (arith, t.here));
  }

  module _ {v : ℕ} {own sums : List ℤ} (edge : v < K) (t : SharesAt K ps first v own sums) where
    pub parent_low : par v ≤ max_edges
    parent_low = omega (arith, w.top v edge, w.few)

    own-whole : entry_of own v ≡ under par first v
    own-whole = t.held v (omega arith) (omega (arith, w.few)) ∙ come-own par first v

    pub own_abs : nat_abs (entry_of own v) < 2 ^ 63
    own_abs = omega (arith, ap nat_abs (t.held v (omega arith) (omega (arith, w.few))), come_abs par first v v)

    pub parent_abs : nat_abs (entry_of own (par v)) < 2 ^ 63
    parent_abs = omega (arith, ap nat_abs (t.held (par v) (omega (arith, w.up v edge)) (omega (arith, parent_low))), come_abs par first v (par v))

    -- what the parent has once v's share is added
    at_parent : entry_of own (par v) +ℤ entry_of own v ≡ come par first (suc v) (par v)
    at_parent = ap₂ ◌+ℤ◌ (t.held (par v) (omega (arith, w.up v edge)) (omega (arith, parent_low))) own-whole
        ∙ ap (λ y. come par first v (par v) +ℤ y) (sym (ap (λ y. y *ℤ under par first v) (ind-yes (eq_yes {a = par v} {b = par v} refl)) ∙ *ℤ-oneˡ (under par first v)))
        ∙ sym (come-step par first v (par v) (w.up v edge))

    pub hand_room : (x : ℤ) → x ≡ entry_of own v → nat_abs (entry_of own (par v) +ℤ x) < 2 ^ 63
    hand_room x e = omega (arith, come_abs par first (suc v) (par v), ap nat_abs (ap (λ y. entry_of own (par v) +ℤ y) e ∙ at_parent))

    pub hand_turn : (x y : ℤ) (new : List ℤ) → x ≡ entry_of own v → y ≡ entry_of own v → Put (par v) x own new → SharesAt K ps first (v + 1) new (set sums v y)
    hand_turn x y new e f p = rw add-one (record {
      here = edge;
      size = p.size;
      room = simp length-set t.room;
      done = λ u h. by_cases (ℕ_discrete u v)
          (λ r. rw r (get_or-set_same sums v y (pos 0) (omega (arith, t.room, w.few)) ∙ f ∙ own-whole))
          (λ r. get_or-set_other sums v u y (pos 0) r ∙ t.done u (omega arith));
      rest = λ u h. get_or-set_other sums v u y (pos 0) (λ q. omega arith) ∙ t.rest u (omega arith);
      held = λ u h k. p.entries u ∙ ap₂ (λ a b. a +ℤ ind (eqb u (par v)) *ℤ b) (t.held u (omega arith) k) (e ∙ own-whole) ∙ sym (come-step par first v u h);
    })
