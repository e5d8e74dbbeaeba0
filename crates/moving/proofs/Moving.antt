-- Two climbs at once. The idea: the lower of two different vertices is an edge of their path, and its parent stands in for it afterwards; so
-- what has been moved and what is left of the path are always the whole path together (`whole` of `MovingAt`).
-- `move_start`, `move_turn`, `move_end`: before the first turn, from one to the next, behind the last. `nearer`: the climbs come to an end.
use mathlib.Core.Path.{◌≡◌, refl, sym, ◌∙◌, ap, ap₂}
use mathlib.Core.List.{List, [], ◌∷◌}
use mathlib.Core.Logic.{⊎_elim}
use Prim.Native.Nat.{ℕ, ◌+◌, ◌-◌, ◌≤◌, ◌<◌, ◌^◌}
use native.Mathlib.Decide.{ℕ_discrete}
use native.Mathlib.Omega.{arith}
use lib.Dec.{eqb}
use lib.IntN.{ℤ, pos, nat_abs, ◌+ℤ◌, ◌-ℤ◌, ◌*ℤ◌, zero-*ℤ, +ℤ_idr}
use lib.ListN.{length, set, length-set}
use lib.Seq.{get_or-set_same, get_or-set_other}
use Rattle.exact.specs.Sum.{ind}
use Rattle.exact.specs.Table.{entry_of}
use Rattle.exact.proofs.Decide.{by_cases, eq_yes, eq_no}
use Rattle.exact.proofs.Quote.{by-ring, quote}
use Rattle.exact.proofs.Sign.{nat_abs_add, nat_abs_sub}
use Rattle.exact.proofs.Sum.{ind-yes, ind-no}
use Rattle.exact.proofs.Sweep.{ind_abs}
use Rattle.tree_theory.specs.Limits.{max_edges}
use Rattle.tree_theory.specs.Chain.{parent_of, parts}
use Rattle.tree_theory.proofs.Chains.{climb, parts-sym, parts_self}
use Rattle.moving.specs.Moved.{Moved, Movable, Ordered}
use Rattle.moving.specs.declared.Ends.{Ends}

-- the climbs stand at a and b
pub record MovingAt (K : ℕ) (ps : List ℕ) (i j : ℕ) (z : ℤ) (first : List ℤ) (a b : ℕ) (x : List ℤ) : Type 0 where
  pub a-on : a ≤ K
  pub b_on : b ≤ K
  pub size : length x ≡ max_edges
  pub whole : (v : ℕ) → v < K → entry_of x v +ℤ ind (parts (parent_of ps) v a b) *ℤ z ≡ entry_of first v +ℤ ind (parts (parent_of ps) v i j) *ℤ z
  pub rest : (v : ℕ) → K ≤ v → entry_of x v ≡ entry_of first v

-- what was added and taken off, and one more or none more of z
taken : (x q : ℤ) → x ≡ x +ℤ q -ℤ q
taken x q = by-ring (x ∷ q ∷ []) (search quote depth 20) tt

one_more : (x z y : ℤ) → x +ℤ z +ℤ y *ℤ z ≡ x +ℤ (pos 1 +ℤ y) *ℤ z
one_more x z y = by-ring (x ∷ z ∷ y ∷ []) (search quote depth 20) tt

none_more : (y : ℤ) → pos 0 +ℤ y ≡ y
none_more y = by-ring (y ∷ []) (search quote depth 20) tt

module _ {K : ℕ} {ps : List ℕ} {i j : ℕ} {z : ℤ} {first : List ℤ} (w : Movable K ps z first) where
  pub move_start : i ≤ K → j ≤ K → MovingAt K ps i j z first i j first
  move_start hi hj = record { a-on = hi; b_on = hj; size = w.size; whole = λ v _. refl; rest = λ v _. refl }

  pub move_end : {a b : ℕ} {x : List ℤ} → a ≡ b → MovingAt K ps i j z first a b x → Moved K ps i j z first x
  move_end {a} {b} {x} e t = record {
    size = t.size ∙ sym w.size;
    entries = λ v l. sym (ap (λ (y : ℤ). entry_of x v +ℤ y) (ap (λ (y : ℤ). y *ℤ z) (ap (λ (c : ℕ). ind (parts (parent_of ps) v a c)) (sym e) ∙ parts_self (parent_of ps) v a) ∙ zero-*ℤ z) ∙ +ℤ_idr (entry_of x v)) ∙ t.whole v l;
    rest = t.rest;
  }

  module _ {a b : ℕ} {x : List ℤ} {r : Ends} (t : MovingAt K ps i j z first a b x) (o : Ordered a b r) where
    pub edge : r.low < K
    edge = ⊎_elim (λ (q : (r.low ≡ a) × (r.high ≡ b)). omega (arith, q.1, o.rising, t.b_on)) (λ (q : (r.low ≡ b) × (r.high ≡ a)). omega (arith, q.1, o.rising, t.a-on)) o.same

    high-on : r.high ≤ K
    high-on = ⊎_elim (λ (q : (r.low ≡ a) × (r.high ≡ b)). omega (arith, q.1, t.b_on)) (λ (q : (r.low ≡ b) × (r.high ≡ a)). omega (arith, q.1, t.a-on)) o.same

    pub slot : r.low < max_edges
    slot = omega (arith, edge, w.few)

    -- what is left of the path, by the two in their order, and by what is left behind the lower one
    left : (v : ℕ) → ind (parts (parent_of ps) v a b) ≡ ind (parts (parent_of ps) v r.low r.high)
    left v = ⊎_elim (λ (q : (r.low ≡ a) × (r.high ≡ b)). sym (ap₂ (λ (m n : ℕ). ind (parts (parent_of ps) v m n)) q.0 q.1))
        (λ (q : (r.low ≡ b) × (r.high ≡ a)). parts-sym (parent_of ps) v a b ∙ sym (ap₂ (λ (m n : ℕ). ind (parts (parent_of ps) v m n)) q.0 q.1)) o.same

    ahead : (v : ℕ) → v < K → ind (parts (parent_of ps) v a b) ≡ ind (eqb v r.low) +ℤ ind (parts (parent_of ps) v (parent_of ps r.low) r.high)
    ahead v l = left v ∙ climb (parent_of ps) K w.up v r.low r.high l edge o.rising

    pub entry-near : nat_abs (entry_of x r.low) < 2 ^ 62
    entry-near = let v = r.low in
        let p = ind (parts (parent_of ps) v i j) *ℤ z in let q = ind (parts (parent_of ps) v a b) *ℤ z in
        let e : entry_of x v ≡ entry_of first v +ℤ p -ℤ q = taken (entry_of x v) q ∙ ap (λ (y : ℤ). y -ℤ q) (t.whole v edge) in
        omega (arith, ap nat_abs e, nat_abs_sub (entry_of first v +ℤ p) q, nat_abs_add (entry_of first v) p, ind_abs (parts (parent_of ps) v i j) z, ind_abs (parts (parent_of ps) v a b) z, w.near v edge, w.by)

    pub move_turn : (y : ℤ) → y ≡ entry_of x r.low +ℤ z → MovingAt K ps i j z first (parent_of ps r.low) r.high (set x r.low y)
    move_turn y e = record {
      a-on = w.top r.low edge;
      b_on = high-on;
      size = length-set x r.low y ∙ t.size;
      whole = λ v l. by_cases (ℕ_discrete v r.low)
          (λ q. ap (λ (c : ℤ). c +ℤ behind v *ℤ z) (ap (entry_of (set x r.low y)) q ∙ get_or-set_same x r.low y (pos 0) (omega (arith, slot, t.size)) ∙ e ∙ ap (λ (c : ℕ). entry_of x c +ℤ z) (sym q))
          ∙ one_more (entry_of x v) z (behind v)
          ∙ ap (λ (c : ℤ). entry_of x v +ℤ c *ℤ z) (sym (ahead v l ∙ ap (λ (c : ℤ). c +ℤ behind v) (ind-yes (eq_yes q)))) ∙ t.whole v l)
          (λ q. ap (λ (c : ℤ). c +ℤ behind v *ℤ z) (get_or-set_other x r.low v y (pos 0) q)
          ∙ ap (λ (c : ℤ). entry_of x v +ℤ c *ℤ z) (sym (ahead v l ∙ ap (λ (c : ℤ). c +ℤ behind v) (ind-no (eq_no q)) ∙ none_more (behind v))) ∙ t.whole v l);
      rest = λ v l. get_or-set_other x r.low v y (pos 0) (λ q. omega (arith, q, edge)) ∙ t.rest v l;
    }
      where
        behind : ℕ → ℤ
        behind v = ind (parts (parent_of ps) v (parent_of ps r.low) r.high)

    -- what is left to climb
    pub nearer : (K - parent_of ps r.low) + (K - r.high) < (K - a) + (K - b)
    nearer = ⊎_elim (λ (q : (r.low ≡ a) × (r.high ≡ b)). omega (arith, q.0, q.1, edge, w.up r.low edge)) (λ (q : (r.low ≡ b) × (r.high ≡ a)). omega (arith, q.0, q.1, edge, w.up r.low edge)) o.same

    pub parent_on : parent_of ps r.low ≤ max_edges
    parent_on = omega (arith, w.top r.low edge, w.few)
