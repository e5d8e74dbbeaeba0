-- The pass from the leaves up, one turn an edge. When vertex v's turn comes, the pairs that stand at one vertex have met, and below each
-- edge the shares come to what those pairs give it. At the root all stand together.
-- `gather_start` starts it, `gather_turn` is one turn, `gather_end` its end.
use mathlib.Core.Path.{◌≡◌, refl, sym, ◌∙◌, ap, ap₂, subst}
use mathlib.Core.Bool.{Bool, true, false, cond, true≢false}
use mathlib.Core.List.{List, [], ◌∷◌}
use mathlib.Core.Logic.{◌≢◌}
use Prim.Native.Nat.{ℕ, suc, ◌+◌, ◌*◌, ◌≤◌, ◌<◌, ◌^◌}
use native.Mathlib.Decide.{ℕ_discrete, dec_lt, dec_le}
use native.Mathlib.Nat.{mul-le-mul}
use native.Mathlib.Numerals.{add-one}
use native.Mathlib.Omega.{arith}
use lib.Bits.{bit_or}
use lib.Count.{ones}
use lib.Dec.{eqb, T, eqb→eq}
use lib.IntN.{ℤ, pos, nat_abs, ◌+ℤ◌, ◌-ℤ◌, ◌*ℤ◌, zero-*ℤ, *ℤ-zero}
use lib.ListN.{length, get_or, set}
use mir.Syntax.{w64}
use mir.Val.{to_z, of_z}
use Rattle.exact.specs.Sum.{pairs, ind}
use Rattle.exact.specs.Table.{table, entry_of}
use Rattle.exact.proofs.Decide.{by_cases, eq_yes, eq_no}
use Rattle.exact.proofs.Fill.{length-table, get_or_table_const}
use Rattle.exact.proofs.Quote.{by-ring, quote}
use Rattle.exact.proofs.Ring.{*ℤ-oneˡ}
use Rattle.exact.proofs.Sign.{nat_abs_add, back}
use Rattle.exact.proofs.Sweep.{ind_abs}
use Rattle.exact.proofs.Sum.{sum_cong, pairs_cong, pairs-sums, S-zero, ind-yes, ind-no}
use Rattle.matrix.specs.Limits.{max_strains}
use Rattle.matrix.specs.Place.{place, pair_place, is_measured, known, measured, distance, measured_of, distance_of}
use Rattle.tree_theory.specs.Limits.{max_edges, max_vertices}
use Rattle.tree_theory.specs.Chain.{parent_of, parts_pair, parts, lift, below}
use Rattle.tree_theory.specs.Cluster.{bit_at, mask}
use Rattle.tree_theory.proofs.Chains.{Below, bit, along, along-sym, parts-sym, below_true, below_root}
use Rattle.tree_theory.proofs.Masks.{mask-bit, mask_lt, masks-apart, bit_past}
use Rattle.clusters.proofs.Handing.{Handed, own_bits, hand_none, hand_more, own-done}
use Rattle.lengths.specs.Limits.{max_numerator}
use Rattle.pairs.specs.Ready.{Ready, InRange, remainder_at}
use Rattle.edge_sums.specs.Sums.{share}
use Rattle.meeting.specs.Shares.{under, mass}
use Rattle.meeting.specs.Meeting.{farthest_way, largest_remainder, pair_mass, Carrying, Carried, Apart, Met, over, remainder_by_ways}
use Rattle.fit_theory.specs.Quantities.{parts_in}
use Rattle.fit_theory.proofs.Measured.{measured-path, missing-remainder}
use Rattle.fit_theory.proofs.Ranges.{remainder-range}
use Rattle.paths.proofs.Bounds.{few-edges}
use Rattle.pairs.proofs.Bounded.{in_bounds}
use Rattle.meeting.proofs.Putting.{under_none, mass-none}
use Rattle.matrix.proofs.Places.{pair-place-up, pair-place-sym}
use Rattle.meeting.proofs.ByWays.{by_ways_is, by_ways_none}
use Rattle.meeting.proofs.Masked.{over_cong, over-mask}
use Rattle.exact.proofs.Square.{square}
use Rattle.edge_sums.proofs.Turning.{climbed, climbed-none, climbed-more, parts_meet, turns, path-turns, together, stands, together-more}

-- at most 1408 pairs meet at one turn
few-pairs : (x y : ℕ) → x + y ≤ max_strains → x * y ≤ 1408
few-pairs x y h = by_cases (dec_le x 22)
    (λ l. omega (arith, mul-le-mul {n₁ = x} {m₁ = y} {n₂ = 22} {m₂ = 64} l (omega arith)))
    (λ l. by_cases (dec_le x 32)
    (λ k. omega (arith, mul-le-mul {n₁ = x} {m₁ = y} {n₂ = 32} {m₂ = 41} k (omega arith)))
    (λ k. by_cases (dec_le x 42)
    (λ q. omega (arith, mul-le-mul {n₁ = x} {m₁ = y} {n₂ = 42} {m₂ = 31} q (omega arith)))
    (λ q. omega (arith, mul-le-mul {n₁ = x} {m₁ = y} {n₂ = 64} {m₂ = 21} (omega arith) (omega arith)))))

-- the shares of one turn together
abbrev pub turn_mass : ℕ
turn_mass = 1408 * pair_mass

pub record Gathered (N K D : ℕ) (ds ps : List ℕ) (ns : List ℤ) (v : ℕ) (own ways : List ℤ) (come : List ℕ) : Type 0 where
  pub here : v ≤ K
  pub size : length own ≡ max_vertices
  pub long : length ways ≡ max_strains
  pub held : Handed N (parent_of ps) v come
  pub low : (i : ℕ) → nat_abs (entry_of ways i) ≤ v * max_numerator
  pub climbs : (i : ℕ) → i < N → entry_of ways i ≡ climbed (parent_of ps) (entry_of ns) v i
  pub light : mass max_vertices own ≤ v * turn_mass
  pub entries : (w : ℕ) → w < K → under (parent_of ps) own w ≡ pairs N (λ p. ind (together (parent_of ps) v p) *ℤ share K D ds ps ns w p)

less_two : (x y z : ℤ) → x -ℤ y -ℤ z ≡ x -ℤ (z +ℤ y)
less_two x y z = by-ring (x ∷ y ∷ z ∷ []) (search quote depth 20) tt

-- no two strains stand together at the start
alone : (par : ℕ → ℕ) (p : ℕ × ℕ) → p.0 < p.1 → together par 0 p ≡ false
unfolding lift
alone par p l = eq_no {a = p.0} {b = p.1} (omega arith)

-- none stands at two vertices
apart-at : (par : ℕ → ℕ) (v w i : ℕ) → v ≢ w → bit par v i *ℤ stands par v w i ≡ pos 0
unfolding below
apart-at par v w i n = by_cases (ℕ_discrete (lift par v i) v)
    (λ e. ap (λ y. ind (eqb (lift par v i) v) *ℤ y) (ind-no (eq_no (λ q. n (sym e ∙ q)))) ∙ *ℤ-zero (ind (eqb (lift par v i) v)))
    (λ e. ap (λ y. y *ℤ stands par v w i) (ind-no (eq_no e)) ∙ zero-*ℤ (stands par v w i))

module _ {N K D : ℕ} {ds ps cs : List ℕ} {ns : List ℤ} (w : Ready N K D ds ps cs ns) where
  abbrev par : ℕ → ℕ
  par = parent_of ps

  pub gather_start : (own ways : List ℤ) (come : List ℕ) → own ≡ table max_vertices (λ _. pos 0) → ways ≡ table max_strains (λ _. pos 0) → come ≡ own_bits N
      → Gathered N K D ds ps ns 0 own ways come
  gather_start own ways come e f g = record {
    here = omega arith;
    size = ap length e ∙ length-table max_vertices (λ _. pos 0);
    long = ap length f ∙ length-table max_strains (λ _. pos 0);
    held = hand_none N par (omega (arith, w.standing.allowed.few)) come g;
    low = λ i. omega (arith, ap nat_abs (none i));
    climbs = λ i _. none i ∙ sym (climbed-none par (entry_of ns) i);
    light = omega (arith, mass-none max_vertices own e);
    entries = λ u _. under_none par own e u ∙ sym (pairs_cong N (λ p l _. ap (λ y. y *ℤ share K D ds ps ns u p) (ind-no (alone par p l)) ∙ zero-*ℤ (share K D ds ps ns u p)) ∙ S-zero (pairs-sums N));
  }
    where
      none : (i : ℕ) → entry_of ways i ≡ pos 0
      none i = ap (λ (l : List ℤ). entry_of l i) f ∙ get_or_table_const max_strains (pos 0) i

  pub gather_end : {v : ℕ} {own ways : List ℤ} {come : List ℕ} → K ≤ v → Gathered N K D ds ps ns v own ways come
      → (u : ℕ) → u < K → under par own u ≡ pairs N (share K D ds ps ns u)
  gather_end {v} h g u l =
      let e : v ≡ K = omega (arith, g.here) in
      g.entries u l ∙ pairs_cong N (λ p a b. ap (λ y. y *ℤ share K D ds ps ns u p) (ind-yes (rw e (root p a b))) ∙ *ℤ-oneˡ (share K D ds ps ns u p))
    where
      root : (p : ℕ × ℕ) → p.0 < p.1 → p.1 < N → together par K p ≡ true
      root p a b = let q = w.standing.allowed in eq_yes
          (below_root par K q.up q.top p.0 (omega (arith, q.edges)) ∙ sym (below_root par K q.up q.top p.1 (omega (arith, q.edges))))

  -- ---- the remainder of a pair, whichever strain is named first: 0 where the pair is missing
  abbrev rest_at : ℕ → ℤ → ℤ
  rest_at x y = cond (is_measured x) (pos D *ℤ pos (known x) -ℤ y) (pos 0)

  abbrev rest : ℕ → ℕ → ℤ
  rest i j = rest_at (get_or ds (pair_place i j) 0) (along par K (entry_of ns) i j)

  rest-sym : (i j : ℕ) → rest i j ≡ rest j i
  rest-sym i j = ap₂ (λ (k : ℕ) y. rest_at (get_or ds k 0) y) (pair-place-sym i j) (along-sym par K (entry_of ns) i j)

  rest-remainder : (i j : ℕ) → i < j → rest i j ≡ remainder_at K D ds ps ns (i, j)
  rest-remainder i j l = ap (λ (k : ℕ). rest_at (get_or ds k 0) (along par K (entry_of ns) i j)) (pair-place-up i j l) ∙ go (measured ds (i, j)) refl
    where
      go : (m : Bool) → measured ds (i, j) ≡ m → rest_at (get_or ds (place i j) 0) (along par K (entry_of ns) i j) ≡ remainder_at K D ds ps ns (i, j)
      go true m = rw m (ap (λ (y : ℤ). distance_term -ℤ y) (sym (measured-path ds ps (i, j) m K (entry_of ns))))
        where
          distance_term : ℤ
          distance_term = pos D *ℤ distance ds (i, j)
      go false m = rw m (sym (missing-remainder ds ps (i, j) m K (pos D) (entry_of ns)))

  module _ (t : InRange K ns) where
    rest-near : (i j : ℕ) → i ≢ j → nat_abs (rest i j) ≤ largest_remainder
    rest-near i j n = by_cases (dec_lt i j)
        (λ l. omega (arith, ap nat_abs (rest-remainder i j l), remainder-range (in_bounds w t) (parts_in ds ps) (i, j)))
        (λ l. omega (arith, ap nat_abs (rest-sym i j), ap nat_abs (rest-remainder j i (omega arith)), remainder-range (in_bounds w t) (parts_in ds ps) (j, i)))

    -- ---- one turn
    module _ {v : ℕ} {own ways : List ℤ} {come : List ℕ} (g : Gathered N K D ds ps ns v own ways come) (edge : v < K) where
      abbrev m : ℕ
      m = par v

      abbrev here : ℕ
      here = get_or cs v 0

      abbrev there : ℕ
      there = get_or come m 0

      up : v < m
      up = w.standing.allowed.up v edge

      pub parent_low : m ≤ max_edges
      parent_low = omega (arith, w.standing.allowed.top v edge, few-edges w.standing)

      pub numerator-back : to_z w64 (of_z w64 (entry_of ns v)) ≡ entry_of ns v
      numerator-back = back (entry_of ns v) (omega (arith, t.near v edge))

      pub numerator-low : nat_abs (to_z w64 (of_z w64 (entry_of ns v))) ≤ max_numerator
      numerator-low = omega (arith, ap nat_abs numerator-back, t.near v edge)

      pub ways_low : (i : ℕ) → nat_abs (entry_of ways i) ≤ farthest_way
      ways_low i = omega (arith, g.low i, parent_low, up)

      here-is : here ≡ mask N (λ i. below par i v)
      here-is = w.standing.masks v (omega arith)

      there-is : there ≡ mask N (λ i. eqb (lift par v i) m)
      there-is = g.held.held m (omega (arith, up))

      -- a strain of a mask
      in_mask : (k : ℕ) (b : ℕ → Bool) (i : ℕ) → k ≡ mask N b → bit_at k i ≡ true → (i < N) × (b i ≡ true)
      in_mask k b i e h = by_cases (dec_lt i N)
          (λ l. (l, sym (mask-bit N b i l) ∙ ap (λ (y : ℕ). bit_at y i) (sym e) ∙ h))
          (λ l. absurd (true≢false (sym h ∙ ap (λ (y : ℕ). bit_at y i) e ∙ bit_past N (mask N b) i (mask_lt N b) (omega arith))))

      at_here : (j : ℕ) → bit_at here j ≡ true → (j < N) × Below par j v
      at_here j h = let q = in_mask here (λ i. below par i v) j here-is h in (q.0, below_true par j v q.1)

      at_there : (i : ℕ) → bit_at there i ≡ true → (i < N) × (lift par v i ≡ m)
      at_there i h = let q = in_mask there (λ k. eqb (lift par v k) m) i there-is h in (q.0, eqb→eq (lift par v i) m (subst T (sym q.1) tt))

      never_both : (i : ℕ) → lift par v i ≡ v → lift par v i ≡ m → ⊥
      never_both i a b = omega (arith, up, a, b)

      pairs-few : ones here * ones there ≤ 1408
      pairs-few = few-pairs (ones here) (ones there) (omega (
        arith,
        ap ones here-is,
        ap ones there-is,
        masks-apart N (λ i. below par i v) (λ i. eqb (lift par v i) m) (λ i a b. never_both i (below_true par i v a) (eqb→eq (lift par v i) m (subst T (sym b) tt))),
        w.standing.allowed.few,
      ))

      pub turn-room : mass max_vertices own + pair_mass * (ones here * ones there) < 2 ^ 63
      turn-room = omega (arith, g.light, pairs-few, parent_low, up)

      module _ {x : ℤ} (ex : x ≡ entry_of ns v) {ways' : List ℤ} (c : Carried here x ways ways') where
        low' : (i : ℕ) → nat_abs (entry_of ways' i) ≤ suc v * max_numerator
        low' i = omega (arith, ap nat_abs (c.entries i), nat_abs_add (entry_of ways i) (ind (bit_at here i) *ℤ x), ind_abs (bit_at here i) x, ap nat_abs ex, t.near v edge, g.low i)

        climbs' : (i : ℕ) → i < N → entry_of ways' i ≡ climbed par (entry_of ns) (suc v) i
        climbs' i l = c.entries i
            ∙ ap₂ (λ y z. y +ℤ z *ℤ x) (g.climbs i l) (ap (λ (k : ℕ). ind (bit_at k i)) here-is ∙ ap ind (mask-bit N (λ k. below par k v) i l))
            ∙ ap (λ y. climbed par (entry_of ns) v i +ℤ bit par v i *ℤ y) ex
            ∙ sym (climbed-more par (entry_of ns) v i)

        pub carrying : Carrying N D ds ways'
        carrying = record { few = w.standing.allowed.few; room = w.room; most = w.most; near = w.near; low = λ i. omega (arith, low' i, parent_low, up) }

        module _ (i j : ℕ) (p : bit_at there i ≡ true) (q : bit_at here j ≡ true) where
          by_ways_rest : remainder_by_ways D ds ways' i j ≡ rest i j
          by_ways_rest = go (measured_of ds i j) refl
            where
              go : (b : Bool) → measured_of ds i j ≡ b → remainder_by_ways D ds ways' i j ≡ rest i j
              go true m = rw m (by_ways_is D ds ways' i j m ∙ ap₂ (λ y z. pos D *ℤ distance_of ds i j -ℤ y -ℤ z) (climbs' i (at_there i p).0) (climbs' j (at_here j q).0)
                  ∙ less_two (pos D *ℤ distance_of ds i j) (climbed par (entry_of ns) (suc v) i) (climbed par (entry_of ns) (suc v) j)
                  ∙ ap (λ y. pos D *ℤ distance_of ds i j -ℤ y)
                  (sym (along-sym par K (entry_of ns) i j ∙ path-turns par K w.standing.allowed.up v j i edge (w.standing.allowed.top v edge) (at_here j q).1 (at_there i p).1 (entry_of ns))))
              go false m = rw m (by_ways_none D ds ways' i j m)

          apart-two : i ≢ j
          apart-two e = never_both j (at_here j q).1 (ap (lift par v) (sym e) ∙ (at_there i p).1)

          parts-two : (u : ℕ) → u < K → bit par u i +ℤ bit par u j -ℤ pos 2 *ℤ bit par u m ≡ ind (parts par u i j)
          parts-two u l = by-ring (bit par u i ∷ bit par u j ∷ bit par u m ∷ []) (search quote depth 20) tt
              ∙ sym (parts_meet par K j i m (turns par K w.standing.allowed.up v j i edge (w.standing.allowed.top v edge) (at_here j q).1 (at_there i p).1) u l)
              ∙ parts-sym par u j i

        pub all_apart : (j : ℕ) → bit_at here j ≡ true → Apart N D ds ways' there j
        all_apart j q = record {
          strains = λ i p. ((at_there i p).0, (at_here j q).0, apart-two i j p q);
          near = λ i p. omega (arith, ap nat_abs (by_ways_rest i j p q), rest-near i j (apart-two i j p q));
        }

        -- what the pairs that meet here give edge u
        new-pairs : (u : ℕ) → u < K → over here (λ j. over there (λ i. (bit par u i +ℤ bit par u j -ℤ pos 2 *ℤ bit par u m) *ℤ remainder_by_ways D ds ways' i j))
            ≡ pairs N (λ p. (stands par v v p.0 *ℤ stands par v m p.1 +ℤ stands par v m p.0 *ℤ stands par v v p.1) *ℤ share K D ds ps ns u p)
        new-pairs u l =
            over_cong here _ (λ j. over there (λ i. f i j)) (λ j q. over_cong there _ (λ i. f i j) (λ i p. ap₂ ◌*ℤ◌ (parts-two i j p q u l) (by_ways_rest i j p q)))
            ∙ ap (λ (k : ℕ). over k (λ j. over there (λ i. f i j))) here-is
            ∙ over-mask N (λ j. below par j v) (λ j. over there (λ i. f i j)) w.standing.allowed.few
            ∙ sum_cong N (λ j _. ap (λ y. bit par v j *ℤ y) (ap (λ (k : ℕ). over k (λ i. f i j)) there-is ∙ over-mask N (λ i. eqb (lift par v i) m) (λ i. f i j) w.standing.allowed.few))
            ∙ square (λ j. bit par v j) (λ i. stands par v m i) f off (λ i j. ap₂ ◌*ℤ◌ (parts-sym par u i j) (rest-sym i j)) N
            ∙ at_last
          where
            f : ℕ → ℕ → ℤ
            f i j = ind (parts par u i j) *ℤ rest i j

            off : (i : ℕ) → bit par v i *ℤ stands par v m i ≡ pos 0
            off i = apart-at par v m i (omega (arith, up))

            at_last : pairs N (λ p. (bit par v p.0 *ℤ stands par v m p.1 +ℤ stands par v m p.0 *ℤ bit par v p.1) *ℤ f p.0 p.1)
                ≡ pairs N (λ p. (stands par v v p.0 *ℤ stands par v m p.1 +ℤ stands par v m p.0 *ℤ stands par v v p.1) *ℤ share K D ds ps ns u p)
            at_last = unfold below in pairs_cong N (λ p a _. ap (λ y. (stands par v v p.0 *ℤ stands par v m p.1 +ℤ stands par v m p.0 *ℤ stands par v v p.1) *ℤ (ind (parts par u p.0 p.1) *ℤ y)) (rest-remainder p.0 p.1 a))

        pub gather_turn : {own' : List ℤ} → Met D ds ways' here there m own own'
            → Gathered N K D ds ps ns (v + 1) own' ways' (set come m (bit_or there here))
        gather_turn a = rw add-one (record {
          here = edge;
          size = a.size;
          long = c.size;
          held = subst (λ (k : ℕ). Handed N par k (set come m (bit_or there here))) (add-one v)
              (subst (λ (y : ℕ). Handed N par (v + 1) (set come m (bit_or there y))) (own-done N par v come g.held ∙ sym here-is) (hand_more N par v come up (omega (arith, parent_low)) g.held));
          low = low';
          climbs = climbs';
          light = omega (arith, a.more, g.light, pairs-few);
          entries = λ u l. a.entries par u ∙ ap₂ ◌+ℤ◌ (g.entries u l) (new-pairs u l)
              ∙ sym ((pairs-sums N).add (λ p. ind (together par v p) *ℤ share K D ds ps ns u p) (λ p. (stands par v v p.0 *ℤ stands par v m p.1 +ℤ stands par v m p.0 *ℤ stands par v v p.1) *ℤ share K D ds ps ns u p))
              ∙ pairs_cong N (λ p _ _. sym (ap (λ y. y *ℤ share K D ds ps ns u p) (together-more par v up p)
              ∙ by-ring (ind (together par v p) ∷ stands par v v p.0 ∷ stands par v m p.1 ∷ stands par v m p.0 ∷ stands par v v p.1 ∷ share K D ds ps ns u p ∷ []) (search quote depth 20) tt));
        })
