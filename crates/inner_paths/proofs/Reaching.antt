-- One vertex more in the table. The idea: a vertex stands below its parent by one edge, and every vertex of a greater number than its own is
-- reached over that edge (`along-climb`); so its row is its parent's row with the edge added. The row stands behind all those before it, so that
-- none of them moves.
use mathlib.Core.Path.{◌≡◌, refl, sym, ap, ap₂, ◌∙◌}
use mathlib.Core.Bool.{Bool, cond}
use mathlib.Core.List.{List, [], ◌∷◌}
use mathlib.Core.Logic.{◌≢◌}
use Prim.Native.Nat.{ℕ, ◌+◌, ◌-◌, ◌*◌, ◌/◌, ◌≤◌, ◌<◌, ◌^◌}
use native.Mathlib.Decide.{ℕ_discrete, dec_lt}
use native.Mathlib.Omega.{arith}
use borrow.Author.Tests.{eq-eqb, ne_eqb}
use lib.IntN.{ℤ, pos, nat_abs, ◌+ℤ◌}
use lib.ListN.{length, set, length-set}
use lib.Seq.{get_or-set_same, get_or-set_other}
use mir.Syntax.{w64}
use mir.Val.{to_z, of_z, SFits}
use Rattle.exact.specs.Table.{table, entry_of}
use Rattle.exact.proofs.Decide.{by_cases}
use Rattle.exact.proofs.Fill.{length-table}
use Rattle.exact.proofs.Sign.{back, fits_abs, nat_abs_add}
use Rattle.exact.proofs.Quote.{by-ring, quote}
use Rattle.matrix.specs.Place.{place, pair_place, pair_count}
use Rattle.matrix.proofs.Places.{place-bound, pair-place-up, pair-place-down}
use Rattle.tree_theory.specs.Limits.{max_edges}
use Rattle.tree_theory.specs.Chain.{parent_of}
use Rattle.tree_theory.proofs.Chains.{along, along-sym, along_self, along-climb, along_climbʳ}
use Rattle.paths.specs.Standing.{max_thousandths}
use Rattle.paths.proofs.Bounds.{farthest_path, path-near}
use Rattle.inner_paths.specs.Between.{Lengthened, Between, apart_in, spots}

-- ---- places
-- a pair of two among so many stands before the row of the next
pub pair-before : (n p q : ℕ) → p ≢ q → p < n → q < n → pair_place p q < pair_count n
pair-before n p q e h l = by_cases (dec_lt p q)
    (λ z. omega (arith, pair-place-up p q z, place-bound n p q z l))
    (λ z. by_cases (dec_lt q p) (λ y. omega (arith, pair-place-down p q (omega arith), place-bound n q p y h)) (λ y. absurd (e (omega arith))))

-- the pairs of 62
pub pair-within : (p q : ℕ) → p ≢ q → p < 62 → q < 62 → pair_place p q < spots
pair-within p q e h l = pair-before 62 p q e h l

-- the row of vertex n begins behind the pairs of those before it
row_from_lem : (q n : ℕ) → place q n ≡ pair_count n + q
unfolding place
row_from_lem q n = omega arith

row_within : (q n : ℕ) → q < n → n < 62 → place q n < spots
row_within q n h l = place-bound 62 q n h l

-- ---- what a table says
pub apart-same : (t : List ℤ) (p q : ℕ) → p ≡ q → pos 0 ≡ apart_in t p q
unfolding apart_in
apart-same t p q e = sym (rw (eq-eqb p q e))

pub apart_other : (t : List ℤ) (p q k : ℕ) → p ≢ q → k ≡ pair_place p q → entry_of t k ≡ apart_in t p q
unfolding apart_in
apart_other t p q k e f = ap (entry_of t) f ∙ sym (rw (ne_eqb p q e))

apart-is : {K : ℕ} {par : ℕ → ℕ} {X : ℕ → ℤ} {m : ℕ} {t : List ℤ} → Between K par X m t → (p q : ℕ) → p < m → q < m → apart_in t p q ≡ along par K X (K - p) (K - q)
apart-is {K} {par} {X} {m} {t} f p q h l = by_cases (ℕ_discrete p q)
    (λ e. sym (apart-same t p q e) ∙ sym (rw e (along_self par K X (K - q))))
    (λ e. sym (apart_other t p q (pair_place p q) e refl) ∙ f.path p q e h l)

-- the row of vertex a, of which b entries are right; those of the vertices before it are
pub record Reaching (K : ℕ) (par : ℕ → ℕ) (X : ℕ → ℤ) (a : ℕ) (t : List ℤ) (b : ℕ) : Type 0 where
  pub few : b ≤ K - a
  pub before : Between K par X (K - a) t
  pub row : (q : ℕ) → q < b → entry_of t (place q (K - a)) ≡ along par K X a (K - q)

module _ {N K : ℕ} {ps : List ℕ} {x : List ℤ} (w : Lengthened N K ps x) where
  abbrev par : ℕ → ℕ
  par = parent_of ps

  abbrev X : ℕ → ℤ
  X = entry_of x

  pub few : K ≤ max_edges
  few = omega (arith, w.allowed.few, w.allowed.most)

  -- at most 62 vertices are inner
  pub inner-few : K - N < 62
  inner-few = omega (arith, w.allowed.few, w.allowed.most)

  pub near : (a b : ℕ) → nat_abs (along par K X a b) ≤ farthest_path
  near a b = path-near w.small few par (a, b)

  -- ---- the start: the root alone has no pair
  pub root-alone : (t : List ℤ) → length t ≡ spots → Between K par X 1 t
  root-alone t e = record { size = e; path = λ p q n h l. absurd (n (omega arith)) }

  -- ---- a turn
  module _ (a : ℕ) (inner : N ≤ a) (edge : a < K) where
    abbrev own : ℕ
    own = K - a

    abbrev above : ℕ
    above = K - par a

    pub above-less : above < own
    above-less = omega (arith, w.allowed.up a edge, w.allowed.top a edge)

    pub own-few : own < 62
    own-few = omega (arith, inner-few)

    pub reach-start : (t : List ℤ) → Between K par X own t → Reaching K par X a t 0
    reach-start t f = record { few = omega arith; before = f; row = λ q h. absurd (omega arith) }

    module _ (t : List ℤ) (b : ℕ) (r : Reaching K par X a t b) (l : b < own) where
      pub slot : place b own < length t
      slot = omega (arith, row_within b own l own-few, r.before.size)

      stepped : X a +ℤ apart_in t above b ≡ along par K X a (K - b)
      stepped = ap (λ (y : ℤ). X a +ℤ y) (apart-is r.before above b above-less l ∙ ap (λ (u : ℕ). along par K X u (K - b)) same)
          ∙ sym (along-climb par K w.allowed.up X a (K - b) edge (omega arith))
        where
          same : K - above ≡ par a
          same = omega (arith, w.allowed.top a edge)

      -- the same of the machine's numbers
      module _ (d : ℤ) (g : d ≡ apart_in t above b) where
        summed : to_z w64 (of_z w64 (X a)) +ℤ to_z w64 (of_z w64 d) ≡ along par K X a (K - b)
        summed = ap₂ ◌+ℤ◌ (back (X a) (omega (arith, w.small.near a edge)))
            (back d (omega (arith, ap nat_abs (g ∙ apart-is r.before above b above-less l), near (K - above) (K - b))) ∙ g)
            ∙ stepped

        summed-near : nat_abs (to_z w64 (of_z w64 (X a)) +ℤ to_z w64 (of_z w64 d)) < 2 ^ 63
        summed-near = omega (arith, ap nat_abs summed, near a (K - b))

        pub step_fits : SFits w64 (to_z w64 (of_z w64 (X a)) +ℤ to_z w64 (of_z w64 d))
        step_fits = fits_abs (to_z w64 (of_z w64 (X a)) +ℤ to_z w64 (of_z w64 d)) summed-near

        pub step_is : to_z w64 (of_z w64 (to_z w64 (of_z w64 (X a)) +ℤ to_z w64 (of_z w64 d))) ≡ along par K X a (K - b)
        step_is = back (to_z w64 (of_z w64 (X a)) +ℤ to_z w64 (of_z w64 d)) summed-near ∙ summed

      module _ (k : ℕ) (here : k ≡ place b own) (far : ℤ) (e : far ≡ along par K X a (K - b)) where
        pub reach-turn : Reaching K par X a (set t k far) (b + 1)
        reach-turn = rw here (record {
          few = omega arith;
          before = record {
            size = length-set t (place b own) far ∙ r.before.size;
            path = λ p q n h g. get_or-set_other t (place b own) (pair_place p q) far (pos 0) (λ z. omega (arith, pair-before own p q n h g, row_from_lem b own)) ∙ r.before.path p q n h g;
          };
          row = λ q h. by_cases (ℕ_discrete q b)
              (λ f. rw f (get_or-set_same t (place b own) far (pos 0) slot ∙ e))
              (λ f. get_or-set_other t (place b own) (place q own) far (pos 0) (λ z. f (omega (arith, row_from_lem q own, row_from_lem b own))) ∙ r.row q (less q h f));
        })
          where
            less : (q : ℕ) → q < b + 1 → q ≢ b → q < b
            less q h f = by_cases (dec_lt q b) (λ z. z) (λ z. absurd (f (omega arith)))

    -- ---- the end: all of its row
    module _ (t : List ℤ) (b : ℕ) (r : Reaching K par X a t b) (l : own ≤ b) where
      pub reach-end : Between K par X (own + 1) t
      reach-end = record {
        size = r.before.size;
        path = λ p q n h g. by_cases (ℕ_discrete p own)
            (λ e. rw e (ap (entry_of t) (pair-place-down own q (omega (arith, under q g))) ∙ r.row q (omega (arith, last p q n g e)) ∙ ap (λ (u : ℕ). along par K X u (K - q)) (sym here)))
            (λ e. by_cases (ℕ_discrete q own)
            (λ f. rw f (ap (entry_of t) (pair-place-up p own (apart p h e)) ∙ r.row p (omega (arith, apart p h e)) ∙ along-sym par K X a (K - p) ∙ ap (λ (u : ℕ). along par K X (K - p) u) (sym here)))
            (λ f. r.before.path p q n (apart p h e) (apart q g f)));
      }
        where
          here : K - own ≡ a
          here = omega arith

          under : (q : ℕ) → q < own + 1 → q ≤ own
          under q h = omega arith

          apart : (q : ℕ) → q < own + 1 → q ≢ own → q < own
          apart q h f = by_cases (dec_lt q own) (λ z. z) (λ z. absurd (f (omega arith)))

          last : (p q : ℕ) → p ≢ q → q < own + 1 → p ≡ own → q < own
          last p q n h e = apart q h (λ z. n (e ∙ sym z))

-- ---- the path of two strains, by the paths between their parents
module _ {N K : ℕ} {ps : List ℕ} {x : List ℤ} (w : Lengthened N K ps x) (t : List ℤ) (f : Between K (parent_of ps) (entry_of x) (K - N + 1) t) (i j : ℕ) (rising : i < j) (strain : j < N) where
  one : i < K
  one = omega (arith, w.allowed.edges)

  two : j < K
  two = omega (arith, w.allowed.edges)

  pub first-few : K - parent_of ps i < 62
  first-few = omega (arith, w.allowed.inner i one, inner-few w)

  pub second-few : K - parent_of ps j < 62
  second-few = omega (arith, w.allowed.inner j two, inner-few w)

  abbrev read : ℤ
  read = apart_in t (K - parent_of ps i) (K - parent_of ps j)

  between_is : read ≡ along (parent_of ps) K (entry_of x) (parent_of ps i) (parent_of ps j)
  between_is = apart-is f (K - parent_of ps i) (K - parent_of ps j) (omega (arith, w.allowed.inner i one, w.allowed.top i one)) (omega (arith, w.allowed.inner j two, w.allowed.top j two))
      ∙ ap₂ (along (parent_of ps) K (entry_of x)) back-i back-j
    where
      back-i : K - (K - parent_of ps i) ≡ parent_of ps i
      back-i = omega (arith, w.allowed.top i one)

      back-j : K - (K - parent_of ps j) ≡ parent_of ps j
      back-j = omega (arith, w.allowed.top j two)

  path-is : entry_of x i +ℤ entry_of x j +ℤ read ≡ along (parent_of ps) K (entry_of x) i j
  path-is = ap (λ (y : ℤ). entry_of x i +ℤ entry_of x j +ℤ y) between_is
      ∙ by-ring (entry_of x i ∷ entry_of x j ∷ along (parent_of ps) K (entry_of x) (parent_of ps i) (parent_of ps j) ∷ []) (search quote depth 20) tt
      ∙ ap (λ (y : ℤ). entry_of x i +ℤ y) (sym (along_climbʳ (parent_of ps) K w.allowed.up (entry_of x) (parent_of ps i) j two (omega (arith, w.allowed.inner i one))))
      ∙ sym (along-climb (parent_of ps) K w.allowed.up (entry_of x) i j one rising)

  -- the same of the machine's numbers
  entry-near : (v : ℕ) → v < K → nat_abs (entry_of x v) ≤ max_thousandths
  entry-near v h = w.small.near v h

  ends : to_z w64 (of_z w64 (entry_of x i)) +ℤ to_z w64 (of_z w64 (entry_of x j)) ≡ entry_of x i +ℤ entry_of x j
  ends = ap₂ ◌+ℤ◌ (back (entry_of x i) (omega (arith, entry-near i one))) (back (entry_of x j) (omega (arith, entry-near j two)))

  ends-near : nat_abs (to_z w64 (of_z w64 (entry_of x i)) +ℤ to_z w64 (of_z w64 (entry_of x j))) < 2 ^ 63
  ends-near = omega (arith, ap nat_abs ends, nat_abs_add (entry_of x i) (entry_of x j), entry-near i one, entry-near j two)

  pub ends-fit : SFits w64 (to_z w64 (of_z w64 (entry_of x i)) +ℤ to_z w64 (of_z w64 (entry_of x j)))
  ends-fit = fits_abs (to_z w64 (of_z w64 (entry_of x i)) +ℤ to_z w64 (of_z w64 (entry_of x j))) ends-near

  module _ (d : ℤ) (g : d ≡ read) where
    whole : to_z w64 (of_z w64 (to_z w64 (of_z w64 (entry_of x i)) +ℤ to_z w64 (of_z w64 (entry_of x j)))) +ℤ to_z w64 (of_z w64 d) ≡ along (parent_of ps) K (entry_of x) i j
    whole = ap₂ ◌+ℤ◌ (back (to_z w64 (of_z w64 (entry_of x i)) +ℤ to_z w64 (of_z w64 (entry_of x j))) ends-near ∙ ends)
        (back d (omega (arith, ap nat_abs (g ∙ between_is), near w (parent_of ps i) (parent_of ps j))) ∙ g)
        ∙ path-is

    whole-near : nat_abs (to_z w64 (of_z w64 (to_z w64 (of_z w64 (entry_of x i)) +ℤ to_z w64 (of_z w64 (entry_of x j)))) +ℤ to_z w64 (of_z w64 d)) < 2 ^ 63
    whole-near = omega (arith, ap nat_abs whole, near w i j)

    pub whole-fits : SFits w64 (to_z w64 (of_z w64 (to_z w64 (of_z w64 (entry_of x i)) +ℤ to_z w64 (of_z w64 (entry_of x j)))) +ℤ to_z w64 (of_z w64 d))
    whole-fits = fits_abs (to_z w64 (of_z w64 (to_z w64 (of_z w64 (entry_of x i)) +ℤ to_z w64 (of_z w64 (entry_of x j)))) +ℤ to_z w64 (of_z w64 d)) whole-near

    pub whole_is : to_z w64 (of_z w64 (to_z w64 (of_z w64 (to_z w64 (of_z w64 (entry_of x i)) +ℤ to_z w64 (of_z w64 (entry_of x j)))) +ℤ to_z w64 (of_z w64 d))) ≡ along (parent_of ps) K (entry_of x) i j
    whole_is = back (to_z w64 (of_z w64 (to_z w64 (of_z w64 (entry_of x i)) +ℤ to_z w64 (of_z w64 (entry_of x j)))) +ℤ to_z w64 (of_z w64 d)) whole-near ∙ whole
