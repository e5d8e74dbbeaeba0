-- Names one behind the other: each begins behind the one before it, so those that begin before a place are the first of them (`walked`).
use mathlib.Core.Path.{◌≡◌, refl, sym, ap, ◌∙◌}
use mathlib.Core.Bool.{Bool, true, false}
use mathlib.Core.List.{List}
use Prim.Native.Nat.{ℕ, zero, suc, ◌+◌, ◌-◌, ◌<◌, ◌≤◌}
use native.Mathlib.Decide.{ℕ_discrete}
use native.Mathlib.Numerals.{add-one}
use native.Mathlib.Omega.{arith}
use borrow.Author.Tests.{lt-ltb, le-ltb}
use lib.Dec.{ltb}
use lib.ListN.{get_or}
use Rattle.exact.proofs.Decide.{by_cases}
use Rattle.verdict.specs.Table.{count}
use Rattle.verdict.proofs.Table.{count-zero, count-suc}
use Rattle.records.specs.Names.{name_start, name_count}
use Rattle.records.specs.Form.{size_at, body_at, names_at}

-- of tests that apply below n and nowhere from there on, n apply
count-front : (m n : ℕ) (p : ℕ → Bool) → n ≤ m → ((i : ℕ) → i < n → p i ≡ true) → ((i : ℕ) → n ≤ i → i < m → p i ≡ false) → count m p ≡ n
count-front zero n p h f g = count-zero p ∙ omega arith
count-front (suc m) n p h f g =
    by_cases (ℕ_discrete n (suc m))
    (λ e. let ih = count-front m m p (omega arith) (λ i l. f i (omega arith)) (λ i l k. absurd (omega arith)) in
    count-suc m p ∙ rw (f m (omega arith)) (omega (arith, ih)))
    (λ e. let ih = count-front m n p (omega arith) f (λ i l k. g i l (omega arith)) in
    count-suc m p ∙ rw (g m (omega arith) (omega arith)) (omega (arith, ih)))

module _ (s : List ℕ) (from : ℕ) where
  pub name-first : name_start s from 0 ≡ from
  unfolding name_start
  name-first = refl

  pub name-next : (i : ℕ) → name_start s from (suc i) ≡ name_start s from i + 1 + get_or s (name_start s from i) 0
  unfolding name_start
  name-next i = refl

  -- each begins behind all before it
  pub names_rise : (i j : ℕ) → i < j → name_start s from i < name_start s from j
  names_rise i zero h = absurd (omega arith)
  names_rise i (suc j) h =
      by_cases (ℕ_discrete i j)
      (λ e. omega (arith, ap (name_start s from) e, name-next j))
      (λ n. let ih = names_rise i j (omega arith) in omega (arith, name-next j))

  pub names-far : (i : ℕ) → from + i ≤ name_start s from i
  names-far zero = omega (arith, name-first)
  names-far (suc i) = let ih = names-far i in omega (arith, name-next i)

  -- names of which the last begins before a place and ends there or behind it
  pub count-is : (to n : ℕ) → ((i : ℕ) → i < n → name_start s from i < to) → to ≤ name_start s from n → name_count s from to ≡ n
  unfolding name_count
  count-is to n h e =
      count-front (to - from) n (λ i. ltb (name_start s from i) to) (room n h) (λ i l. lt-ltb (name_start s from i) to (h i l))
      (λ i l k. le-ltb (name_start s from i) to (past i l))
    where
      room : (m : ℕ) → ((i : ℕ) → i < m → name_start s from i < to) → m ≤ to - from
      room zero f = omega arith
      room (suc m) f = omega (arith, f m (omega arith), names-far m)

      past : (i : ℕ) → n ≤ i → to ≤ name_start s from i
      past i l = by_cases (ℕ_discrete n i) (λ q. omega (arith, ap (name_start s from) q)) (λ q. omega (arith, names_rise n i (omega arith)))

  -- names that end at a place are as many as begin before it
  pub count-ends : (to n : ℕ) → name_start s from n ≡ to → name_count s from to ≡ n
  count-ends to n e = count-is to n (λ i l. omega (arith, names_rise i n l)) (omega arith)

-- ---- the walk: so many names begin before `to`, and the next would begin at `at`
pub record Walking (s : List ℕ) (from to at k : ℕ) : Type 0 where
  pub place : at ≡ name_start s from k
  pub before : (i : ℕ) → i < k → name_start s from i < to

module _ (s : List ℕ) (from to : ℕ) where
  pub walk_start : Walking s from to from 0
  walk_start = record { place = sym (name-first s from); before = λ i l. absurd (omega arith) }

  pub walk_turn : (at k : ℕ) → at < to → Walking s from to at k → Walking s from to (at + 1 + get_or s at 0) (k + 1)
  walk_turn at k h w = record {
    place = ap (λ (a : ℕ). a + 1 + get_or s a 0) w.place ∙ sym (name-next s from k) ∙ ap (name_start s from) (sym (add-one k));
    before = λ i l. by_cases (ℕ_discrete i k) (λ e. omega (arith, w.place, ap (name_start s from) e)) (λ n. w.before i (omega arith));
  }

  pub walk_end : (at k : ℕ) → to ≤ at → Walking s from to at k → (k ≡ name_count s from to) × (at ≡ name_start s from (name_count s from to))
  walk_end at k h w = let e = count-is s from to k w.before (omega (arith, w.place)) in
      (sym e, w.place ∙ ap (name_start s from) (sym e))

-- the names of the record that starts at `at`, by the length that was read of its body
pub walked_at : (s : List ℕ) (at size k end : ℕ) → size ≡ size_at s at
    → (k ≡ name_count s (body_at at) (body_at at + size)) × (end ≡ name_start s (body_at at) (name_count s (body_at at) (body_at at + size)))
    → (k ≡ names_at s at) × (end ≡ name_start s (body_at at) (names_at s at))
walked_at s at size k end e h = rw e at h
