-- A buffer with one entry for each pair, filled pair by pair: what stands before i j is in its place, and writing one pair's
-- entry disturbs no other's. `fill_start` starts it, `fill_turn` is one turn, `fill_end` its end.
use mathlib.Core.Path.{◌≡◌, sym, ◌∙◌, ap, ap₂}
use mathlib.Core.List.{List}
use mathlib.Core.Logic.{inl, inr, ⊎_elim, ◌⊎◌}
use Prim.Native.Nat.{ℕ, ◌+◌, ◌≤◌, ◌<◌}
use native.Mathlib.Omega.{arith}
use lib.IntN.{ℤ, pos}
use lib.ListN.{length, set, length-set}
use lib.Seq.{get_or-set_same, get_or-set_other}
use Rattle.matrix.specs.Place.{pair_count, row_place}
use Rattle.matrix.proofs.Places.{row-place-bound, row-place-one}
use Rattle.exact.specs.Table.{entry_of}
use native.Mathlib.Decide.{dec_lt}
use Rattle.exact.proofs.Decide.{by_cases}

-- a b stands before i j: in an earlier column, or earlier in the same
abbrev pub Before : ℕ → ℕ → ℕ → ℕ → Type 0
Before i j a b = (b < j) ⊎ ((b ≡ j) × (a < i))

pub record Filling (N : ℕ) (f : ℕ × ℕ → ℤ) (i j : ℕ) (l : List ℤ) : Type 0 where
  pub rising : i ≤ j
  pub within : j ≤ N
  pub size : length l ≡ pair_count N
  pub entries : (a b : ℕ) → a < b → b < N → Before i j a b → entry_of l (row_place N a b) ≡ f (a, b)

-- no pair stands before itself
not_before : {i j a b : ℕ} → Before i j a b → (a ≡ i) × (b ≡ j) → ⊥
not_before w e = ⊎_elim (λ h. omega arith) (λ h. omega arith) w

module _ {N : ℕ} {f : ℕ × ℕ → ℤ} where
  pub fill_start : (l : List ℤ) → 1 ≤ N → length l ≡ pair_count N → Filling N f 0 1 l
  fill_start l h e = record {
    rising = omega arith;
    within = h;
    size = e;
    entries = λ a b k m w. absurd (⊎_elim (λ h. omega arith) (λ h. omega arith) w);
  }

  pub fill_turn : (i j k : ℕ) (x : ℤ) (l : List ℤ) → i < j → j < N → k ≡ row_place N i j → x ≡ f (i, j) → Filling N f i j l → Filling N f (i + 1) j (set l k x)
  fill_turn i j k x l up h e v g = record {
    rising = omega arith;
    within = g.within;
    size = simp length-set g.size;
    entries = λ a b lt m w. ⊎_elim
        (λ p. get_or-set_other l k (row_place N a b) x (pos 0) (λ z. not_before p (row-place-one N a b i j lt m up h (z ∙ e))) ∙ g.entries a b lt m p)
        (λ p. ap (entry_of (set l k x)) (ap₂ (row_place N) p.0 p.1 ∙ sym e) ∙ get_or-set_same l k x (pos 0) room ∙ v ∙ sym (ap₂ (λ (y z : ℕ). f (y, z)) p.0 p.1))
        (here a b w);
  }
    where
      room : k < length l
      room = omega (arith, g.size, row-place-bound N i j up h)

      -- what stands before the next pair of the column stands before i j, or is it
      here : (a b : ℕ) → Before (i + 1) j a b → Before i j a b ⊎ ((a ≡ i) × (b ≡ j))
      here a b w = ⊎_elim (λ p. inl (inl p)) (λ p. by_cases (dec_lt a i) (λ l. inl (inr (p.0, l))) (λ l. inr (omega arith, p.0))) w

  -- behind a column comes the next
  pub fill_column : (j : ℕ) (l : List ℤ) → j < N → Filling N f j j l → Filling N f 0 (j + 1) l
  fill_column j l h g = record {
    rising = omega arith;
    within = omega arith;
    size = g.size;
    entries = λ a b lt m w. g.entries a b lt m
        (⊎_elim (λ p. by_cases (dec_lt b j) (λ q. inl q) (λ q. inr (omega arith, omega arith))) (λ p. absurd (omega arith)) w);
  }

  pub fill_end : (i j : ℕ) (l : List ℤ) → N ≤ j → Filling N f i j l → (a b : ℕ) → a < b → b < N → entry_of l (row_place N a b) ≡ f (a, b)
  fill_end i j l h g a b lt m = g.entries a b lt m (inl (omega arith))
