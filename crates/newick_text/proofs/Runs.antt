-- Bytes of a kind at the front of a text, with something behind them; and two texts with the same bytes, cut at the same place.
use mathlib.Core.Path.{◌≡◌, refl, sym, ◌∙◌, ap}
use mathlib.Core.Bool.{Bool, true, false, cond}
use mathlib.Core.List.{List, [], ◌∷◌, ◌++◌}
use Prim.Native.Nat.{ℕ, suc, ◌+◌, ◌*◌, ◌≤◌}
use native.Mathlib.Omega.{arith}
use lib.ListN.{length, get_or, take, drop, take-append-drop}
use lib.Seq.{take_at, drop_at}
use Rattle.digits.specs.Digits.{run, number_from, digit_of}

module _ (p : ℕ → Bool) where
  -- no byte of the kind stands at the front
  pub run_none : (l : List ℕ) → p (get_or l 0 0) ≡ false → run p l ≡ 0
  unfolding run
  run_none [] h = refl
  run_none (x ∷ xs) h = ap (λ (q : Bool). cond q (suc (run p xs)) 0) h

  -- what begins with no byte of the kind adds nothing to a run before it
  pub run-append : (l k : List ℕ) → run p k ≡ 0 → run p (l ++ k) ≡ run p l
  unfolding run
  run-append [] k h = h
  run-append (x ∷ xs) k h = ap (λ (n : ℕ). cond (p x) (suc n) 0) (run-append xs k h)

  pub run-within : (l : List ℕ) → run p l ≤ length l
  unfolding run
  run-within [] = omega arith
  run-within (x ∷ xs) = let ih = run-within xs in go (p x) ih
    where
      go : (b : Bool) → run p xs ≤ length xs → cond b (suc (run p xs)) 0 ≤ suc (length xs)
      go true h = omega arith
      go false h = omega arith

  -- behind a run stands none
  pub run-behind : (l : List ℕ) → run p (drop (run p l) l) ≡ 0
  unfolding run
  run-behind [] = refl
  run-behind (x ∷ xs) = let ih = run-behind xs in go (p x) refl ih
    where
      go : (b : Bool) → p x ≡ b → run p (drop (run p xs) xs) ≡ 0 → run p (drop (cond b (suc (run p xs)) 0) (x ∷ xs)) ≡ 0
      go true e h = h
      go false e h = run_none (x ∷ xs) e

  -- the run by itself
  pub run_take : (l : List ℕ) → run p (take (run p l) l) ≡ run p l
  run_take l = sym (run-append (take (run p l) l) (drop (run p l) l) (run-behind l)) ∙ ap (run p) (take-append-drop (run p l) l)

-- two texts cut at the same place
pub append-same : (a b c d : List ℕ) → length a ≡ length b → a ++ c ≡ b ++ d → (a ≡ b) × (c ≡ d)
append-same a b c d h e = (
  sym (take_at a c (length b) h) ∙ ap (take (length b)) e ∙ take_at b d (length b) refl,
  sym (drop_at a c (length b) h) ∙ ap (drop (length b)) e ∙ drop_at b d (length b) refl,
)

-- digits read on
pub number_append : (a : ℕ) (l m : List ℕ) → number_from a (l ++ m) ≡ number_from (number_from a l) m
unfolding number_from
number_append a [] m = refl
number_append a (x ∷ xs) m = number_append (a * 10 + digit_of x) xs m
