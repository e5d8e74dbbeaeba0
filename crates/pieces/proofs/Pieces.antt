-- Pieces one behind the other: one more at the end, and how long they are together.
use mathlib.Core.Path.{◌≡◌, refl, sym, ◌∙◌, ap, ap₂}
use mathlib.Core.List.{List, ◌++◌, append_assoc, append-nil}
use Prim.Native.Nat.{ℕ, zero, suc, ◌+◌, ◌*◌, ◌≤◌, ◌<◌}
use native.Mathlib.Omega.{arith}
use lib.ListN.{length, length-append}
use Rattle.pieces.specs.Pieces.{pieces_from}

pub pieces_more : (i n : ℕ) (p : ℕ → List ℕ) → pieces_from i (suc n) p ≡ pieces_from i n p ++ p (i + n)
unfolding pieces_from
pieces_more i zero p = append-nil (p i) ∙ ap p (omega arith)
pieces_more i (suc n) p =
    ap (λ (l : List ℕ). p i ++ l) (pieces_more (suc i) n p ∙ ap (λ (k : ℕ). pieces_from (suc i) n p ++ p k) (omega arith))
    ∙ sym (append_assoc (p i) (pieces_from (suc i) n p) (p (i + suc n)))

pub pieces-length : (w i n : ℕ) (p : ℕ → List ℕ) → ((j : ℕ) → length (p j) ≤ w) → length (pieces_from i n p) ≤ w * n
unfolding pieces_from
pieces-length w i zero p h = omega arith
pieces-length w i (suc n) p h = simp length-append (omega (arith, h i, pieces-length w (suc i) n p h))

-- where each piece ends at the latest, so do all of them
pub pieces-grow : (s : ℕ → ℕ) (n : ℕ) (p : ℕ → List ℕ) → ((k : ℕ) → k < n → s k + length (p k) ≤ s (suc k)) → s 0 + length (pieces_from 0 n p) ≤ s n
unfolding pieces_from
pieces-grow s zero p h = omega arith
pieces-grow s (suc n) p h =
    let e : 0 + n ≡ n = omega arith in
    rw (pieces_more 0 n p, e) (simp length-append (omega (arith, pieces-grow s n p (λ k l. h k (omega arith)), h n (omega arith))))

-- pieces that are alike
pub pieces_cong : (n : ℕ) (p q : ℕ → List ℕ) → ((k : ℕ) → k < n → p k ≡ q k) → pieces_from 0 n p ≡ pieces_from 0 n q
unfolding pieces_from
pieces_cong zero p q h = refl
pieces_cong (suc n) p q h =
    pieces_more 0 n p
    ∙ ap₂ ◌++◌ (pieces_cong n p q (λ k l. h k (omega arith))) (let e : 0 + n ≡ n = omega arith in ap p e ∙ h n (omega arith) ∙ ap q (sym e))
    ∙ sym (pieces_more 0 n q)
