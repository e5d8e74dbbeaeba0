-- What one read told leads from what came before it to what comes of all of them: it went on (`went`), the input ended (`ended`), or it
-- failed (`broke`).
use mathlib.Core.Path.{◌≡◌, sym, ap, subst}
use mathlib.Core.List.{[], ◌∷◌}
use Prim.Native.Nat.{ℕ, zero, suc, ◌+◌, ◌-◌, ◌≤◌, ◌<◌}
use native.Mathlib.Omega.{arith}
use lib.IntN.{pos, negsuc}
use Rattle.std.specs.Prelude.{Option, Some, None, Result, Ok, Err, min}
use Rattle.streams.specs.Reads.{ReadOnce, Reads, full, over, failed, on, ReadIn}

abbrev there : Option ℕ → Type 0
there None = ⊥
there (Some n) = Unit {0}

abbrev told : ℕ → Option ℕ → ℕ
told d None = d
told d (Some n) = n

-- so many bytes came as there was room for
pub came : (room count next : ℕ) → ReadOnce room count (Some next) → count ≤ room → next ≤ room
came room count next (negsuc k, e) h = absurd (subst there e tt)
came room count next (pos n, e) h = let q = ap (told 0) e in omega (arith, q)

-- it went on
pub went : (room count next : ℕ) → ReadOnce room count (Some next) → count < room → (next ≡ count → ⊥)
    → (count < next) × (next ≤ room) × ((r : Result ℕ ℕ) → ReadIn room next r → ReadIn room count r)
went room count next (negsuc k, e) h n = absurd (subst there e tt)
went room count next (pos zero, e) h n = let q = ap (told 0) e in absurd (n (omega (arith, q)))
went room count next (pos (suc m), e) h n = let q : next ≡ count + min (suc m) (room - count) = ap (told 0) e in
    (omega (arith, q), omega (arith, q), λ r later. (pos (suc m) ∷ later.0, on h (subst (λ (k : ℕ). Reads room k later.0 r) q later.1)))

-- the input ended
pub ended : (room count : ℕ) → count < room → ReadIn room count (Ok count)
ended room count h = (pos 0 ∷ [], over h)

-- it failed
pub broke : (room count : ℕ) → ReadOnce room count None → count < room → ReadIn room count (Err count)
broke room count (negsuc k, e) h = (negsuc k ∷ [], failed h)
broke room count (pos n, e) h = absurd (subst there (sym e) tt)

-- the buffer is full
pub filled : (room count : ℕ) → room ≡ count → ReadIn room count (Ok count)
filled room count e = subst (λ (k : ℕ). ReadIn room k (Ok k)) e ([], full)
