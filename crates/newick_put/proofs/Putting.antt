-- Thousandths and lengths as they are put: digits, a point and three digits; below zero a minus in front.
use mathlib.Core.Path.{◌≡◌}
use mathlib.Core.Bool.{true, false}
use mathlib.Core.List.{List, [], ◌∷◌}
use Prim.Native.Nat.{ℕ, suc, ◌+◌, ◌-◌, ◌/◌, ◌%◌, ◌<◌, ◌≤◌}
use native.Mathlib.Omega.{arith}
use lib.IntN.{ℤ, pos, negsuc, nat_abs}
use lib.ListN.{length, get_or, take, drop, length-append, length-drop}
use lib.Seq.{length-take-le}
use lib.Signed.{le_z}
use Rattle.exact.proofs.Sign.{is_pos, is_neg}
use Rattle.writing.specs.Text.{decimal, Wrote}
use Rattle.writing.proofs.Decimals.{decimal-length}
use Rattle.writing.proofs.Writing.{wrote_then, wrote-length}
use Rattle.newick_text.specs.Length.{thousandths, length_text}
use Rattle.newick_put.specs.Put.{word_at, Words, widest_length}

-- the point and the three digits behind it
abbrev pub places : ℕ → List ℕ
places n = 46 ∷ (48 + n / 100 % 10) ∷ (48 + n / 10 % 10) ∷ (48 + n % 10) ∷ []

pub wrote-thousandths : (b c d : List ℕ) (at m k n : ℕ) → at + 24 ≤ length b → Wrote b c at (decimal (n / 1000)) m → Wrote c d m (places n) k → Wrote b d at (thousandths n) k
unfolding thousandths
wrote-thousandths b c d at m k n room p q = wrote_then (omega (arith, decimal-length (n / 1000))) p q

-- room for the places behind the digits
pub places-room : (b c : List ℕ) (at m n : ℕ) → at + 24 ≤ length b → Wrote b c at (decimal (n / 1000)) m → m + 4 ≤ length c
places-room b c at m n room p =
    omega (arith, decimal-length (n / 1000), p.place, wrote-length (omega (arith, decimal-length (n / 1000))) p)

-- by the sign
pub length-pos : (z : ℤ) → le_z (pos 0) z ≡ true → length_text z ≡ thousandths (nat_abs z)
unfolding length_text
length-pos z h = rw (is_pos z h)

pub length_neg : (z : ℤ) → le_z (pos 0) z ≡ false → length_text z ≡ 45 ∷ thousandths (nat_abs z)
unfolding length_text
length_neg z h = rw (is_neg z h)

-- the two arms: n is the magnitude of z
module _ (b : List ℕ) (at : ℕ) (z : ℤ) (n : ℕ) (e : n ≡ nat_abs z) where
  pub plain : (c : List ℕ) (m : ℕ) → le_z (pos 0) z ≡ true → Wrote b c at (thousandths n) m → Wrote b c at (length_text z) m
  plain c m g p = rw (length-pos z g, ← e) p

  pub minus : (c d : List ℕ) (m k : ℕ) → at + 1 ≤ length b → le_z (pos 0) z ≡ false → Wrote b c at (45 ∷ []) m → Wrote c d m (thousandths n) k
      → Wrote b d at (length_text z) k
  minus c d m k room g p q = rw (length_neg z g, ← e) (wrote_then room p q)

-- a colon in front
pub colon : (b c d : List ℕ) (at m k : ℕ) (z : ℤ) → at + 1 ≤ length b → Wrote b c at (58 ∷ []) m → Wrote c d m (length_text z) k → Wrote b d at (58 ∷ length_text z) k
colon b c d at m k z room p q = wrote_then room p q

-- a name is the part of the names behind its length byte
pub named : (b c names : List ℕ) (at k start : ℕ)
    → Wrote b c at (take (start + 1 + get_or names start 0 - (start + 1)) (drop (start + 1) names)) k → Wrote b c at (take (get_or names start 0) (drop (start + 1) names)) k
named b c names at k start w = let e : start + 1 + get_or names start 0 - (start + 1) ≡ get_or names start 0 = omega arith in rw e at w

-- ---- sizes
thousandths-length : (n : ℕ) → length (thousandths n) ≤ 24
unfolding thousandths
thousandths-length n = simp length-append (omega (arith, decimal-length (n / 1000)))

pub length-widest : (z : ℤ) → length (length_text z) ≤ widest_length
unfolding length_text
length-widest (pos n) = omega (arith, thousandths-length n)
length-widest (negsuc n) = omega (arith, thousandths-length (suc n))

-- a name that lies within the names has as many bytes as its length byte says
pub word-length : (names starts : List ℕ) (n i : ℕ) → Words names starts n → i < n → length (word_at names starts i) ≡ get_or names (get_or starts i 0) 0
word-length names starts n i w h = length-take-le (get_or names (get_or starts i 0) 0) (drop (get_or starts i 0 + 1) names) (simp length-drop (omega (arith, w.within i h)))
