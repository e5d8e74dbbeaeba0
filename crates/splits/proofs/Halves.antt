-- A mask cut in two at strain j: its digits below j, and those from j on. The idea: digit by digit from the lowest.
use Rattle.std.proofs.Common.{◌≡◌, ℕ, zero, suc, ◌+◌, ◌-◌, ◌*◌, ◌/◌, ◌%◌, ◌^◌, ◌<◌, ◌≤◌, Bool, true, false, eqb, ℤ, ◌+ℤ◌, ◌*ℤ◌, nat_abs, sym, refl, ap, ◌∙◌, subst, ap₂, true≢false, add-one, arith, w64, SFits, to_z, of_z}
use native.Mathlib.Nat.{pow-succ', mod-one, sub-zero}
use lib.Bits.{bit_and, and_mask}
use lib.Pow.{mod-pow-add}
use lib.IntN.{+ℤ_idl, +ℤ_idr}
use Rattle.exact.specs.Sum.{ind}
use Rattle.exact.proofs.Decide.{eq_no}
use Rattle.exact.proofs.Ring.{*ℤ-distribʳ}
use Rattle.exact.proofs.Sign.{fits_abs, back}
use Rattle.exact.proofs.Sum.{sum_cong, sum-+, ind-no}
use Rattle.matrix.specs.Limits.{max_strains, max_distance}
use Rattle.tree_theory.specs.Cluster.{bit_at}
use Rattle.tree_theory.proofs.Masks.{shl_one}
use Rattle.meeting.specs.Meeting.{over}
use Rattle.meeting.proofs.Digits.{bit-suc, bit-zero}
use Rattle.meeting.proofs.Masked.{bit-none}
use Rattle.splits.proofs.Adding.{over_abs}

pub record Halved (m j low high : ℕ) : Type 0 where
  pub before : (i : ℕ) → bit_at low i ≡ true → i < j
  pub behind : (i : ℕ) → bit_at high i ≡ true → j ≤ i
  pub bits : (i : ℕ) → ind (bit_at m i) ≡ ind (bit_at low i) +ℤ ind (bit_at high i)

either : (a b c : Bool) → ind a ≡ ind b +ℤ ind c → (b ≡ true → a ≡ true) × (c ≡ true → a ≡ true)
unfolding ind
either true b c e = (λ _. refl, λ _. refl)
either false true true e = absurd (omega (arith, ap nat_abs e))
either false true false e = absurd (omega (arith, ap nat_abs e))
either false false true e = absurd (omega (arith, ap nat_abs e))
either false false false e = (λ q. q, λ q. q)

clash : {A : Type 0} {b : Bool} → b ≡ true → b ≡ false → A
clash e f = absurd (true≢false (sym e ∙ f))

-- one digit more: the lowest digit of m is the lower half's
module _ (j m : ℕ) (ih : Halved (m / 2) j (m / 2 % 2 ^ j) (m / 2 - m / 2 % 2 ^ j)) where
  abbrev low : ℕ
  low = m % 2 ^ suc j

  abbrev high : ℕ
  high = m - m % 2 ^ suc j

  low-is : low ≡ m / 2 % 2 ^ j * 2 + m % 2
  low-is = subst (λ (k : ℕ). m % 2 ^ k ≡ m / 2 % 2 ^ j * 2 + m % 2) (add-one j) (mod-pow-add m j 1)

  low_half : low / 2 ≡ m / 2 % 2 ^ j
  low_half = omega (arith, low-is)

  high_half : high / 2 ≡ m / 2 - m / 2 % 2 ^ j
  high_half = omega (arith, low-is)

  low-suc : (i : ℕ) → bit_at low (suc i) ≡ bit_at (m / 2 % 2 ^ j) i
  low-suc i = bit-suc low i ∙ ap (λ (x : ℕ). bit_at x i) low_half

  high-suc : (i : ℕ) → bit_at high (suc i) ≡ bit_at (m / 2 - m / 2 % 2 ^ j) i
  high-suc i = bit-suc high i ∙ ap (λ (x : ℕ). bit_at x i) high_half

  high_zero : bit_at high 0 ≡ false
  high_zero = bit-zero high ∙ eq_no {a = high % 2} {b = 1} (omega (arith, low-is))

  before : (i : ℕ) → bit_at low i ≡ true → i < suc j
  before zero h = omega arith
  before (suc i) h = omega (arith, ih.before i (sym (low-suc i) ∙ h))

  behind : (i : ℕ) → bit_at high i ≡ true → suc j ≤ i
  behind zero h = clash h high_zero
  behind (suc i) h = omega (arith, ih.behind i (sym (high-suc i) ∙ h))

  bits : (i : ℕ) → ind (bit_at m i) ≡ ind (bit_at low i) +ℤ ind (bit_at high i)
  bits zero = let e : m % 2 ≡ low % 2 = omega (arith, low-is) in
      ap ind (bit-zero m ∙ ap (λ (x : ℕ). eqb x 1) e ∙ sym (bit-zero low))
      ∙ sym (ap (λ y. ind (bit_at low 0) +ℤ y) (ind-no high_zero) ∙ +ℤ_idr (ind (bit_at low 0)))
  bits (suc i) = ap ind (bit-suc m i) ∙ ih.bits i ∙ ap₂ (λ b c. ind b +ℤ ind c) (sym (low-suc i)) (sym (high-suc i))

  halve_more : Halved m (suc j) low high
  halve_more = record { before = before; behind = behind; bits = bits }

halved : (j m : ℕ) → Halved m j (m % 2 ^ j) (m - m % 2 ^ j)
halved zero m = let e : m % 2 ^ 0 ≡ 0 = mod-one m in
    rw (e, sub-zero m) (record {
      before = λ i h. clash h (bit-none i);
      behind = λ i h. omega arith;
      bits = λ i. sym (ap (λ y. y +ℤ ind (bit_at m i)) (ind-no (bit-none i)) ∙ +ℤ_idl (ind (bit_at m i)));
    })
halved (suc j) m = halve_more j m (halved j (m / 2))

halves : (m j : ℕ) → Halved m j (bit_and m (2 ^ j - 1)) (m - bit_and m (2 ^ j - 1))
halves m j = rw (and_mask m j) (halved j m)

-- as the code cuts it
pub code-halves : (m j : ℕ) → j < max_strains → Halved m j (bit_and m ((1 * 2 ^ j) % 2 ^ 64 - 1)) (m - bit_and m ((1 * 2 ^ j) % 2 ^ 64 - 1))
code-halves m j l = rw (shl_one j l) (halves m j)

module _ {m j low high : ℕ} (h : Halved m j low high) where
  pub low_of : (i : ℕ) → bit_at low i ≡ true → bit_at m i ≡ true
  low_of i = (either (bit_at m i) (bit_at low i) (bit_at high i) (h.bits i)).0

  pub high-of : (i : ℕ) → bit_at high i ≡ true → bit_at m i ≡ true
  high-of i = (either (bit_at m i) (bit_at low i) (bit_at high i) (h.bits i)).1

  pub over-halves : (f : ℕ → ℤ) → over m f ≡ over low f +ℤ over high f
  unfolding over
  over-halves f = sum_cong max_strains (λ i _. ap (λ y. y *ℤ f i) (h.bits i) ∙ *ℤ-distribʳ (ind (bit_at low i)) (ind (bit_at high i)) (f i))
      ∙ sum-+ max_strains (λ i. ind (bit_at low i) *ℤ f i) (λ i. ind (bit_at high i) *ℤ f i)

  -- both halves together, as the code adds them
  module _ (f : ℕ → ℤ) (near : (i : ℕ) → nat_abs (f i) ≤ max_distance) {a b : ℤ} (ea : a ≡ over low f) (eb : b ≡ over high f) where
    abbrev code : ℤ
    code = to_z w64 (of_z w64 a) +ℤ to_z w64 (of_z w64 b)

    code_is : code ≡ over m f
    code_is = ap₂ ◌+ℤ◌ (back a (omega (arith, ap nat_abs ea, over_abs max_distance low f near)) ∙ ea) (back b (omega (arith, ap nat_abs eb, over_abs max_distance high f near)) ∙ eb)
        ∙ sym (over-halves f)

    code-near : nat_abs code < 2 ^ 63
    code-near = omega (arith, ap nat_abs code_is, over_abs max_distance m f near)

    pub join-fits : SFits w64 code
    join-fits = fits_abs code code-near

    pub join_is : to_z w64 (of_z w64 code) ≡ over m f
    join_is = back code code-near ∙ code_is
