-- A number with one digit more has six decimals more; short numbers are written as ever.
use mathlib.Core.Path.{◌≡◌, refl, sym, ◌∙◌, ap, ap₂, subst}
use mathlib.Core.List.{List, [], ◌∷◌, ◌++◌, append_assoc}
use Prim.Native.Nat.{ℕ, zero, suc, ◌+◌, ◌*◌, ◌-◌, ◌/◌, ◌%◌, ◌^◌, ◌≤◌, ◌<◌}
use native.Mathlib.Nat.{lt_trans, le_trans, lt_of_lt_of_le, pow-suc, pow-le-pow_right}
use native.Mathlib.Numerals.{add-one}
use native.Mathlib.Omega.{arith}
use lib.Dec.{ltb→lt, leb→le}
use lib.IntN.{ℤ, pos, negsuc, nat_abs}
use lib.ListN.{length, length-append}
use Rattle.long_digits.specs.Digits.{base, natural}
use Rattle.long_digits.proofs.Values.{natural-suc, natural-none}
use Rattle.writing.specs.Text.{digits, decimal, signed, Wrote}
use Rattle.writing.proofs.Writing.{wrote_none, wrote_then, wrote-length}
use Rattle.writing.proofs.Decimals.{digits-small, digits_step, digits-enough, digits-length}
use Rattle.long_writing.specs.Decimals.{max_digits, long_decimal, long_signed, six, sixes, FirstDigit}

-- an allowance may grow by any number of digits
more : (j k n : ℕ) → n < 10 ^ suc k → digits (j + suc k) n ≡ digits (suc k) n
more zero k n h = ap (λ (i : ℕ). digits i n) (omega arith)
more (suc j) k n h =
    ap (λ (i : ℕ). digits i n) (omega arith)
    ∙ digits-enough (j + k) n (omega (arith, h, pow-le-pow_right {n = 10} (omega arith) {i = suc k} {j = suc (j + k)} (omega arith)))
    ∙ ap (λ (i : ℕ). digits i n) (omega arith)
    ∙ more j k n h

-- ---- short numbers
pub short-decimal : (n : ℕ) → n < 2 ^ 64 → long_decimal n ≡ decimal n
short-decimal n h = more 380 19 n (omega arith)

pub short-signed : (z : ℤ) → nat_abs z < 2 ^ 64 → long_signed z ≡ signed z
short-signed (pos n) h = short-decimal n h
short-signed (negsuc n) h = ap (λ (l : List ℕ). 45 ∷ l) (short-decimal (suc n) h)

-- ---- one digit more
append-nil : (l : List ℕ) → l ++ [] ≡ l
append-nil [] = refl
append-nil (x ∷ xs) = ap (◌∷◌ x) (append-nil xs)

tail : (k n : ℕ) (t : List ℕ) → 10 ≤ n → digits (suc k) n ++ t ≡ digits k (n / 10) ++ ((48 + n % 10) ∷ t)
tail k n t h = ap (λ (l : List ℕ). l ++ t) (digits_step k n h) ∙ append_assoc (digits k (n / 10)) ((48 + n % 10) ∷ []) t

-- a decimal in front of others
front : {x y : ℕ} {s t : List ℕ} → x ≡ y → s ≡ t → x ∷ s ≡ y ∷ t
front e f = ap₂ (λ (x : ℕ) (l : List ℕ). x ∷ l) e f

-- six steps of one decimal each
steps : (k n : ℕ) → 1000000 ≤ n → digits (suc (suc (suc (suc (suc (suc k)))))) n ≡ digits k (n / 1000000) ++ six (n % 1000000)
steps k n h =
    digits_step (suc (suc (suc (suc (suc k))))) n (omega arith)
    ∙ tail (suc (suc (suc (suc k)))) (n / 10) ((48 + n % 10) ∷ []) (omega arith)
    ∙ tail (suc (suc (suc k))) (n / 10 / 10) ((48 + n / 10 % 10) ∷ (48 + n % 10) ∷ []) (omega arith)
    ∙ tail (suc (suc k)) (n / 10 / 10 / 10) ((48 + n / 10 / 10 % 10) ∷ (48 + n / 10 % 10) ∷ (48 + n % 10) ∷ []) (omega arith)
    ∙ tail (suc k) (n / 10 / 10 / 10 / 10) ((48 + n / 10 / 10 / 10 % 10) ∷ (48 + n / 10 / 10 % 10) ∷ (48 + n / 10 % 10) ∷ (48 + n % 10) ∷ []) (omega arith)
    ∙ tail k (n / 10 / 10 / 10 / 10 / 10) ((48 + n / 10 / 10 / 10 / 10 % 10) ∷ (48 + n / 10 / 10 / 10 % 10) ∷ (48 + n / 10 / 10 % 10) ∷ (48 + n / 10 % 10) ∷ (48 + n % 10) ∷ []) (omega arith)
    ∙ ap₂ (λ (q : ℕ) (l : List ℕ). digits k q ++ l) (omega arith) (front (omega arith) (front (omega arith) (front (omega arith) (front (omega arith) (front (omega arith) (front (omega arith) refl))))))

-- a number with one digit more
pub grown : (n d : ℕ) → 1 ≤ n → d < base → n < 10 ^ 394 → long_decimal (base * n + d) ≡ long_decimal n ++ six d
grown n d one h few =
    steps 394 (base * n + d) (omega arith)
    ∙ ap₂ (λ (q r : ℕ). digits 394 q ++ six r) (omega arith) (omega arith)
    ∙ ap (λ (l : List ℕ). l ++ six d) (sym (more 6 393 n few))

-- ---- how large, and how long
pub natural-low : (L : ℕ) (f : ℕ → ℕ) → ((k : ℕ) → f k < base) → natural L f < base ^ L
unfolding natural
natural-low zero f h = omega arith
natural-low (suc L) f h = omega (arith, pow-suc base L, natural-low L f h, h L)

pub few_decimals : (L : ℕ) (f : ℕ → ℕ) → ((k : ℕ) → f k < base) → L ≤ max_digits → natural L f < 10 ^ 394
few_decimals L f h few = lt_trans (lt_of_lt_of_le (natural-low L f h) (pow-le-pow_right {n = base} (omega arith) {i = L} {j = max_digits} few)) (ltb→lt (base ^ max_digits) (10 ^ 394) tt)

pub six-long : (n : ℕ) → n < base → length (long_decimal n) ≤ 6
six-long n h = rw (more 394 5 n (omega arith)) (digits-length 6 n)

-- of 55 digits
pub decimals_length : (L : ℕ) (f : ℕ → ℕ) → ((k : ℕ) → f k < base) → L ≤ 55 → length (long_decimal (natural L f)) ≤ 330
decimals_length L f h few = rw (more 70 329 (natural L f) (lt_of_lt_of_le (natural-low L f h) (le_trans (pow-le-pow_right {n = base} (omega arith) {i = L} {j = 55} few) (leb→le (base ^ 55) (10 ^ 330) tt)))) (digits-length 330 (natural L f))

-- ---- the digits behind the first
pub sixes-length : (from j : ℕ) (f : ℕ → ℕ) → length (sixes from j f) ≡ 6 * j
unfolding sixes
sixes-length from zero f = refl
sixes-length from (suc j) f = simp length-append (omega (arith, sixes-length from j f))

pub sixes-none : (from : ℕ) (f : ℕ → ℕ) → sixes from 0 f ≡ []
unfolding sixes
sixes-none from f = refl

pub sixes-more : (from j : ℕ) (f : ℕ → ℕ) → sixes from (suc j) f ≡ sixes from j f ++ six (f (from + j))
unfolding sixes
sixes-more from j f = refl

-- a number by the part in front and the digits behind it
pub longer : (k j : ℕ) (f : ℕ → ℕ) → ((i : ℕ) → f i < base) → k + j ≤ max_digits → 1 ≤ natural k f → (natural k f ≤ natural (k + j) f) × (long_decimal (natural (k + j) f) ≡ long_decimal (natural k f) ++ sixes k j f)
unfolding sixes
longer k zero f small few one = (omega (arith, ap (λ (i : ℕ). natural i f) (k-none k)), ap (λ (i : ℕ). long_decimal (natural i f)) (k-none k) ∙ sym (append-nil (long_decimal (natural k f))))
  where
    k-none : (k : ℕ) → k + 0 ≡ k
    k-none k = omega arith
longer k (suc j) f small few one =
    let (high, e) = longer k j f small (omega arith) one in
    let s : natural (k + suc j) f ≡ base * natural (k + j) f + f (k + j) = ap (λ (i : ℕ). natural i f) (k-more k j) ∙ natural-suc (k + j) f in (
      omega (arith, s, high),
      ap long_decimal s ∙ grown (natural (k + j) f) (f (k + j)) (omega (arith, high, one)) (small (k + j)) (few_decimals (k + j) f small (omega arith))
          ∙ ap (λ (l : List ℕ). l ++ six (f (k + j))) e ∙ append_assoc (long_decimal (natural k f)) (sixes k j f) (six (f (k + j))),
    )
  where
    k-more : (k j : ℕ) → k + suc j ≡ suc (k + j)
    k-more k j = omega arith

-- ---- the pieces
pub record Sixing (from L : ℕ) (f : ℕ → ℕ) (b c : List ℕ) (at k next : ℕ) : Type 0 where
  pub low : from ≤ k
  pub high : k ≤ L
  pub wrote : Wrote b c at (sixes from (k - from) f) next

pub sixing_start : (from L : ℕ) (f : ℕ → ℕ) (b : List ℕ) (at : ℕ) → from ≤ L → Sixing from L f b b at from at
sixing_start from L f b at h = let e : from - from ≡ 0 = omega arith in record { low = omega arith; high = h; wrote = rw (e, sixes-none from f) (wrote_none b at) }

module _ (from L : ℕ) (f : ℕ → ℕ) (b : List ℕ) (at : ℕ) (room : at + 6 * (L - from) ≤ length b) where
  pub sixing_room : (c : List ℕ) (k next : ℕ) → Sixing from L f b c at k next → k < L → next + 6 ≤ length c
  sixing_room c k next w l = omega (arith, w.wrote.place, sixes-length from (k - from) f, w.low, wrote-length (omega (arith, sixes-length from (k - from) f, w.low)) w.wrote)

  pub sixing_turn : (c d : List ℕ) (k next last : ℕ) → Sixing from L f b c at k next → k < L → Wrote c d next (six (f k)) last → Sixing from L f b d at (k + 1) last
  sixing_turn c d k next last w l t =
      let e : k + 1 - from ≡ suc (k - from) = omega (arith, w.low) in
      let g : from + (k - from) ≡ k = omega (arith, w.low) in
      record { low = omega (arith, w.low); high = omega arith; wrote = rw (e, sixes-more from (k - from) f, g) (wrote_then (omega (arith, sixes-length from (k - from) f, w.low)) w.wrote t) }

  pub sixing_end : (c : List ℕ) (k next : ℕ) → L ≤ k → Sixing from L f b c at k next → Wrote b c at (sixes from (L - from) f) next
  sixing_end c k next h w = let e : k ≡ L = omega (arith, w.high) in subst (λ (i : ℕ). Wrote b c at (sixes from (i - from) f) next) e w.wrote

module _ (L : ℕ) (f : ℕ → ℕ) (few : L ≤ max_digits) (small : (k : ℕ) → f k < base) (k : ℕ) (z : FirstDigit L f k) where
  first-value : natural (k + 1) f ≡ f k
  first-value = ap (λ (i : ℕ). natural i f) (add-one k) ∙ natural-suc k f ∙ omega (arith, natural-none k f z.zeros)

  -- all digits are zero
  pub all-zero : L ≤ k → long_decimal (natural L f) ≡ 48 ∷ []
  all-zero h = ap long_decimal (natural-none L f (λ i l. z.zeros i (omega (arith, l)))) ∙ digits-small 399 0 (omega arith)

  -- the first that is not, then the others
  pub by_first : k < L → long_decimal (natural L f) ≡ decimal (f k) ++ sixes (k + 1) (L - (k + 1)) f
  by_first l = ap (λ (i : ℕ). long_decimal (natural i f)) whole ∙ (longer (k + 1) (L - (k + 1)) f small (omega arith) (omega (arith, first-value, z.some l))).1
      ∙ ap (λ (s : List ℕ). s ++ sixes (k + 1) (L - (k + 1)) f) (ap long_decimal first-value ∙ short-decimal (f k) (omega (arith, small k)))
    where
      whole : L ≡ k + 1 + (L - (k + 1))
      whole = omega arith

  pub first_short : length (decimal (f k)) ≤ 6
  first_short = omega (arith, ap length (short-decimal (f k) (omega (arith, small k))), six-long (f k) (small k))
