-- Numbers by their signs and magnitudes (`by_sign`, `sign_of`, `magnitude-of`), how many bytes they have (`.._length`), and lines piece by piece.
use mathlib.Core.Path.{◌≡◌, refl, sym, ◌∙◌, ap, ap₂, subst}
use mathlib.Core.Bool.{Bool, true, false}
use mathlib.Core.List.{List, [], ◌∷◌, ◌++◌, append_assoc}
use mathlib.Core.Logic.{◌⊎◌, inl, inr, ⊎_elim}
use Prim.Native.Nat.{ℕ, zero, suc, ◌+◌, ◌*◌, ◌^◌, ◌≤◌, ◌<◌}
use native.Mathlib.Decide.{dec_lt}
use native.Mathlib.Nat.{mul-le-mul_right}
use native.Mathlib.Omega.{arith}
use borrow.Author.Tests.{le-ltb}
use denote.Floats.{is_true}
use lib.IntN.{ℤ, pos, negsuc, neg_ℤ, nat_abs, ◌+ℤ◌, ◌-ℤ◌, ◌*ℤ◌}
use lib.ListN.{length, get_or, set, length-set, length-append}
use lib.Signed.{le_z, lt_z}
use mir.Syntax.{w64}
use mir.Val.{SFits, to_z, of_z}
use Rattle.exact.specs.Table.{table, entry_of}
use Rattle.exact.proofs.Decide.{by_cases}
use Rattle.exact.proofs.Fill.{Filled, fill_none, fill_more, length-table, get_or_table_const}
use Rattle.exact.specs.Order.{◌≤ᶻ◌, ◌<ᶻ◌}
use Rattle.exact.proofs.Order.{le-by, nn+, nn*, nn_sub, nn-pos, <-is, is-<, ≤-pos, total}
use Rattle.exact.proofs.Quote.{by-ring, quote}
use Rattle.exact.proofs.Sign.{nat_abs_neg, is_pos, back, back-pos, fits_abs}
use Rattle.fit_theory.proofs.Zeros.{less-no}
use Rattle.lines.specs.Lines.{end, edge_word, fields_by, line_by}
use Rattle.lines.proofs.Pieces.{and_then}
use Rattle.long_digits.specs.Digits.{base, value, natural}
use Rattle.long_digits.specs.Clamp.{clamp, most}
use Rattle.long_digits.proofs.Values.{value_cong, value_pos}
use Rattle.long_digits.proofs.Clamps.{sign_below}
use Rattle.long_theory.specs.Long.{max_levels, digit_of, long_denominator, long_numerator, OneSign, LongProper}
use Rattle.long_carrying.specs.Carried.{wide_size}
use Rattle.long_lengths.specs.Edge.{LongRow, LongEdge, measure}
use Rattle.writing.specs.Text.{signed, Wrote}
use Rattle.writing.proofs.Writing.{wrote_then, wrote-length}
use Rattle.writing.proofs.Decimals.{signed-length}
use Rattle.long_writing.specs.Decimals.{long_decimal, long_signed}
use Rattle.long_writing.proofs.Growing.{short-signed, decimals_length}
use Rattle.long_fields.specs.Fields.{long_by, widest_edge, Magnitudes}

-- ---- a number by its sign and its magnitude
pub by_sign : (z : ℤ) (b : Bool) (n : ℕ) → b ≡ lt_z z (pos 0) → n ≡ nat_abs z → long_by b n ≡ long_signed z
by_sign (pos m) b n e f = ap₂ long_by (e ∙ le-ltb m 0 (omega arith)) f
by_sign (negsuc m) b n e f = ap₂ long_by e f

-- the sign by a comparison with 0
less-yes : {a b : ℤ} → a <ᶻ b → lt_z a b ≡ true
less-yes {a} {b} h = is_true (lt_z a b) h.lt

measured-up : (D n : ℤ) → pos 0 ≤ᶻ n → pos 0 ≤ᶻ measure (pos 0) D n
measured-up D n up = le-by (nn* (nn-pos 2000) up) (by-ring (D ∷ n ∷ []) (search quote depth 20) tt)

measured-down : (D n : ℤ) → n <ᶻ pos 0 → measure (pos 0) D n <ᶻ pos 0
measured-down D n down = is-< (le-by (nn+ (nn* (nn-pos 2000) (nn_sub (<-is down))) (nn-pos 1999)) (by-ring (D ∷ n ∷ []) (search quote depth 20) tt))

measured : (D n : ℤ) → lt_z (measure (pos 0) D n) (pos 0) ≡ lt_z n (pos 0)
measured D n = ⊎_elim
    (λ up. less-no {a = measure (pos 0) D n} {b = pos 0} (measured-up D n up) ∙ sym (less-no {a = n} {b = pos 0} up))
    (λ down. less-yes {a = measure (pos 0) D n} {b = pos 0} (measured-down D n down) ∙ sym (less-yes {a = n} {b = pos 0} down))
    (total (pos 0) n)

pub sign_of : (D n z : ℤ) → z ≡ clamp most (measure (pos 0) D n) → lt_z z (pos 0) ≡ lt_z n (pos 0)
sign_of D n z e = ap (λ (x : ℤ). lt_z x (pos 0)) e ∙ sign_below 999999999999 (measure (pos 0) D n) ∙ measured D n

-- the magnitude by the digits' magnitudes, where these are of one sign
up_is : (z : ℤ) → pos 0 ≤ᶻ z → z ≡ pos (nat_abs z)
up_is z h = is_pos z (is_true (le_z (pos 0) z) h.le)

down_is : (z : ℤ) → z ≤ᶻ pos 0 → z ≡ neg_ℤ (pos (nat_abs z))
down_is (pos m) h = let e : m ≡ 0 = omega (arith, ≤-pos h) in rw e
down_is (negsuc m) h = refl

turned : (x y : ℤ) → pos base *ℤ neg_ℤ x +ℤ neg_ℤ y ≡ neg_ℤ (pos base *ℤ x +ℤ y)
turned x y = by-ring (x ∷ y ∷ []) (search quote depth 20) tt

value_neg : (L : ℕ) (g : ℕ → ℕ) → value L (λ k. neg_ℤ (pos (g k))) ≡ neg_ℤ (pos (natural L g))
unfolding value natural
value_neg zero g = refl
value_neg (suc L) g = ap (λ z. pos base *ℤ z +ℤ neg_ℤ (pos (g L))) (value_neg L g) ∙ turned (pos (natural L g)) (pos (g L))

pub magnitude-of : (L K : ℕ) (ns : List ℤ) (v : ℕ) (g : ℕ → ℕ) → ((k : ℕ) → k < L → g k ≡ nat_abs (digit_of K ns k v)) → OneSign L K ns v → natural L g ≡ nat_abs (long_numerator L K ns v)
magnitude-of L K ns v g each (inl up) =
    sym (ap nat_abs (value_cong L (λ k l. up_is (digit_of K ns k v) (up k l) ∙ ap pos (sym (each k l))) ∙ value_pos L g))
magnitude-of L K ns v g each (inr down) =
    sym (ap nat_abs (value_cong L (λ k l. down_is (digit_of K ns k v) (down k l) ∙ ap (λ n. neg_ℤ (pos n)) (sym (each k l))) ∙ value_neg L g) ∙ nat_abs_neg (pos (natural L g)))

-- ---- how many bytes
pub by_length : (b : Bool) (L : ℕ) (f : ℕ → ℕ) → ((k : ℕ) → f k < base) → L ≤ 55 → length (long_by b (natural L f)) ≤ 331
by_length true L f small few = omega (arith, decimals_length L f small few)
by_length false L f small few = omega (arith, decimals_length L f small few)

abs_low : (z : ℤ) → SFits w64 z → nat_abs z < 2 ^ 64
abs_low (pos n) h = omega (arith, h.sfits)
abs_low (negsuc n) h = omega (arith, h.sfits)

pub short-is : (z : ℤ) → SFits w64 z → long_signed z ≡ signed z
short-is z h = short-signed z (abs_low z h)

pub short-length : (z : ℤ) → SFits w64 z → length (long_signed z) ≤ 21
short-length z h = omega (arith, ap length (short-is z h), signed-length z)

pub pos-length : (n : ℕ) → n < 2 ^ 63 → length (long_signed (to_z w64 n)) ≤ 21
pos-length n h = omega (arith, ap (λ (z : ℤ). length (long_signed z)) (back-pos n h), short-length (pos n) (fits_abs (pos n) h))

-- ---- the numerator of an edge
module _ {K : ℕ} {Ds : List ℕ} {ns : List ℤ} (w : LongProper K Ds ns) (v : ℕ) (l : v < K) where
  pub row_of : LongRow K (length Ds) ns v
  row_of = record { table = omega (arith, w.whole); edge = l }

  pub edge_of : LongEdge K (length Ds) Ds ns v
  edge_of = record { row = row_of; levels = omega arith; digits = w.digits; tops = λ k _. w.tops (k * K + v) }

  pub numerator-wrote : {b c r : List ℕ} {at k : ℕ} {y : ℤ} → Magnitudes (length Ds) K ns v r → y ≡ clamp most (measure (pos 0) (pos (long_denominator (length Ds) Ds)) (long_numerator (length Ds) K ns v))
      → Wrote b c at (32 ∷ long_by (lt_z y (pos 0)) (natural (length Ds) (λ i. get_or r i 0))) k → Wrote b c at (32 ∷ long_signed (long_numerator (length Ds) K ns v)) k
  numerator-wrote {b} {c} {r} {at} {k} {y} m e p = subst (λ (t : List ℕ). Wrote b c at (32 ∷ t) k)
      (by_sign (long_numerator (length Ds) K ns v) (lt_z y (pos 0)) (natural (length Ds) (λ i. get_or r i 0)) (sign_of (pos (long_denominator (length Ds) Ds)) (long_numerator (length Ds) K ns v) y e) (magnitude-of (length Ds) K ns v (λ i. get_or r i 0) m.each (w.signs v l))) p

  pub numerator-length : length (long_signed (long_numerator (length Ds) K ns v)) ≤ 331
  numerator-length =
      let n = long_numerator (length Ds) K ns v in
      let g : ℕ → ℕ = λ k. nat_abs (digit_of K ns k v) in
      omega (
        arith,
        w.most,
        ap length (by_sign n (lt_z n (pos 0)) (natural (length Ds) g) refl (magnitude-of (length Ds) K ns v g (λ k _. refl) (w.signs v l))),
        by_length (lt_z n (pos 0)) (length Ds) g (λ k. w.tops (k * K + v)) (omega (arith, w.most)),
      )

-- ---- a line, field by field
pub fields-first : (show : ℤ → List ℕ) (z : ℤ) (zs : List ℤ) (t : List ℕ) → fields_by show (z ∷ zs) ++ t ≡ (32 ∷ show z) ++ (fields_by show zs ++ t)
unfolding fields_by
fields-first show z zs t = ap (λ (l : List ℕ). 32 ∷ l) (append_assoc (show z) (fields_by show zs) t)

pub one_field : (show : ℤ → List ℕ) (a : ℤ) → fields_by show (a ∷ []) ++ end ≡ (32 ∷ show a) ++ end
unfolding fields_by
one_field show a = fields-first show a [] end

pub two_fields : (show : ℤ → List ℕ) (a b : ℤ) → fields_by show (a ∷ b ∷ []) ++ end ≡ (32 ∷ show a) ++ ((32 ∷ show b) ++ end)
two_fields show a b = fields-first show a (b ∷ []) end ∙ ap (λ (l : List ℕ). (32 ∷ show a) ++ l) (one_field show b)

pub three-fields : (show : ℤ → List ℕ) (a b c : ℤ) → fields_by show (a ∷ b ∷ c ∷ []) ++ end ≡ (32 ∷ show a) ++ ((32 ∷ show b) ++ ((32 ∷ show c) ++ end))
three-fields show a b c = fields-first show a (b ∷ c ∷ []) end ∙ ap (λ (l : List ℕ). (32 ∷ show a) ++ l) (two_fields show b c)

-- ---- what is written of a number
module _ {b c d e : List ℕ} {at i j k : ℕ} (negative : Bool) (n : ℕ) (room : at + 2 ≤ length b) where
  pub with_minus : negative ≡ true → Wrote b c at (32 ∷ []) i → Wrote c d i (45 ∷ []) j → Wrote d e j (long_decimal n) k → Wrote b e at (32 ∷ long_by negative n) k
  with_minus q p r t = subst (λ (x : Bool). Wrote b e at (32 ∷ long_by x n) k) (sym q) (wrote_then (omega arith) p (wrote_then (omega (arith, p.place, wrote-length {b = b} {c = c} (omega arith) p)) r t))

pub without : {b c d : List ℕ} {at i k : ℕ} (negative : Bool) (n : ℕ) → at + 2 ≤ length b → negative ≡ false → Wrote b c at (32 ∷ []) i → Wrote c d i (long_decimal n) k → Wrote b d at (32 ∷ long_by negative n) k
without {b} {c} {d} {at} {i} {k} negative n room q p t = subst (λ (x : Bool). Wrote b d at (32 ∷ long_by x n) k) (sym q) (wrote_then (omega arith) p t)

pub short-wrote : {b c d : List ℕ} {at i k : ℕ} (z : ℤ) → SFits w64 z → at + 22 ≤ length b → Wrote b c at (32 ∷ []) i → Wrote c d i (signed z) k → Wrote b d at (32 ∷ long_signed z) k
short-wrote z h room p t = rw (short-is z h) (wrote_then (omega arith) p t)

-- ---- the digits of an edge's numerator without their sign
pub record Taking (L K : ℕ) (ns : List ℤ) (v k : ℕ) (held : List ℕ) : Type 0 where
  pub here : k ≤ L
  pub size : length held ≡ wide_size
  pub filled : Filled 0 (λ i. nat_abs (digit_of K ns i v)) (λ _. 0) k held

module _ (L K : ℕ) (ns : List ℤ) (v : ℕ) where
  pub take-start : (held : List ℕ) → held ≡ table wide_size (λ _. 0) → Taking L K ns v 0 held
  take-start held e = record {
    here = omega arith;
    size = ap length e ∙ length-table wide_size (λ _. 0);
    filled = fill_none 0 _ _ held (λ k. ap (λ (l : List ℕ). get_or l k 0) e ∙ get_or_table_const wide_size 0 k);
  }

  pub take-turn : L ≤ max_levels → (k : ℕ) (held : List ℕ) (x : ℕ) → k < L → x ≡ nat_abs (digit_of K ns k v) → Taking L K ns v k held → Taking L K ns v (k + 1) (set held k x)
  take-turn few k held x l e w = record {
    here = omega arith;
    size = simp length-set w.size;
    filled = fill_more 0 _ _ k held x (omega (arith, w.size)) e w.filled;
  }

  pub take-end : ((i : ℕ) → nat_abs (entry_of ns i) < base) → (k : ℕ) (held : List ℕ) → L ≤ k → Taking L K ns v k held → Magnitudes L K ns v held
  take-end tops k held h w = record {
    size = w.size;
    small = λ i. by_cases (dec_lt i k) (λ l. omega (arith, w.filled.below i l, tops (i * K + v))) (λ g. omega (arith, w.filled.above i (omega arith)));
    each = λ i l. w.filled.below i (omega arith);
  }

  module _ (row : LongRow K L ns v) (tops : (i : ℕ) → nat_abs (entry_of ns i) < base) (k : ℕ) (l : k < L) where
    pub place-low : k * K + v < length ns
    place-low = omega (arith, row.table, row.edge, mul-le-mul_right {m = suc k} {n = L} K l)

    pub digit-back : to_z w64 (of_z w64 (digit_of K ns k v)) ≡ digit_of K ns k v
    digit-back = back (digit_of K ns k v) (omega (arith, tops (k * K + v)))

-- ---- a line that was written piece by piece
abbrev one-part : List ℕ → ℤ → List ℕ
one-part word a = word ++ ((32 ∷ long_signed a) ++ end)

abbrev two-parts : List ℕ → ℤ → ℤ → List ℕ
two-parts word a b = word ++ ((32 ∷ long_signed a) ++ ((32 ∷ long_signed b) ++ end))

abbrev three-parts : List ℕ → ℤ → ℤ → ℤ → List ℕ
three-parts word a b c = word ++ ((32 ∷ long_signed a) ++ ((32 ∷ long_signed b) ++ ((32 ∷ long_signed c) ++ end)))

pub one-length : (word : List ℕ) (a : ℤ) → length (line_by long_signed word (a ∷ [])) ≡ length word + length (long_signed a) + 2
one-length word a = ap (λ (l : List ℕ). length (word ++ l)) (one_field long_signed a) ∙ simp length-append (omega arith)

pub two-length : (word : List ℕ) (a b : ℤ) → length (line_by long_signed word (a ∷ b ∷ [])) ≡ length word + length (long_signed a) + length (long_signed b) + 3
two-length word a b = ap (λ (l : List ℕ). length (word ++ l)) (two_fields long_signed a b) ∙ simp length-append (omega arith)

pub three-length : (word : List ℕ) (a b c : ℤ) → length (line_by long_signed word (a ∷ b ∷ c ∷ [])) ≡ length word + length (long_signed a) + length (long_signed b) + length (long_signed c) + 4
three-length word a b c = ap (λ (l : List ℕ). length (word ++ l)) (three-fields long_signed a b c) ∙ simp length-append (omega arith)

module _ {b c d e : List ℕ} {at i j k : ℕ} (word : List ℕ) (x : ℤ) (room : at + (length word + length (long_signed x) + 2) ≤ length b) where
  pub one-wrote : Wrote b c at word i → Wrote c d i (32 ∷ long_signed x) j → Wrote d e j end k → Wrote b e at (line_by long_signed word (x ∷ [])) k
  one-wrote w1 w2 w3 =
      let same = ap (λ (l : List ℕ). word ++ l) (one_field long_signed x) in
      let size : at + length (one-part word x) ≤ length b = omega (arith, one-length word x, ap length same) in
      subst (λ (t : List ℕ). Wrote b e at t k) (sym same) (and_then size w1 (λ r. and_then r w2 (λ _. w3)))

module _ {b c d e f : List ℕ} {at i j k l : ℕ} (word : List ℕ) (x y : ℤ) (room : at + (length word + length (long_signed x) + length (long_signed y) + 3) ≤ length b) where
  pub two-wrote : Wrote b c at word i → Wrote c d i (32 ∷ long_signed x) j → Wrote d e j (32 ∷ long_signed y) k → Wrote e f k end l → Wrote b f at (line_by long_signed word (x ∷ y ∷ [])) l
  two-wrote w1 w2 w3 w4 =
      let same = ap (λ (l : List ℕ). word ++ l) (two_fields long_signed x y) in
      let size : at + length (two-parts word x y) ≤ length b = omega (arith, two-length word x y, ap length same) in
      subst (λ (t : List ℕ). Wrote b f at t l) (sym same) (and_then size w1 (λ r. and_then r w2 (λ r. and_then r w3 (λ _. w4))))

module _ {b c d e f g : List ℕ} {at i j k l o : ℕ} (word : List ℕ) (x y z : ℤ) (room : at + (length word + length (long_signed x) + length (long_signed y) + length (long_signed z) + 4) ≤ length b) where
  pub three-wrote : Wrote b c at word i → Wrote c d i (32 ∷ long_signed x) j → Wrote d e j (32 ∷ long_signed y) k → Wrote e f k (32 ∷ long_signed z) l → Wrote f g l end o → Wrote b g at (line_by long_signed word (x ∷ y ∷ z ∷ [])) o
  three-wrote w1 w2 w3 w4 w5 =
      let same = ap (λ (l : List ℕ). word ++ l) (three-fields long_signed x y z) in
      let size : at + length (three-parts word x y z) ≤ length b = omega (arith, three-length word x y z, ap length same) in
      subst (λ (t : List ℕ). Wrote b g at t o) (sym same) (and_then size w1 (λ r. and_then r w2 (λ r. and_then r w3 (λ r. and_then r w4 (λ _. w5)))))

-- ---- the line of an edge
pub edge-length : (v : ℕ) (n m : ℤ) → v < 2 ^ 63 → length (long_signed n) ≤ 331 → SFits w64 m → length (line_by long_signed edge_word (pos v ∷ n ∷ m ∷ [])) ≤ widest_edge
edge-length v n m h k f = omega (arith, three-length edge_word (pos v) n m, short-length (pos v) (fits_abs (pos v) h), short-length m f)
