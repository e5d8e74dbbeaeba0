-- How many bytes the numbers of a line have, and the lines by what is known of their numbers.
use mathlib.Core.Path.{◌≡◌, refl, sym, ap, subst}
use mathlib.Core.Bool.{Bool, true, false}
use mathlib.Core.List.{List, [], ◌∷◌, ◌++◌}
use Prim.Native.Nat.{ℕ, ◌+◌, ◌≤◌}
use native.Mathlib.Omega.{arith}
use lib.IntN.{ℤ, pos, neg_ℤ, nat_abs}
use lib.ListN.{length, get_or}
use lib.Signed.{lt_z}
use Rattle.exact.proofs.Sign.{nat_abs_neg}
use Rattle.verdict.specs.declared.Rule.{Rule}
use Rattle.std.specs.Prelude.{Option, Some, None}
use Rattle.writing.specs.Text.{Wrote}
use Rattle.lines.specs.Lines.{end, fields_by, line_by, mean_word, none_word, mean_line_by, fit_word}
use Rattle.long_digits.specs.Digits.{natural}
use Rattle.long_writing.specs.Decimals.{long_decimal, long_signed}
use Rattle.long_writing.proofs.Growing.{decimals_length}
use Rattle.long_fields.specs.Fields.{long_by}
use Rattle.long_fields.proofs.Numbers.{by_sign}
use Rattle.long_lines.specs.LongLines.{Digits, wide_of, mean_by}

-- ---- numbers
pub digits-length : {L : ℕ} {ds : List ℕ} → Digits L ds → length (long_decimal (natural L (λ k. get_or ds k 0))) ≤ 330
digits-length {L} {ds} w = decimals_length L (λ k. get_or ds k 0) w.small w.most

magnitude : (b : Bool) (n : ℕ) → n ≡ nat_abs (wide_of b n)
magnitude true n = sym (nat_abs_neg (pos n))
magnitude false n = refl

module _ (b : Bool) (n : ℕ) (e : b ≡ lt_z (wide_of b n) (pos 0)) where
  pub wide_is : long_by b n ≡ long_signed (wide_of b n)
  wide_is = by_sign (wide_of b n) b n e (magnitude b n)

by-long : (b : Bool) (n : ℕ) → length (long_decimal n) ≤ 330 → length (long_by b n) ≤ 331
by-long true n h = omega arith
by-long false n h = omega arith

pub by_digits : {L : ℕ} {ds : List ℕ} (b : Bool) → Digits L ds → length (long_by b (natural L (λ k. get_or ds k 0))) ≤ 331
by_digits {L} {ds} b w = by-long b (natural L (λ k. get_or ds k 0)) (digits-length w)

pub wide-wrote : {b c : List ℕ} {at k : ℕ} (negative : Bool) (n : ℕ) → negative ≡ lt_z (wide_of negative n) (pos 0) → Wrote b c at (32 ∷ long_by negative n) k → Wrote b c at (32 ∷ long_signed (wide_of negative n)) k
wide-wrote {b} {c} {at} {k} negative n e w = subst (λ (t : List ℕ). Wrote b c at (32 ∷ t) k) (wide_is negative n e) w

pub wide-length : {L : ℕ} {ds : List ℕ} (b : Bool) → Digits L ds → b ≡ lt_z (wide_of b (natural L (λ k. get_or ds k 0))) (pos 0) → length (long_signed (wide_of b (natural L (λ k. get_or ds k 0)))) ≤ 331
wide-length {L} {ds} b w e = omega (arith, ap length (wide_is b (natural L (λ k. get_or ds k 0)) e), by_digits b w)

-- ---- by the rule, and by whether there is a mean square
pub by_rule : {b c : List ℕ} {k : ℕ} (own rule : Rule) → own ≡ rule → Wrote b c 0 (fit_word rule) k → Wrote b c 0 (fit_word own) k
by_rule {b} {c} {k} own rule e w = subst (λ (x : Rule). Wrote b c 0 (fit_word x) k) (sym e) w

module _ {b c : List ℕ} {at k : ℕ} (F : ℤ) (levels : ℕ) where
  pub mean-none : (over : Option (List ℕ)) → over ≡ None → Wrote b c at (mean_word ++ (32 ∷ (none_word ++ end))) k → Wrote b c at (mean_line_by long_signed F (mean_by levels over)) k
  unfolding fields_by
  mean-none over e w = subst (λ (x : Option (List ℕ)). Wrote b c at (mean_line_by long_signed F (mean_by levels x)) k) (sym e) w

  pub mean-over : (over : Option (List ℕ)) (digits : List ℕ) → over ≡ Some digits → Wrote b c at (line_by long_signed mean_word (F ∷ pos (natural levels (λ j. get_or digits j 0)) ∷ [])) k → Wrote b c at (mean_line_by long_signed F (mean_by levels over)) k
  mean-over over digits e w = subst (λ (x : Option (List ℕ)). Wrote b c at (mean_line_by long_signed F (mean_by levels x)) k) (sym e) w
