-- A run of words taken into a table, one by one: so many are laid into its front, and what they leave of the run is what the words from
-- there on begin with.
use mathlib.Core.Path.{◌≡◌, refl, sym, ◌∙◌, ap, ap₂}
use mathlib.Core.Bool.{Bool, true, false, true≢false}
use mathlib.Core.List.{List, [], ◌∷◌, map, ◌++◌}
use Prim.Native.Nat.{ℕ, zero, suc, ◌+◌, ◌^◌, ◌≤◌, ◌<◌}
use native.Mathlib.Decide.{dec_lt}
use native.Mathlib.Numerals.{add-one}
use native.Mathlib.Omega.{arith}
use lib.IntN.{ℤ, pos, negsuc, neg_ℤ, nat_abs}
use lib.ListN.{length, length-map, length-set, set, take, drop}
use lib.Seq.{length-take-le, take-suc-set, drop-set-lt, drop-drop}
use mir.Syntax.{w64}
use mir.Val.{to_z, of_z}
use mir.Facts.{to_z-of_z}
use Rattle.exact.proofs.Decide.{by_cases}
use Rattle.exact.proofs.Sign.{fits_abs}
use Rattle.lengths.specs.Limits.{max_numerator}
use Rattle.digits.specs.Digits.{at_most}
use Rattle.desk_text.specs.Words.{is_number, value_of, is_signed, signed_of, leading, behind}
use Rattle.desk_text.specs.Meaning.{word_at}
use Rattle.desk_text.specs.Fields.{cut_to, cut_magnitude, cut_numerator}
use Rattle.desk_text.proofs.Cutting.{cut_low, cut_high}
use Rattle.desk_words.specs.Reads.{words_at, end_at, IsParsed, TakenIn}
use Rattle.desk_words.specs.declared.Parsed.{Parsed}
use Rattle.desk_words.proofs.Reading.{words-behind, word-further, cut_twice}

append-nil : {A : Type 0} (l : List A) → l ++ [] ≡ l
append-nil [] = refl
append-nil (x ∷ xs) = ap (◌∷◌ x) (append-nil xs)

snoc_append : {A : Type 0} (l : List A) (x : A) (m : List A) → (l ++ (x ∷ [])) ++ m ≡ l ++ (x ∷ m)
snoc_append [] x m = refl
snoc_append (y ∷ l) x m = ap (◌∷◌ y) (snoc_append l x m)

take-drop : {A : Type 0} (n : ℕ) (l : List A) → take n l ++ drop n l ≡ l
take-drop zero l = refl
take-drop (suc n) [] = refl
take-drop (suc n) (x ∷ xs) = ap (◌∷◌ x) (take-drop n xs)

module _ (p : List ℕ → Bool) (none : p [] ≡ false) where
  -- the first word is of the kind, or it is not
  goes_on : (ws : List (List ℕ)) → p (word_at 0 ws) ≡ true
      → (length ws ≡ suc (length (drop 1 ws))) × ((leading p ws ≡ word_at 0 ws ∷ leading p (drop 1 ws)) × (behind p ws ≡ behind p (drop 1 ws)))
  unfolding leading behind
  goes_on [] e = absurd (true≢false (sym e ∙ none))
  goes_on (w ∷ ws) e = (refl, (rw e, rw e))

  stops : (ws : List (List ℕ)) → p (word_at 0 ws) ≡ false → (leading p ws ≡ []) × (behind p ws ≡ ws)
  unfolding leading behind
  stops [] e = (refl, refl)
  stops (w ∷ ws) e = (rw e, rw e)

-- so many words are taken, up to a place
pub record Going {A : Type 0} (p : List ℕ → Bool) (f : List ℕ → A) (s : List ℕ) (at : ℕ) (before into : List A) (count end : ℕ) : Type 0 where
  pub within : end ≤ length s
  pub size : length into ≡ length before
  pub room : count + length (words_at s end) ≤ length before
  pub back : drop count into ≡ drop count before
  pub values : map f (leading p (words_at s at)) ≡ take count into ++ map f (leading p (words_at s end))
  pub rest : behind p (words_at s at) ≡ behind p (words_at s end)

module _ {A : Type 0} (p : List ℕ → Bool) (f : List ℕ → A) (s : List ℕ) (at : ℕ) (before : List A) where
  pub going_start : at ≤ length s → length (words_at s at) ≤ length before → Going p f s at before before 0 at
  going_start h l = record { within = h; size = refl; room = omega (arith, l); back = refl; values = refl; rest = refl }

  module _ (none : p [] ≡ false) (into : List A) (count end : ℕ) (g : Going p f s at before into count end) where
    pub going_room : p (word_at 0 (words_at s end)) ≡ true → count < length into
    going_room e = let n = (goes_on p none (words_at s end) e).0 in omega (arith, n, g.room, g.size)

    pub going_on : (v : A) (next : ℕ) → p (word_at 0 (words_at s end)) ≡ true → v ≡ f (word_at 0 (words_at s end)) → words_at s next ≡ drop 1 (words_at s end) → next ≤ length s
        → Going p f s at before (set into count v) (count + 1) next
    going_on v next e q t h = let (n, (lead, left)) = goes_on p none (words_at s end) e in let r = going_room e in record {
      within = h;
      size = length-set into count v ∙ g.size;
      room = omega (arith, n, g.room, ap length t);
      back = rw add-one (drop-set-lt (suc count) into count v (omega arith) ∙ one_more);
      values = g.values ∙ ap (λ (l : List (List ℕ)). take count into ++ map f l) lead
          ∙ ap₂ (λ (x : A) (l : List (List ℕ)). take count into ++ (x ∷ map f (leading p l))) (sym q) (sym t)
          ∙ sym (rw add-one (ap (λ (l : List A). l ++ map f (leading p (words_at s next))) (take-suc-set into count v r) ∙ snoc_append (take count into) v (map f (leading p (words_at s next)))));
      rest = g.rest ∙ left ∙ ap (behind p) (sym t);
    }
      where
        one_more : drop (suc count) into ≡ drop (suc count) before
        one_more = let z : count + 1 ≡ suc count = add-one count in
            ap (λ (k : ℕ). drop k into) (sym z) ∙ sym (drop-drop 1 count into) ∙ ap (drop 1) g.back ∙ drop-drop 1 count before ∙ ap (λ (k : ℕ). drop k before) z

    pub going_end : p (word_at 0 (words_at s end)) ≡ false → TakenIn p f s at before into (record { count = count; end = end })
    going_end e = let (lead, left) = stops p none (words_at s end) e in record {
      count-is = count-is lead;
      table_is = sym (take-drop count into) ∙ ap₂ ◌++◌ (sym (all lead)) (g.back ∙ ap (λ (k : ℕ). drop k before) (count-is lead));
      few = omega (arith, g.room);
      within = g.within;
      rest-is = sym (g.rest ∙ left);
    }
      where
        all : leading p (words_at s end) ≡ [] → map f (leading p (words_at s at)) ≡ take count into
        all lead = g.values ∙ ap (λ (l : List (List ℕ)). take count into ++ map f l) lead ∙ append-nil (take count into)

        count-is : leading p (words_at s end) ≡ [] → count ≡ length (leading p (words_at s at))
        count-is lead = sym (length-take-le count into (omega (arith, g.room, g.size))) ∙ ap length (sym (all lead)) ∙ length-map (leading p (words_at s at)) f

-- ---- the word that was just read
module _ {A : Type 0} (s : List ℕ) (end : ℕ) (value : A) (n : Parsed A) (read : IsParsed s value (end_at s end) n) where
  pub words-next : words_at s n.end ≡ drop 1 (words_at s end)
  words-next = ap (words_at s) read.end_is ∙ words-behind s end

  pub further : (p : List ℕ → Bool) → p [] ≡ false → p (word_at 0 (words_at s end)) ≡ true → end < n.end
  further p none is = rw read.end_is (word-further p s end none is)

-- the empty word is no number
pub no_number : is_number [] ≡ false
unfolding is_number
no_number = refl

pub no_signed : is_signed [] ≡ false
unfolding is_signed
no_signed = refl

-- what is laid down of a number
pub cut-value : (most above v n : ℕ) (w : List ℕ) → most < 1000000000000000 → n ≡ at_most (value_of w) → v ≡ cut_to most above n → v ≡ cut_to most above (value_of w)
cut-value most above v n w h e f = f ∙ ap (cut_to most above) e ∙ cut_twice most above (value_of w) h

magnitude-small : (n : ℕ) → cut_magnitude n < 2 ^ 62
magnitude-small n = by_cases (dec_lt max_numerator n)
    (λ l. let e = cut_high max_numerator 100000000001 n l in omega (arith, e))
    (λ l. let e = cut_low max_numerator 100000000001 n (omega arith) in omega (arith, e))

neg_size : (n : ℕ) → nat_abs (neg_ℤ (pos n)) ≡ n
neg_size zero = refl
neg_size (suc n) = refl

numerator-small : (z : ℤ) → nat_abs (cut_numerator z) < 2 ^ 62
numerator-small (pos n) = magnitude-small n
numerator-small (negsuc n) = let h = magnitude-small (suc n) in omega (arith, h, neg_size (cut_magnitude (suc n)))

pub stored : (z : ℤ) (w : List ℕ) → z ≡ cut_numerator (signed_of w) → to_z w64 (of_z w64 z) ≡ cut_numerator (signed_of w)
stored z w e = to_z-of_z (fits_abs z (let h = numerator-small (signed_of w) in let s = ap nat_abs e in omega (arith, h, s))) ∙ e
