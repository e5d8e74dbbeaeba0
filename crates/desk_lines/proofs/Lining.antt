-- The meaning that the words of a line give, or that it has none: of a proposal (`propose-some`), of a correction (`correct-some`), of a bench
-- alone (`bench-some`).
use mathlib.Core.Path.{◌≡◌, refl, sym, ◌∙◌, ap}
use mathlib.Core.Bool.{Bool, true, false, ◌&&◌}
use mathlib.Core.List.{List, map, map-map}
use Prim.Native.Nat.{ℕ, ◌≤◌, ◌<◌}
use native.Mathlib.Decide.{dec_lt}
use native.Mathlib.Omega.{arith}
use lib.IntN.{ℤ}
use lib.ListN.{length, take, drop}
use Rattle.exact.proofs.Decide.{by_cases}
use Rattle.desk_theory.specs.Desk as calls
use Rattle.desk_text.specs.Words.{is_number, value_of, is_signed, signed_of, leading, behind}
use Rattle.desk_text.specs.declared.View.{View}
use Rattle.desk_text.specs.Meaning.{Meaning, call, shows, no_more, word_at, of_form, propose_in, correct_in, bench_in}
use Rattle.desk_text.specs.Fields.{word, cut_word, cut_distance, cut_numerator, cut}
use Rattle.desk_text.proofs.Cutting.{cut_low, cut_high}
use Rattle.desk_words.specs.Reads.{words_at}
use Rattle.desk_words.proofs.Reading.{NumberFound}
use Rattle.desk_words.specs.declared.Parsed.{Parsed}
use Rattle.desk_posts.proofs.Lining.{field_found, field_value, field_next}
use Rattle.desk_lines.specs.Lines.{BenchRead, as_meaning, Within, LineIs}
use Rattle.std.specs.Prelude.{Some, None}
use Rattle.desk_lines.specs.declared.Line.{Line}
use Rattle.desk_lines.specs.declared.Line.TheVariants.{Correcting, Proposing, Withdrawing, Showing}

-- ---- of the form, or not
pub form-wrong : (b : Bool) (m : Meaning) (ds ps : List ℕ) (ns : List ℤ) → b ≡ false → LineIs (of_form b m) ds ps ns None
unfolding cut
form-wrong b m ds ps ns e = record { means = sym (ap (λ (q : Bool). cut (of_form q m)) e); within = tt }

pub form-right : (b : Bool) (m : Meaning) (ds ps : List ℕ) (ns : List ℤ) (r : Line) → b ≡ true → as_meaning ds ps ns r ≡ cut m → Within ds ps ns r → LineIs (of_form b m) ds ps ns (Some r)
form-right b m ds ps ns r e f w = record { means = f ∙ sym (ap (λ (q : Bool). cut (of_form q m)) e); within = w }

-- ---- the first words of a line as numbers, one behind the other
module _ (s : List ℕ) (at : ℕ) where
  -- all words
  abbrev pub all : List (List ℕ)
  all = words_at s at

  pub no-1 : NumberFound s at None → is_number (word_at 0 all) ≡ false
  no-1 h = field_found s all 0 at refl false h.found-is

  module _ (n : Parsed ℕ) (h : NumberFound s at (Some n)) where
    pub is-1 : is_number (word_at 0 all) ≡ true
    is-1 = field_found s all 0 at refl true h.found-is

    pub word-1 : cut_word n.value ≡ cut_word (value_of (word_at 0 all))
    word-1 = field_value s all 0 at refl n h.read word word (omega arith)

    pub next-1 : words_at s n.end ≡ drop 1 all
    next-1 = field_next s all 0 at refl n h.read

    pub no-2 : NumberFound s n.end None → is_number (word_at 1 all) ≡ false
    no-2 g = field_found s all 1 n.end next-1 false g.found-is

    module _ (m : Parsed ℕ) (g : NumberFound s n.end (Some m)) where
      pub is-2 : is_number (word_at 1 all) ≡ true
      is-2 = field_found s all 1 n.end next-1 true g.found-is

      pub word-2 : cut_word m.value ≡ cut_word (value_of (word_at 1 all))
      word-2 = field_value s all 1 n.end next-1 m g.read word word (omega arith)

      pub next-2 : words_at s m.end ≡ drop 2 all
      next-2 = field_next s all 1 n.end next-1 m g.read

      pub no-3 : NumberFound s m.end None → is_number (word_at 2 all) ≡ false
      no-3 f = field_found s all 2 m.end next-2 false f.found-is

      module _ (l : Parsed ℕ) (f : NumberFound s m.end (Some l)) where
        pub is-3 : is_number (word_at 2 all) ≡ true
        is-3 = field_found s all 2 m.end next-2 true f.found-is

        pub distance-3 : cut_distance l.value ≡ cut_distance (value_of (word_at 2 all))
        distance-3 = field_value s all 2 m.end next-2 l f.read 65535 65534 (omega arith)

        pub next-3 : words_at s l.end ≡ drop 3 all
        next-3 = field_next s all 2 m.end next-2 l f.read

-- ---- the other calls, by their words
module _ (ws : List (List ℕ)) (ds ps : List ℕ) (ns : List ℤ) where
  pub propose-no-bench : is_number (word_at 0 ws) ≡ false → LineIs (propose_in ws) ds ps ns None
  propose-no-bench e = form-wrong (is_number (word_at 0 ws) && (is_number (word_at 1 ws) && no_more (behind is_signed (drop 2 ws)))) _ ds ps ns (rw e)

  pub propose-no-d : is_number (word_at 0 ws) ≡ true → is_number (word_at 1 ws) ≡ false → LineIs (propose_in ws) ds ps ns None
  propose-no-d e f = form-wrong (is_number (word_at 0 ws) && (is_number (word_at 1 ws) && no_more (behind is_signed (drop 2 ws)))) _ ds ps ns (rw (e, f))

  pub propose-more : is_number (word_at 0 ws) ≡ true → is_number (word_at 1 ws) ≡ true → no_more (behind is_signed (drop 2 ws)) ≡ false → LineIs (propose_in ws) ds ps ns None
  propose-more e f g = form-wrong (is_number (word_at 0 ws) && (is_number (word_at 1 ws) && no_more (behind is_signed (drop 2 ws)))) _ ds ps ns (rw (e, f, g))

  pub propose-some : (b d count : ℕ) → is_number (word_at 0 ws) ≡ true → is_number (word_at 1 ws) ≡ true → no_more (behind is_signed (drop 2 ws)) ≡ true
      → b ≡ cut_word (value_of (word_at 0 ws)) → d ≡ cut_word (value_of (word_at 1 ws)) → take count ns ≡ map (λ w. cut_numerator (signed_of w)) (leading is_signed (drop 2 ws)) → count ≤ length ns
      → LineIs (propose_in ws) ds ps ns (Some (Proposing (record { bench = b; d = d; count = count })))
  unfolding cut
  propose-some b d count e f g p q r few = form-right (is_number (word_at 0 ws) && (is_number (word_at 1 ws) && no_more (behind is_signed (drop 2 ws)))) _ ds ps ns _ (rw (e, f, g))
      (ap call (parts p q (r ∙ sym (map-map cut_numerator signed_of (leading is_signed (drop 2 ws)))))) few
    where
      parts : {b b' d d' : ℕ} {n n' : List ℤ} → b ≡ b' → d ≡ d' → n ≡ n' → calls.propose b d n ≡ calls.propose b' d' n'
      parts x y z = rw (x, y, z)

  -- "I J DISTANCE": the words that are numbers, and whether nothing is left
  abbrev three : Bool
  three = is_number (word_at 0 ws) && (is_number (word_at 1 ws) && (is_number (word_at 2 ws) && no_more (drop 3 ws)))

  pub correct-no-i : is_number (word_at 0 ws) ≡ false → LineIs (correct_in ws) ds ps ns None
  correct-no-i e = form-wrong three _ ds ps ns (rw e)

  pub correct-no-j : is_number (word_at 0 ws) ≡ true → is_number (word_at 1 ws) ≡ false → LineIs (correct_in ws) ds ps ns None
  correct-no-j e f = form-wrong three _ ds ps ns (rw (e, f))

  pub correct-no-far : is_number (word_at 0 ws) ≡ true → is_number (word_at 1 ws) ≡ true → is_number (word_at 2 ws) ≡ false → LineIs (correct_in ws) ds ps ns None
  correct-no-far e f g = form-wrong three _ ds ps ns (rw (e, f, g))

  pub correct-more : is_number (word_at 0 ws) ≡ true → is_number (word_at 1 ws) ≡ true → is_number (word_at 2 ws) ≡ true → no_more (drop 3 ws) ≡ false → LineIs (correct_in ws) ds ps ns None
  correct-more e f g h = form-wrong three _ ds ps ns (rw (e, f, g, h))

  pub correct-some : (i j x : ℕ) → is_number (word_at 0 ws) ≡ true → is_number (word_at 1 ws) ≡ true → is_number (word_at 2 ws) ≡ true → no_more (drop 3 ws) ≡ true
      → i ≡ cut_word (value_of (word_at 0 ws)) → j ≡ cut_word (value_of (word_at 1 ws)) → x ≡ cut_distance (value_of (word_at 2 ws))
      → LineIs (correct_in ws) ds ps ns (Some (Correcting (record { i = i; j = j; far = x })))
  unfolding cut
  correct-some i j x e f g h p q r = form-right three _ ds ps ns _ (rw (e, f, g, h)) (ap call (parts p q r)) tt
    where
      parts : {i i' j j' x x' : ℕ} → i ≡ i' → j ≡ j' → x ≡ x' → calls.correct (record { i = i; j = j; far = x }) ≡ calls.correct (record { i = i'; j = j'; far = x' })
      parts u v w = rw (u, v, w)

  pub bench-none : is_number (word_at 0 ws) ≡ false → BenchRead ws None
  bench-none e = record { found-is = rw e; read = tt }

  pub bench-more : is_number (word_at 0 ws) ≡ true → no_more (drop 1 ws) ≡ false → BenchRead ws None
  bench-more e f = record { found-is = rw (e, f); read = tt }

  pub bench-some : (b : ℕ) → is_number (word_at 0 ws) ≡ true → no_more (drop 1 ws) ≡ true → b ≡ cut_word (value_of (word_at 0 ws)) → BenchRead ws (Some b)
  bench-some b e f g = record { found-is = rw (e, f); read = g }

pub distance-fits : (v n : ℕ) → v ≡ cut_distance n → v < 65536
distance-fits v n e = by_cases (dec_lt 65535 n) (λ l. let q = cut_high 65535 65534 n l in omega (arith, e, q)) (λ l. let q = cut_low 65535 65534 n (omega arith) in omega (arith, e, q))

-- ---- a bench alone
module _ (ws : List (List ℕ)) (ds ps : List ℕ) (ns : List ℤ) where
  pub bench-wrong : (m : ℕ → Meaning) → BenchRead ws None → LineIs (bench_in m ws) ds ps ns None
  bench-wrong m h = form-wrong (is_number (word_at 0 ws) && no_more (drop 1 ws)) _ ds ps ns (sym h.found-is)

  module _ (b : ℕ) (h : BenchRead ws (Some b)) where
    pub withdraw-right : LineIs (bench_in (λ x. call (calls.withdraw x)) ws) ds ps ns (Some (Withdrawing b))
    unfolding cut
    withdraw-right = form-right (is_number (word_at 0 ws) && no_more (drop 1 ws)) _ ds ps ns _ (sym h.found-is) (ap (λ (x : ℕ). call (calls.withdraw x)) h.read) tt

    pub show_right : (v : View) → LineIs (bench_in (shows v) ws) ds ps ns (Some (Showing (record { view = v; bench = b })))
    unfolding cut
    show_right v = form-right (is_number (word_at 0 ws) && no_more (drop 1 ws)) _ ds ps ns _ (sym h.found-is) (ap (shows v) h.read) tt
