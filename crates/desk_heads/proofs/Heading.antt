-- The kind that the first word makes a line (`kind-..`), and what a line is by its length, its first byte and its first word (`head-..`).
use mathlib.Core.Path.{◌≡◌, refl, sym, ◌∙◌, ap, ap₂}
use mathlib.Core.Bool.{Bool, true, false, cond, true≢false}
use mathlib.Core.List.{List, [], ◌∷◌}
use Prim.Native.Nat.{ℕ, ◌-◌, ◌≤◌, ◌<◌}
use native.Mathlib.Omega.{arith}
use borrow.Author.Tests.{lt-ltb, le-ltb, eq-eqb, ne_eqb}
use lib.ListN.{length, get_or, take, drop}
use Rattle.digits.specs.Digits.{run, same}
use Rattle.desk_text.specs.Words.{is_letter, words}
use Rattle.desk_text.specs.Meaning.{silent, wrong, post_word, propose_word, correct_word, withdraw_word, report_word, pairs_word, no_more, word_at, of_words, max_line, is_comment, meaning_of}
use Rattle.desk_text.specs.declared.View.TheVariants as views
use Rattle.desk_words.specs.Reads.{words_at, start_at, WordRead}
use Rattle.desk_words.specs.declared.Word.{Word}
use Rattle.desk_words.proofs.Reading.{first_word, words-behind}
use Rattle.desk_heads.specs.declared.Kind.{Kind}
use Rattle.desk_heads.specs.declared.Kind.TheVariants as kinds
use lib.Dec.{eqb}
use Rattle.desk_words.proofs.Reading.{none_left}
use Rattle.std.specs.Prelude.{Some, None}
use Rattle.desk_heads.specs.Heads.{KindOf, HeadRead}

-- ---- the first word
module _ (w : List ℕ) where
  pub kind-post : same w post_word ≡ true → KindOf w (Some kinds.Post)
  kind-post e = λ ws. rw e

  module _ (post : same w post_word ≡ false) where
    pub kind-propose : same w propose_word ≡ true → KindOf w (Some kinds.Propose)
    kind-propose e = λ ws. rw (post, e)

    module _ (propose : same w propose_word ≡ false) where
      pub kind-correct : same w correct_word ≡ true → KindOf w (Some kinds.Correct)
      kind-correct e = λ ws. rw (post, propose, e)

      module _ (correct : same w correct_word ≡ false) where
        pub kind-withdraw : same w withdraw_word ≡ true → KindOf w (Some kinds.Withdraw)
        kind-withdraw e = λ ws. rw (post, propose, correct, e)

        module _ (withdraw : same w withdraw_word ≡ false) where
          pub kind-report : same w report_word ≡ true → KindOf w (Some (kinds.Show views.Report))
          kind-report e = λ ws. rw (post, propose, correct, withdraw, e)

          module _ (report : same w report_word ≡ false) where
            pub kind-pairs : same w pairs_word ≡ true → KindOf w (Some (kinds.Show views.Pairs))
            kind-pairs e = λ ws. rw (post, propose, correct, withdraw, report, e)

            pub kind-wrong : same w pairs_word ≡ false → KindOf w None
            kind-wrong e = λ ws. rw (post, propose, correct, withdraw, report, e)

-- ---- the whole line
no_call : false ≡ true → (s : List ℕ) → length s ≤ max_line
no_call e s = absurd (true≢false (sym e))

pub head-long : (s : List ℕ) → max_line < length s → HeadRead s None
unfolding meaning_of
head-long s h = record { means = ap (λ (b : Bool). cond b wrong (cond (is_comment s) silent (of_words (words s)))) (lt-ltb max_line (length s) h); read = tt }

module _ (s : List ℕ) (h : length s ≤ max_line) where
  short : meaning_of s ≡ cond (is_comment s) silent (of_words (words s))
  unfolding meaning_of
  short = ap (λ (b : Bool). cond b wrong (cond (is_comment s) silent (of_words (words s)))) (le-ltb max_line (length s) h)

  pub head_comment : (x : ℕ) → x ≡ get_or s 0 0 → x ≡ 35 → HeadRead s (Some (record { kind = kinds.Silent; end = 0 }))
  head_comment x e f = record { means = short ∙ ap (λ (b : Bool). cond b silent (of_words (words s))) (eq-eqb (get_or s 0 0) 35 (sym e ∙ f)); read = record { within = omega arith; short = λ q. no_call q s } }

  module _ (x : ℕ) (e : x ≡ get_or s 0 0) (f : x ≡ 35 → ⊥) (w : Word) (r : WordRead s 0 w) where
    spoken : meaning_of s ≡ of_words (words_at s 0)
    spoken = short ∙ ap (λ (b : Bool). cond b silent (of_words (words s))) (ne_eqb (get_or s 0 0) 35 (λ q. f (e ∙ q)))

    pub head-blank : w.start ≡ w.end → HeadRead s (Some (record { kind = kinds.Silent; end = w.end }))
    head-blank q = record { means = spoken ∙ go (words_at s 0) refl; read = record { within = r.within; short = λ z. no_call z s } }
      where
        none : no_more (words_at s 0) ≡ true
        none = sym (ap₂ eqb r.start_is r.end_is ∙ none_left s 0) ∙ eq-eqb w.start w.end q

        go : (ws : List (List ℕ)) → words_at s 0 ≡ ws → of_words (words_at s 0) ≡ silent
        go [] z = ap of_words z
        go (v ∷ vs) z = absurd (true≢false (sym none ∙ ap no_more z))

    module _ (q : w.start ≡ w.end → ⊥) where
      none : no_more (words_at s 0) ≡ false
      none = sym (ap₂ eqb r.start_is r.end_is ∙ none_left s 0) ∙ ne_eqb w.start w.end q

      cons : (ws : List (List ℕ)) → no_more ws ≡ false → ws ≡ word_at 0 ws ∷ drop 1 ws
      cons [] y = absurd (true≢false y)
      cons (v ∷ vs) y = refl

      size : w.end - w.start ≡ run is_letter (drop (start_at s 0) s)
      size = let a = r.start_is in let b = r.end_is in omega (arith, a, b)

      first : take (w.end - w.start) (drop w.start s) ≡ word_at 0 (words_at s 0)
      first = ap₂ (λ (n m : ℕ). take n (drop m s)) size r.start_is ∙ first_word s 0

      rest : words_at s w.end ≡ drop 1 (words_at s 0)
      rest = ap (words_at s) r.end_is ∙ words-behind s 0

      parts : words_at s 0 ≡ take (w.end - w.start) (drop w.start s) ∷ words_at s w.end
      parts = cons (words_at s 0) none ∙ ap₂ (λ (v : List ℕ) (vs : List (List ℕ)). v ∷ vs) (sym first) (sym rest)

      pub head-other : KindOf (take (w.end - w.start) (drop w.start s)) None → HeadRead s None
      head-other z = record { means = spoken ∙ ap of_words parts ∙ z (words_at s w.end); read = tt }

      pub head-word : (k : Kind) → KindOf (take (w.end - w.start) (drop w.start s)) (Some k) → HeadRead s (Some (record { kind = k; end = w.end }))
      head-word k z = record { means = spoken ∙ ap of_words parts ∙ z (words_at s w.end); read = record { within = r.within; short = λ _. h } }
