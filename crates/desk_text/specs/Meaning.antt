-- What a line means (RULES, The desk's lines): nothing, a call, or nothing that has a form. The numbers are those that are written, however
-- large.
use Rattle.std.specs.Prelude.{Bool, true, false, cond, ◌&&◌, List, [], ◌∷◌, map, ℕ, eqb, ltb, leb, length, get_or, drop}
use Rattle.exact.specs.Table.{table}
use Rattle.matrix.specs.Limits.{max_strains}
use Rattle.matrix.specs.Place.{pair_count, from_rows}
use Rattle.digits.specs.Digits.{same}
use Rattle.desk_theory.specs.Desk.{Call, post, correct, propose, withdraw}
use Rattle.desk_text.specs.declared.View.{View}
use Rattle.desk_text.specs.declared.View.TheVariants.{Report, Pairs}
use Rattle.desk_text.specs.Words.{words, is_number, value_of, is_signed, signed_of, leading, behind}

-- silent: no answer is due. wrong: the line is not of the form. call: that call. shows: what is to be shown of that bench's table
pub data Meaning : Type 0 where
  silent : Meaning
  wrong : Meaning
  call : Call → Meaning
  shows : View → ℕ → Meaning

-- "post", "propose", "correct", "withdraw", "report", "pairs", "/"
abbrev pub post_word : List ℕ
post_word = 112 ∷ 111 ∷ 115 ∷ 116 ∷ []

abbrev pub propose_word : List ℕ
propose_word = 112 ∷ 114 ∷ 111 ∷ 112 ∷ 111 ∷ 115 ∷ 101 ∷ []

abbrev pub correct_word : List ℕ
correct_word = 99 ∷ 111 ∷ 114 ∷ 114 ∷ 101 ∷ 99 ∷ 116 ∷ []

abbrev pub withdraw_word : List ℕ
withdraw_word = 119 ∷ 105 ∷ 116 ∷ 104 ∷ 100 ∷ 114 ∷ 97 ∷ 119 ∷ []

abbrev pub report_word : List ℕ
report_word = 114 ∷ 101 ∷ 112 ∷ 111 ∷ 114 ∷ 116 ∷ []

abbrev pub pairs_word : List ℕ
pairs_word = 112 ∷ 97 ∷ 105 ∷ 114 ∷ 115 ∷ []

abbrev pub slash : List ℕ
slash = 47 ∷ []

-- distances in rows, as people write them, put in the matrix's order; so many as no matrix has are left as they stand, and refused
unfoldable pub by_strains : ℕ → List ℕ → List ℕ
by_strains N rows = cond (leb N max_strains && eqb (length rows) (pair_count N)) (table (length rows) (from_rows N (λ k. get_or rows k 0))) rows

-- no word is left
abbrev pub no_more : List (List ℕ) → Bool
no_more [] = true
no_more (w ∷ ws) = false

-- word k; the empty one, which is no number, where there are fewer
abbrev pub word_at : ℕ → List (List ℕ) → List ℕ
word_at k ws = get_or ws k []

-- what a line means that is of the form, and wrong where it is not
abbrev pub of_form : Bool → Meaning → Meaning
of_form ok m = cond ok m wrong

-- behind "post N distances": "/ parents"
abbrev pub parents_in : ℕ → List ℕ → List (List ℕ) → Meaning
parents_in N rows ws = of_form (same (word_at 0 ws) slash && no_more (behind is_number (drop 1 ws))) (call (post N (by_strains N rows) (map value_of (leading is_number (drop 1 ws)))))

-- behind "post": "N distances / parents"
abbrev pub post_in : List (List ℕ) → Meaning
post_in ws = of_form (is_number (word_at 0 ws)) (parents_in (value_of (word_at 0 ws)) (map value_of (leading is_number (drop 1 ws))) (behind is_number (drop 1 ws)))

-- behind "propose": "BENCH D numerators"
abbrev pub propose_in : List (List ℕ) → Meaning
propose_in ws = of_form (is_number (word_at 0 ws) && (is_number (word_at 1 ws) && no_more (behind is_signed (drop 2 ws))))
    (call (propose (value_of (word_at 0 ws)) (value_of (word_at 1 ws)) (map signed_of (leading is_signed (drop 2 ws)))))

-- behind "correct": "I J DISTANCE"
abbrev pub correct_in : List (List ℕ) → Meaning
correct_in ws = of_form (is_number (word_at 0 ws) && (is_number (word_at 1 ws) && (is_number (word_at 2 ws) && no_more (drop 3 ws))))
    (call (correct (record { i = value_of (word_at 0 ws); j = value_of (word_at 1 ws); far = value_of (word_at 2 ws) })))

-- behind "withdraw", "report" and "pairs": "BENCH"
abbrev pub bench_in : (ℕ → Meaning) → List (List ℕ) → Meaning
bench_in m ws = of_form (is_number (word_at 0 ws) && no_more (drop 1 ws)) (m (value_of (word_at 0 ws)))

abbrev pub of_words : List (List ℕ) → Meaning
of_words [] = silent
of_words (w ∷ ws) =
    cond (same w post_word) (post_in ws)
    (cond (same w propose_word) (propose_in ws)
    (cond (same w correct_word) (correct_in ws)
    (cond (same w withdraw_word) (bench_in (λ b. call (withdraw b)) ws)
    (cond (same w report_word) (bench_in (shows Report) ws)
    (cond (same w pairs_word) (bench_in (shows Pairs) ws) wrong)))))

-- the most bytes that a line may have, and the most words that it can then have
abbrev pub max_line : ℕ
max_line = 16384

abbrev pub max_words : ℕ
max_words = 8192

-- a line whose first byte is # is for people
abbrev pub is_comment : List ℕ → Bool
is_comment l = eqb (get_or l 0 0) 35

unfoldable pub meaning_of : List ℕ → Meaning
meaning_of l = cond (ltb max_line (length l)) wrong (cond (is_comment l) silent (of_words (words l)))
