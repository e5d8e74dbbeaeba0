-- The numbers of a line may be cut to their fields before it is answered (`line-told`): no answer and no desk changes by it.
use mathlib.Core.Path.{◌≡◌, refl, ◌∙◌, ap, subst}
use mathlib.Core.Bool.{Bool, true, false, cond, ◌&&◌}
use mathlib.Core.List.{List, [], ◌∷◌, map}
use Prim.Native.Nat.{ℕ, ◌≤◌}
use native.Mathlib.Omega.{arith}
use lib.Dec.{ltb}
use borrow.Author.Tests.{ltb-false}
use lib.IntN.{ℤ}
use lib.ListN.{length, length-map, length-drop, drop}
use Rattle.verdict.specs.Answer.{Answer}
use Rattle.writing.specs.Text.{Wrote}
use Rattle.answer_lines.specs.Texts.{by_answer}
use Rattle.digits.specs.Digits.{same}
use Rattle.desk_theory.specs.Desk as calls
use Rattle.desk_theory.specs.Promises.{PostedWell}
use Rattle.desk_text.specs.Words.{words, is_number, value_of, is_signed, signed_of, leading, behind}
use Rattle.desk_text.specs.Meaning.{Meaning, silent, wrong, call, shows, post_word, propose_word, correct_word, withdraw_word, report_word, pairs_word, slash, no_more, of_form, post_in, parents_in, propose_in, correct_in, bench_in, by_strains, meaning_of, of_words, is_comment, max_line, max_words, word_at}
use Rattle.desk_text.specs.declared.View.{View}
use Rattle.desk_text.specs.declared.View.TheVariants as views
use Rattle.desk_text.specs.Fields.{cut}
use Rattle.desk_text.proofs.Cutting.{Few, cut-answer, cut_step, cut-same}
use Rattle.desk_text.proofs.Splitting.{few_words}
use Rattle.desk_tables.proofs.Laying.{strains-size}
use Rattle.desk_posts.proofs.Lining.{leading-short}
use Rattle.desk.specs.declared.Desk.{Desk}
use Rattle.desk.specs.Held.{desk_of, Held}
use Rattle.desk_lines.specs.declared.Line.{Line}
use Rattle.desk_lines.specs.Lines.{line_meaning, LineIs}
use Rattle.std.specs.Prelude.{Option}
use Rattle.desk_answers.specs.Telling.{ok_line, text_on, after_on, Responds}
use Rattle.desk_shows.specs.Shows.{edges_of, table_text, show_text}
use Rattle.desk_shows.proofs.Showing.{by-answer_cong}
use Rattle.desk_answers.specs.declared.Told.{Told}
use Rattle.desk_answers.proofs.Telling.{well}

-- ---- cutting
abbrev FewIn : Meaning → Type 0
FewIn silent = Unit {0}
FewIn wrong = Unit {0}
FewIn (call c) = Few c
FewIn (shows v b) = Unit {0}

form-few : (b : Bool) (m : Meaning) → FewIn m → FewIn (of_form b m)
form-few true m h = h
form-few false m h = tt

either-few : (b : Bool) (m n : Meaning) → FewIn m → FewIn n → FewIn (cond b m n)
either-few true m n h g = h
either-few false m n h g = g

-- so many distances as a line's words allow
rows_few : (N : ℕ) (ws : List (List ℕ)) → length ws ≤ max_words → length (by_strains N (map value_of (leading is_number (drop 1 ws)))) ≤ max_words
rows_few N ws h = let a = strains-size N (map value_of (leading is_number (drop 1 ws))) in let b = length-map (leading is_number (drop 1 ws)) value_of in
    let c = leading-short is_number (drop 1 ws) in let e = length-drop 1 ws in omega (arith, a, b, c, e, h)

module _ (ws : List (List ℕ)) where
  post-few : length ws ≤ max_words → FewIn (post_in ws)
  post-few h = form-few (is_number (word_at 0 ws)) (parents_in (value_of (word_at 0 ws)) (map value_of (leading is_number (drop 1 ws))) (behind is_number (drop 1 ws)))
      (form-few (same (word_at 0 (behind is_number (drop 1 ws))) slash && no_more (behind is_number (drop 1 (behind is_number (drop 1 ws)))))
      (call (calls.post (value_of (word_at 0 ws)) (by_strains (value_of (word_at 0 ws)) (map value_of (leading is_number (drop 1 ws)))) (map value_of (leading is_number (drop 1 (behind is_number (drop 1 ws)))))))
      (rows_few (value_of (word_at 0 ws)) ws h))

  propose-few : FewIn (propose_in ws)
  propose-few = form-few (is_number (word_at 0 ws) && (is_number (word_at 1 ws) && no_more (behind is_signed (drop 2 ws))))
      (call (calls.propose (value_of (word_at 0 ws)) (value_of (word_at 1 ws)) (map signed_of (leading is_signed (drop 2 ws))))) tt

  correct-few : FewIn (correct_in ws)
  correct-few = form-few (is_number (word_at 0 ws) && (is_number (word_at 1 ws) && (is_number (word_at 2 ws) && no_more (drop 3 ws))))
      (call (calls.correct (record { i = value_of (word_at 0 ws); j = value_of (word_at 1 ws); far = value_of (word_at 2 ws) }))) tt

  withdraw-few : FewIn (bench_in (λ b. call (calls.withdraw b)) ws)
  withdraw-few = form-few (is_number (word_at 0 ws) && no_more (drop 1 ws)) (call (calls.withdraw (value_of (word_at 0 ws)))) tt

  show_few : (v : View) → FewIn (bench_in (shows v) ws)
  show_few v = form-few (is_number (word_at 0 ws) && no_more (drop 1 ws)) (shows v (value_of (word_at 0 ws))) tt

words-few : (ws : List (List ℕ)) → length ws ≤ max_words → FewIn (of_words ws)
words-few [] h = tt
words-few (w ∷ ws) h =
    either-few (same w post_word) (post_in ws) _ (post-few ws (omega (arith, h)))
    (either-few (same w propose_word) (propose_in ws) _ (propose-few ws)
    (either-few (same w correct_word) (correct_in ws) _ (correct-few ws)
    (either-few (same w withdraw_word) (bench_in (λ b. call (calls.withdraw b)) ws) _ (withdraw-few ws)
    (either-few (same w report_word) (bench_in (shows views.Report) ws) _ (show_few ws views.Report)
    (either-few (same w pairs_word) (bench_in (shows views.Pairs) ws) wrong (show_few ws views.Pairs) tt)))))

few_meaning : (s : List ℕ) → FewIn (meaning_of s)
unfolding meaning_of
few_meaning s = go (ltb max_line (length s)) refl
  where
    go : (b : Bool) → ltb max_line (length s) ≡ b → FewIn (cond b wrong (cond (is_comment s) silent (of_words (words s))))
    go true e = tt
    go false e = either-few (is_comment s) silent (of_words (words s)) tt (words-few (words s) (few_words s (ltb-false max_line (length s) e)))

module _ (d : calls.Desk) (w : PostedWell d.posting) where
  text-cut : (m : Meaning) → FewIn m → text_on d (cut m) ≡ text_on d m
  unfolding cut show_text
  text-cut silent f = refl
  text-cut wrong f = refl
  text-cut (call c) f = ap (λ (a : Answer). by_answer a ok_line) (cut-answer d w c f)
  text-cut (shows v b) f = by-answer_cong _ (calls.answer d (calls.report b (edges_of d.posting))) _ _ (cut-answer d w (calls.report b (edges_of d.posting)) tt)
      (λ e. ap (λ (c : calls.Call). table_text v d.posting (d.tables (calls.bench_of c))) (cut-same d w (calls.report b (edges_of d.posting)) tt e))

  after-cut : (m : Meaning) → FewIn m → after_on d (cut m) ≡ after_on d m
  unfolding cut
  after-cut silent f = refl
  after-cut wrong f = refl
  after-cut (call c) f = cut_step d w c f
  after-cut (shows v b) f = refl

pub line-told : (d : Desk) (s ds ps : List ℕ) (ns : List ℤ) (l : Option Line) (before after : List ℕ) (r : Told) → Held d → LineIs (meaning_of s) ds ps ns l
    → Responds d (line_meaning ds ps ns l) before after r → Responds d (meaning_of s) before after r
line-told d s ds ps ns l before after r h i a = let f = few_meaning s in record {
  text = subst (λ (t : List ℕ). Wrote before after 0 t r.length) (ap (text_on (desk_of d)) i.means ∙ text-cut (desk_of d) (well d h) (meaning_of s) f) a.text;
  desk = a.desk ∙ ap (after_on (desk_of d)) i.means ∙ after-cut (desk_of d) (well d h) (meaning_of s) f;
  held = a.held;
}
