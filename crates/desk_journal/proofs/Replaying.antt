-- A line that is not answered `ok` leaves the desk as it was (`idle`), so leaving it out changes nothing; the rest is induction over the list.
use mathlib.Core.Path.{◌≡◌, refl, sym, ◌∙◌, ap, ap₂}
use mathlib.Core.Bool.{Bool, true, false, cond, true≢false}
use mathlib.Core.List.{List, [], ◌∷◌, ◌++◌, map}
use Prim.Native.Nat.{ℕ}
use Rattle.verdict.specs.Answer.{Answer, pass, fault}
use Rattle.digits.specs.Digits.{same}
use Rattle.digits.proofs.Comparing.{same_self, same_list_lem}
use Rattle.fit_theory.specs.Tests.{posted_tests}
use Rattle.answer_lines.specs.Texts.{by_answer}
use Rattle.lines.specs.Lines.{fit_text_by}
use Rattle.pair_lines.specs.Lines.{pairs_text}
use Rattle.desk_theory.specs.Desk.{Posting, nothing, matrix_tree, Table, none, lengths, Desk, Call, post, report, empty, answer, step, run}
use Rattle.desk_theory.specs.Promises.{Sound}
use Rattle.desk_theory.proofs.Runs.{refused-same, benches}
use Rattle.desk_text.specs.declared.View.{View}
use Rattle.desk_text.specs.declared.View.TheVariants as views
use Rattle.desk_text.specs.Meaning.{Meaning, silent, wrong, call, shows, meaning_of}
use Rattle.desk_answers.specs.Telling.{ok_line, text_on, after_on}
use Rattle.desk_shows.specs.Shows.{edges_of, table_text, show_text}
use Rattle.desk_journal.proofs.Ends.{read_again}
use Rattle.desk_journal.specs.Journal.{answer_to, after_line, run_lines, answers_to, is_ok, kept, with_call, calls_in, JournalHolds}

-- a call that passes is answered `ok`, and one that does not changes nothing
idle-call : (d : Desk) (c : Call) (a : Answer) → answer d c ≡ a → same (by_answer a ok_line) ok_line ≡ false → step d c ≡ d
idle-call d c pass e h = absurd (true≢false (sym (same_self ok_line) ∙ h))
idle-call d c (fault k p) e h = refused-same d c k p e

idle : (d : Desk) (m : Meaning) → same (text_on d m) ok_line ≡ false → after_on d m ≡ d
idle d silent h = refl
idle d wrong h = refl
idle d (call c) h = idle-call d c (answer d c) refl h
idle d (shows v b) h = refl

-- ---- what only shows something: a print begins with f, a refusal with r
print_no-ok : (v : View) (p : Posting) (t : Table) → same (table_text v p t) ok_line ≡ false
unfolding same fit_text_by pairs_text
print_no-ok v nothing t = refl
print_no-ok v (matrix_tree N ds ps) none = refl
print_no-ok views.Report (matrix_tree N ds ps) (lengths D ns) = refl
print_no-ok views.Pairs (matrix_tree N ds ps) (lengths D ns) = refl

answer-no-ok : (a : Answer) (text : List ℕ) → same text ok_line ≡ false → same (by_answer a text) ok_line ≡ false
unfolding same
answer-no-ok pass text h = h
answer-no-ok (fault k p) text h = refl

shown-no-ok : (d : Desk) (v : View) (b : ℕ) → same (show_text d v b) ok_line ≡ false
unfolding show_text
shown-no-ok d v b = answer-no-ok (answer d (report b (edges_of d.posting))) (table_text v d.posting (d.tables b)) (print_no-ok v d.posting (d.tables b))

pub shown-left-out : (d : Desk) (l : List ℕ) (v : View) (b : ℕ) → meaning_of l ≡ shows v b → is_ok d l ≡ false
shown-left-out d l v b e = ap (λ (m : Meaning). same (text_on d m) ok_line) e ∙ shown-no-ok d v b

-- ---- replaying
pub replayed : (ls : List (List ℕ)) (d : Desk) → run_lines d (kept d ls) ≡ run_lines d ls
replayed [] d = refl
replayed (l ∷ ls) d = go (is_ok d l) refl (replayed ls (after_line d l))
  where
    go : (q : Bool) → is_ok d l ≡ q → run_lines (after_line d l) (kept (after_line d l) ls) ≡ run_lines (after_line d l) ls
        → run_lines d (cond q (l ∷ kept (after_line d l) ls) (kept (after_line d l) ls)) ≡ run_lines (after_line d l) ls
    go true h ih = ih
    go false h ih = ap (λ (x : Desk). run_lines x (kept (after_line d l) ls)) (sym (idle d (meaning_of l) h)) ∙ ih

pub answered-again : (ls : List (List ℕ)) (d : Desk) → answers_to d (kept d ls) ≡ map (λ _. ok_line) (kept d ls)
answered-again [] d = refl
answered-again (l ∷ ls) d = go (is_ok d l) refl (answered-again ls (after_line d l))
  where
    go : (q : Bool) → is_ok d l ≡ q → answers_to (after_line d l) (kept (after_line d l) ls) ≡ map (λ _. ok_line) (kept (after_line d l) ls)
        → answers_to d (cond q (l ∷ kept (after_line d l) ls) (kept (after_line d l) ls)) ≡ map (λ _. ok_line) (cond q (l ∷ kept (after_line d l) ls) (kept (after_line d l) ls))
    go true h ih = ap₂ (λ (x : List ℕ) (xs : List (List ℕ)). x ∷ xs) (same_list_lem (answer_to d l) ok_line h) ih
    go false h ih = ap (λ (x : Desk). answers_to x (kept (after_line d l) ls)) (sym (idle d (meaning_of l) h)) ∙ ih

-- ---- two starts
kept_on : (before after : List (List ℕ)) (d : Desk) → kept d (before ++ after) ≡ kept d before ++ kept (run_lines d before) after
kept_on [] after d = refl
kept_on (l ∷ ls) after d = go (is_ok d l) (kept_on ls after (after_line d l))
  where
    go : (q : Bool) → kept (after_line d l) (ls ++ after) ≡ kept (after_line d l) ls ++ kept (run_lines (after_line d l) ls) after
        → cond q (l ∷ kept (after_line d l) (ls ++ after)) (kept (after_line d l) (ls ++ after))
        ≡ cond q (l ∷ kept (after_line d l) ls) (kept (after_line d l) ls) ++ kept (run_lines (after_line d l) ls) after
    go true ih = ap (λ (x : List (List ℕ)). l ∷ x) ih
    go false ih = ih

pub next_start : (before after : List (List ℕ)) (d : Desk) → kept d (before ++ after) ≡ kept d before ++ kept (run_lines d (kept d before)) after
next_start before after d = kept_on before after d ∙ ap (λ (x : Desk). kept d before ++ kept x after) (sym (replayed before d))

-- ---- lines and calls
with_call_lem : (m : Meaning) (cs : List Call) (d : Desk) → run d (with_call m cs) ≡ run (after_on d m) cs
with_call_lem silent cs d = refl
with_call_lem wrong cs d = refl
with_call_lem (call c) cs d = refl
with_call_lem (shows v b) cs d = refl

pub by_calls : (ls : List (List ℕ)) (d : Desk) → run_lines d ls ≡ run d (calls_in ls)
by_calls [] d = refl
by_calls (l ∷ ls) d = by_calls ls (after_line d l) ∙ sym (with_call_lem (meaning_of l) (calls_in ls) d)

with_on : (m : Meaning) (cs es : List Call) → with_call m (cs ++ es) ≡ with_call m cs ++ es
with_on silent cs es = refl
with_on wrong cs es = refl
with_on (call c) cs es = refl
with_on (shows v b) cs es = refl

calls_on : (before after : List (List ℕ)) → calls_in (before ++ after) ≡ calls_in before ++ calls_in after
calls_on [] after = refl
calls_on (l ∷ ls) after = ap (with_call (meaning_of l)) (calls_on ls after) ∙ with_on (meaning_of l) (calls_in ls) (calls_in after)

pub since_lines : (before after : List (List ℕ)) (l : List ℕ) (N : ℕ) (ds ps : List ℕ) → meaning_of l ≡ call (post N ds ps) → posted_tests N ds ps ≡ pass
    → run_lines empty (before ++ (l ∷ after)) ≡ run_lines empty (l ∷ after)
since_lines before after l N ds ps e t = by_calls (before ++ (l ∷ after)) empty ∙ ap (run empty) (calls_on before (l ∷ after) ∙ ap (λ (x : List Call). calls_in before ++ x) here)
    ∙ benches.since (calls_in before) (calls_in after) N ds ps t ∙ sym (by_calls (l ∷ after) empty ∙ ap (run empty) here)
  where
    here : calls_in (l ∷ after) ≡ post N ds ps ∷ calls_in after
    here = ap (λ (m : Meaning). with_call m (calls_in after)) e

pub still-right : (ls : List (List ℕ)) → Sound (run_lines empty (kept empty ls))
still-right ls = rw (by_calls (kept empty ls) empty) (benches.stands (calls_in (kept empty ls)))

pub journal_holds : JournalHolds
journal_holds = record {
  read_again = read_again;
  shown-left-out = shown-left-out;
  replayed = λ ls. replayed ls empty;
  answered-again = λ ls. answered-again ls empty;
  since_lines = since_lines;
  next_start = λ before after. next_start before after empty;
  by_calls = λ ls. by_calls ls empty;
  still-right = still-right;
}
