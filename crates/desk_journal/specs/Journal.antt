-- The desk's journal (RULES, The desk's journal): of the lines that were asked, those that got `ok`, as they came; and what holds of the desk
-- that they are replayed on.
use Rattle.std.specs.Prelude.{◌≡◌, Bool, true, false, cond, List, [], ◌∷◌, ◌++◌, map, ℕ, length}
use Rattle.verdict.specs.Answer.{pass}
use Rattle.digits.specs.Digits.{same}
use Rattle.fit_theory.specs.Tests.{posted_tests}
use Rattle.desk_theory.specs.Desk.{Desk, Call, post, empty, run}
use Rattle.desk_theory.specs.Promises.{Sound}
use Rattle.desk_text.specs.declared.View.{View}
use Rattle.desk_text.specs.Meaning.{Meaning, silent, wrong, call, shows, meaning_of}
use Rattle.desk_answers.specs.Telling.{ok_line, text_on, after_on}
use Rattle.desk_feed.specs.Feed.{feed_at, end_of}

-- the bytes that a line is answered with, and the desk after it
abbrev pub answer_to : Desk → List ℕ → List ℕ
answer_to d l = text_on d (meaning_of l)

abbrev pub after_line : Desk → List ℕ → Desk
after_line d l = after_on d (meaning_of l)

-- the desk after lines, the first in the list first
abbrev pub run_lines : Desk → List (List ℕ) → Desk
run_lines d [] = d
run_lines d (l ∷ ls) = run_lines (after_line d l) ls

-- what each line is answered with
abbrev pub answers_to : Desk → List (List ℕ) → List (List ℕ)
answers_to d [] = []
answers_to d (l ∷ ls) = answer_to d l ∷ answers_to (after_line d l) ls

-- whether the answer is the bytes of `ok`
abbrev pub is_ok : Desk → List ℕ → Bool
is_ok d l = same (answer_to d l) ok_line

-- the journal: the lines that got `ok`, in order
abbrev pub kept : Desk → List (List ℕ) → List (List ℕ)
kept d [] = []
kept d (l ∷ ls) = cond (is_ok d l) (l ∷ kept (after_line d l) ls) (kept (after_line d l) ls)

-- the calls that lines mean; what is silent, wrong or only shows something is none
abbrev pub with_call : Meaning → List Call → List Call
with_call silent cs = cs
with_call wrong cs = cs
with_call (call c) cs = c ∷ cs
with_call (shows v b) cs = cs

abbrev pub calls_in : List (List ℕ) → List Call
calls_in [] = []
calls_in (l ∷ ls) = with_call (meaning_of l) (calls_in ls)

pub record JournalHolds : Type 0 where
  -- a line that gets `ok`, written with LF behind it, is read again as the line that it was: no LF comes before that one, and no CR right before it
  pub read_again : (d : Desk) (l rest : List ℕ) → is_ok d l ≡ true → (feed_at (l ++ (10 ∷ rest)) 0 ≡ length l) × (end_of (l ++ (10 ∷ rest)) 0 (length l) ≡ length l)
  -- what only shows something of a table, its report or its pairs, is in no journal
  pub shown-left-out : (d : Desk) (l : List ℕ) (v : View) (b : ℕ) → meaning_of l ≡ shows v b → is_ok d l ≡ false
  -- replaying what was written gives the desk that answered
  pub replayed : (ls : List (List ℕ)) → run_lines empty (kept empty ls) ≡ run_lines empty ls
  -- and every line of it is answered `ok` again
  pub answered-again : (ls : List (List ℕ)) → answers_to empty (kept empty ls) ≡ map (λ _. ok_line) (kept empty ls)
  -- what came before the line of a posting that passes does not matter
  pub since_lines : (before after : List (List ℕ)) (l : List ℕ) (N : ℕ) (ds ps : List ℕ) → meaning_of l ≡ call (post N ds ps) → posted_tests N ds ps ≡ pass
      → run_lines empty (before ++ (l ∷ after)) ≡ run_lines empty (l ∷ after)
  -- a start that goes on from the journal writes what one start would have written, had it been asked everything
  pub next_start : (before after : List (List ℕ)) → kept empty (before ++ after) ≡ kept empty before ++ kept (run_lines empty (kept empty before)) after
  -- lines lead where the calls lead that they mean, so that a table which stands fits what is posted
  pub by_calls : (ls : List (List ℕ)) → run_lines empty ls ≡ run empty (calls_in ls)
  pub still-right : (ls : List (List ℕ)) → Sound (run_lines empty (kept empty ls))
