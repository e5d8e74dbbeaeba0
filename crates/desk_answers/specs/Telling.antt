-- What a desk answers to a line, and the desk after it (RULES, The desk's lines).
use Rattle.std.specs.Prelude.{◌≡◌, List, [], ◌∷◌, ◌++◌, ℕ}
use Rattle.writing.specs.Text.{Wrote}
use Rattle.lines.specs.Lines.{end, refused_word}
use Rattle.answer_lines.specs.Texts.{by_answer}
use Rattle.desk_theory.specs.Desk as calls
use Rattle.desk_text.specs.Meaning.{Meaning, silent, wrong, call, shows}
use Rattle.desk.specs.declared.Desk.{Desk}
use Rattle.desk.specs.Held.{desk_of, Held}
use Rattle.desk_shows.specs.Shows.{show_text}
use Rattle.desk_answers.specs.declared.Told.{Told}

-- "ok"
abbrev pub ok_line : List ℕ
ok_line = 111 ∷ 107 ∷ end

-- "refused line"
abbrev pub wrong_line : List ℕ
wrong_line = refused_word ++ (32 ∷ 108 ∷ 105 ∷ 110 ∷ 101 ∷ end)

-- the text that a meaning is answered with
abbrev pub text_on : calls.Desk → Meaning → List ℕ
text_on d silent = []
text_on d wrong = wrong_line
text_on d (call c) = by_answer (calls.answer d c) ok_line
text_on d (shows v b) = show_text d v b

-- the desk after it: a call alone changes it
abbrev pub after_on : calls.Desk → Meaning → calls.Desk
after_on d silent = d
after_on d wrong = d
after_on d (call c) = calls.step d c
after_on d (shows v b) = d

-- the answer to a meaning stands at the front of the page, and the desk is the one after it
pub record Responds (d : Desk) (m : Meaning) (before after : List ℕ) (r : Told) : Type 0 where
  pub text : Wrote before after 0 (text_on (desk_of d) m) r.length
  pub desk : desk_of r.desk ≡ after_on (desk_of d) m
  pub held : Held r.desk
