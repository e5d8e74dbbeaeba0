-- What is read of a line: the meaning of the definitions, with its numbers cut to their fields and its tables at the front of lent ones.
use Rattle.std.specs.Prelude.{◌≡◌, ◌&&◌, List, ℕ, ◌≤◌, ℤ, length, take, drop, Option, Some, None, is_some, IfSome}
use Rattle.desk_theory.specs.Desk as calls
use Rattle.desk_text.specs.Words.{is_number, value_of}
use Rattle.desk_text.specs.Meaning.{Meaning, silent, wrong, call, shows, no_more, word_at}
use Rattle.desk_text.specs.Fields.{cut_word, cut}
use Rattle.desk_posts.specs.Posts.{as_posting, Few}
use Rattle.desk_lines.specs.declared.Line.{Line}
use Rattle.desk_lines.specs.declared.Line.TheVariants.{Silent, Posting, Correcting, Proposing, Withdrawing, Showing}

-- "BENCH" alone
pub record BenchRead (ws : List (List ℕ)) (r : Option ℕ) : Type 0 where
  pub found-is : is_some r ≡ (is_number (word_at 0 ws) && no_more (drop 1 ws))
  pub read : IfSome r (λ b. b ≡ cut_word (value_of (word_at 0 ws)))

-- what a line came to, as a meaning, by the tables beside it
abbrev pub as_meaning : List ℕ → List ℕ → List ℤ → Line → Meaning
as_meaning ds ps ns Silent = silent
as_meaning ds ps ns (Posting p) = as_posting ds ps p
as_meaning ds ps ns (Correcting c) = call (calls.correct (record { i = c.i; j = c.j; far = c.far }))
as_meaning ds ps ns (Proposing p) = call (calls.propose p.bench p.d (take p.count ns))
as_meaning ds ps ns (Withdrawing b) = call (calls.withdraw b)
as_meaning ds ps ns (Showing s) = shows s.view s.bench

-- no more entries are named than the tables have
abbrev pub Within : List ℕ → List ℕ → List ℤ → Line → Type 0
Within ds ps ns Silent = Unit {0}
Within ds ps ns (Posting p) = Few ds ps p
Within ds ps ns (Correcting c) = Unit {0}
Within ds ps ns (Proposing p) = p.count ≤ length ns
Within ds ps ns (Withdrawing b) = Unit {0}
Within ds ps ns (Showing s) = Unit {0}

-- what has no form is wrong
abbrev pub line_meaning : List ℕ → List ℕ → List ℤ → Option Line → Meaning
line_meaning ds ps ns None = wrong
line_meaning ds ps ns (Some l) = as_meaning ds ps ns l

pub record LineIs (m : Meaning) (ds ps : List ℕ) (ns : List ℤ) (r : Option Line) : Type 0 where
  pub means : line_meaning ds ps ns r ≡ cut m
  pub within : IfSome r (λ l. Within ds ps ns l)
