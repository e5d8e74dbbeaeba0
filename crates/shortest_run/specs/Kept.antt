-- Which state of a run a value is: it keeps that state and nothing else, with zeros behind the winner's sheet.
use Rattle.std.specs.Prelude.{◌≡◌, List, ℕ, Option, Some, None, IfOk, length, get_or}
use Rattle.exact.specs.Table.{padded}
use Rattle.verdict.specs.Answer.{pass, answer_of}
use Rattle.verdict.specs.declared.Rule.TheVariants.{Plain}
use Rattle.writing.specs.Text.{Wrote}
use Rattle.records.specs.Form.{max_sheet}
use Rattle.reading.specs.Tests.{sheet_tests}
use Rattle.shortest_theory.specs.Run.{Winner, none, won, State, answer, number_of, step, line_at}
use Rattle.shortest_run.specs.declared.Best.{Best}
use Rattle.shortest_run.specs.declared.Run.{Run}
use Rattle.shortest_run.specs.declared.Stepped.{Stepped}
use Rattle.shortest_run.specs.declared.Answered.{Answered}

-- a sheet's bytes, then zeros
abbrev pub held_bytes : List ℕ → List ℕ
held_bytes s = padded 0 max_sheet (length s) (λ k. get_or s k 0)

-- the sheet s with the number n
pub record Won (n : ℕ) (s : List ℕ) (r : Best) : Type 0 where
  pub number : r.number ≡ n
  pub long : r.length ≡ length s
  pub bytes : r.bytes ≡ held_bytes s

-- it is the winner, and accepted
pub record IsWinner (k : ℕ) (s : List ℕ) (r : Best) : Type 0 where
  pub is : Won k s r
  pub accepted : sheet_tests Plain s ≡ pass

abbrev pub KeepsWinner : Winner → Option Best → Type 0
KeepsWinner none None = Unit {0}
KeepsWinner none (Some r) = ⊥
KeepsWinner (won k s) None = ⊥
KeepsWinner (won k s) (Some r) = IsWinner k s r

pub record Keeps (w : State) (r : Run) : Type 0 where
  pub count : r.count ≡ w.count
  pub winner : KeepsWinner w.winner r.best

-- it keeps some state
pub record Held (r : Run) : Type 0 where
  pub state : State
  pub keeps : Keeps state r

-- the sheet t in the state w: its answer, with the winner's number where it is accepted, and the state behind it
pub record StepsFrom (w : State) (t : List ℕ) (r : Stepped) : Type 0 where
  pub answer : answer_of r.best ≡ answer w.winner t
  pub number : IfOk r.best (λ n. n ≡ number_of (step w t).winner)
  pub run : Keeps (step w t) r.run

-- whatever state the run a keeps
abbrev pub Steps : Run → List ℕ → Stepped → Type 0
Steps a t r = (w : State) → Keeps w a → StepsFrom w t r

-- the same with the sheet's line at the front of a text
pub record TurnsFrom (w : State) (t before after : List ℕ) (r : Answered) : Type 0 where
  pub run : Keeps (step w t) r.run
  pub line : Wrote before after 0 (line_at w t) r.end

abbrev pub Turned : Run → List ℕ → List ℕ → List ℕ → Answered → Type 0
Turned a t before after r = (w : State) → Keeps w a → TurnsFrom w t before after r
