-- What holds of every run: whose tree wins, in the words of RULES, Which of two trees is shorter.
use Rattle.std.specs.Prelude.{◌≡◌, true, List, [], ℕ, ◌<◌, length, get_or}
use Rattle.exact.specs.Order.{◌≤ᶻ◌, ◌<ᶻ◌}
use Rattle.verdict.specs.Answer.{pass}
use Rattle.verdict.specs.declared.Rule.TheVariants.{Plain}
use Rattle.reading.specs.Tests.{sheet_tests}
use Rattle.comparison.specs.Matrices.{same_matrix}
use Rattle.planner.specs.Compared.{length_beside}
use Rattle.shortest_theory.specs.Run.{Winner, none, won, State}

-- s has the number i among the sheets of a run, counted from 0
pub record Numbered (ts : List (List ℕ)) (i : ℕ) (s : List ℕ) : Type 0 where
  pub inside : i < length ts
  pub sheet : get_or ts i [] ≡ s

-- a sheet is accepted by itself
abbrev pub Accepted : List ℕ → Type 0
Accepted s = sheet_tests Plain s ≡ pass

-- the tree length of s is at most, and is less than, that of t
abbrev pub AtMost : List ℕ → List ℕ → Type 0
AtMost s t = length_beside s t ≤ᶻ length_beside t s

abbrev pub Less : List ℕ → List ℕ → Type 0
Less s t = length_beside s t <ᶻ length_beside t s

-- s, with the number i, is the first accepted sheet
pub record FirstAccepted (ts : List (List ℕ)) (i : ℕ) (s : List ℕ) : Type 0 where
  pub numbered : Numbered ts i s
  pub accepted : Accepted s
  pub first : (j : ℕ) (u : List ℕ) → j < i → Numbered ts j u → Accepted u → ⊥

-- s, with the number i, is an accepted sheet whose matrix equals that of the sheet o
pub record Candidate (ts : List (List ℕ)) (o : List ℕ) (i : ℕ) (s : List ℕ) : Type 0 where
  pub numbered : Numbered ts i s
  pub accepted : Accepted s
  pub matrix : same_matrix o s ≡ true

-- s, with the number k, is the first of the shortest among the accepted sheets whose matrix equals the first accepted one's: it is one of
-- them, none of them is shorter, and each that came before it is longer
pub record FirstOfTheShortest (ts : List (List ℕ)) (k : ℕ) (s : List ℕ) : Type 0 where
  pub i : ℕ
  pub o : List ℕ
  pub opens : FirstAccepted ts i o
  pub candidate : Candidate ts o k s
  pub shortest : (j : ℕ) (u : List ℕ) → Candidate ts o j u → AtMost s u
  pub first : (j : ℕ) (u : List ℕ) → j < k → Candidate ts o j u → Less s u

-- the winner among the sheets ts: none where no sheet is accepted, otherwise the first of the shortest
abbrev pub WinnerOf : List (List ℕ) → Winner → Type 0
WinnerOf ts none = (j : ℕ) (u : List ℕ) → Numbered ts j u → Accepted u → ⊥
WinnerOf ts (won k s) = FirstOfTheShortest ts k s

-- what is kept behind the sheets ts: how many they are, and the winner among them
pub record Behind (ts : List (List ℕ)) (r : State) : Type 0 where
  pub count : r.count ≡ length ts
  pub winner : WinnerOf ts r.winner
