-- What holds of every list of calls.
use Rattle.std.specs.Prelude.{◌≡◌, Bool, true, false, cond, ◌&&◌, List, [], ◌∷◌, ◌++◌, ℕ, eqb}
use Rattle.verdict.specs.Answer.{Answer, pass, fault}
use Rattle.verdict.specs.declared.Place.{Place}
use Rattle.verdict.specs.declared.Place.TheVariants.{Nowhere}
use Rattle.verdict.specs.declared.Rule.TheVariants.{Plain}
use Rattle.fit_theory.specs.Tests.{posted_tests}
use Rattle.fit_theory.specs.Stands.{Posted, Stands, Least}
use Rattle.desk_theory.specs.Desk.{Posting, nothing, matrix_tree, Table, none, lengths, Desk, Call, post, correct, propose, withdraw, report, empty, bench_out, bench_of, step, run, answer, told, Said}

-- a table stands on what is posted, and no other lengths fit it better
abbrev pub StandsOn : Posting → Table → Type 0
StandsOn p none = Unit {0}
StandsOn nothing (lengths D ns) = ⊥
StandsOn (matrix_tree N ds ps) (lengths D ns) = Stands Plain N ds ps D ns × Least Plain N ds ps D ns

abbrev pub PostedWell : Posting → Type 0
PostedWell nothing = Unit {0}
PostedWell (matrix_tree N ds ps) = Posted N ds ps

-- what is posted passes, and each table stands on it
pub record Sound (d : Desk) : Type 0 where
  pub posting : PostedWell d.posting
  pub tables : (b : ℕ) → StandsOn d.posting (d.tables b)

-- a call in bench b's name
abbrev pub of_bench : ℕ → Call → Bool
of_bench b (post N ds ps) = false
of_bench b (correct c) = false
of_bench b (propose x D ns) = eqb x b
of_bench b (withdraw x) = eqb x b
of_bench b (report x size) = eqb x b

-- what everyone but bench b is told, call by call
abbrev pub heard_besides : ℕ → Desk → List Call → List Said
heard_besides b d [] = []
heard_besides b d (c ∷ cs) = cond (of_bench b c) (heard_besides b (step d c) cs) (told d c ∷ heard_besides b (step d c) cs)

-- some of bench b's calls taken out of a list
pub data Without (b : ℕ) : List Call → List Call → Type 0 where
  done : Without b [] []
  kept : {c : Call} {cs ds : List Call} → Without b cs ds → Without b (c ∷ cs) (c ∷ ds)
  out : {c : Call} {cs ds : List Call} → of_bench b c ≡ true → Without b cs ds → Without b (c ∷ cs) ds

-- a posting or a correction: where it passes it puts other distances, or the same, in the place of what was posted
abbrev pub posts : Call → Bool
posts (post N ds ps) = true
posts (correct c) = true
posts (propose x D ns) = false
posts (withdraw x) = false
posts (report x size) = false

-- a call that can change something: any but a report
abbrev pub changes : Call → Bool
changes (post N ds ps) = true
changes (correct c) = true
changes (propose x D ns) = true
changes (withdraw x) = true
changes (report x size) = false

abbrev pub accepted : Answer → Bool
accepted pass = true
accepted (fault k p) = false

-- the calls of a list that were accepted and change something
abbrev pub effective : Desk → List Call → List Call
effective d [] = []
effective d (c ∷ cs) = cond (accepted (answer d c) && changes c) (c ∷ effective (step d c) cs) (effective (step d c) cs)

pub record Benches : Type 1 where
  -- after any calls from an empty desk a table that stands fits the matrix now posted
  pub stands : (cs : List Call) → Sound (run empty cs)
  -- new distances posted, the old table asked for: 21, whichever bench asks, with whatever buffer
  pub stale : (d : Desk) (c : Call) → posts c ≡ true → answer d c ≡ pass → (b size : ℕ) → bench_out b ≡ false → answer (step d c) (report b size) ≡ fault 21 Nowhere
  -- a bench that is neither 1 nor 2 is 20, whatever else is wrong
  pub no-bench : (d : Desk) (c : Call) → posts c ≡ false → bench_out (bench_of c) ≡ true → answer d c ≡ fault 20 Nowhere
  -- a refused call changes nothing
  pub refused : (d : Desk) (c : Call) (k : ℕ) (p : Place) → answer d c ≡ fault k p → step d c ≡ d
  -- taking calls of one bench out of the list changes nothing of what anyone else is told
  pub apart : (b : ℕ) (cs ds : List Call) → Without b cs ds → heard_besides b empty cs ≡ heard_besides b empty ds
  -- the calls that were accepted and change something, alone, lead to the same desk, and are all accepted again
  pub replay : (cs : List Call) → run empty (effective empty cs) ≡ run empty cs
  pub again : (cs : List Call) → effective empty (effective empty cs) ≡ effective empty cs
  -- what came before a posting that passes does not matter
  pub since : (before after : List Call) (N : ℕ) (ds ps : List ℕ) → posted_tests N ds ps ≡ pass
      → run empty (before ++ (post N ds ps ∷ after)) ≡ run empty (post N ds ps ∷ after)
