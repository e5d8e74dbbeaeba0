-- Two benches, one matrix (RULES, Two benches): the calls, what the desk holds, the answer to a call, and the desk after it. Each call is
-- answered by the tests that RULES has for it, on what the desk holds, and by nothing else.
use Rattle.std.specs.Prelude.{Bool, true, false, cond, not, ◌||◌, List, [], ◌∷◌, ℕ, eqb, ℤ, length}
use Rattle.verdict.specs.Answer.{Answer, fault, test, ◌or_else◌}
use Rattle.verdict.specs.declared.Place.TheVariants.{Nowhere}
use Rattle.verdict.specs.declared.Rule.TheVariants.{Plain}
use Rattle.fit_theory.specs.Tests.{posted_tests, proposal_tests, buffer_out}
use Rattle.correction_theory.specs.Correction.{Correction, corrected, correction_tests, on_pass}

-- what is posted: nothing, or a matrix of N strains and a tree
pub data Posting : Type 0 where
  nothing : Posting
  matrix_tree : ℕ → List ℕ → List ℕ → Posting

-- what stands in a bench's name: no table, or a denominator and numerators
pub data Table : Type 0 where
  none : Table
  lengths : ℕ → List ℤ → Table

-- what is posted, and the table of each bench: they are 1 and 2, and no other has one
pub record Desk : Type 0 where
  pub posting : Posting
  pub tables : ℕ → Table

-- the desk at the start: nothing is posted and nothing stands
abbrev pub empty : Desk
empty = record { posting = nothing; tables = λ _. none }

pub data Call : Type 0 where
  -- N, the distances and the parents
  post : ℕ → List ℕ → List ℕ → Call
  correct : Correction → Call
  -- the bench, D and the numerators
  propose : ℕ → ℕ → List ℤ → Call
  withdraw : ℕ → Call
  -- the bench, and how many entries the lent buffer has
  report : ℕ → ℕ → Call

-- 20: no such bench
abbrev pub bench_out : ℕ → Bool
bench_out b = not (eqb b 1 || eqb b 2)

-- 21: no table stands
abbrev pub is_none : Table → Bool
is_none none = true
is_none (lengths D ns) = false

-- a where nothing is posted, otherwise what f says of the matrix and the tree
abbrev pub on_posting : {A : Type 0} → Posting → A → (ℕ → List ℕ → List ℕ → A) → A
on_posting nothing a f = a
on_posting (matrix_tree N ds ps) a f = f N ds ps

-- 21 where nothing is posted, then the tests of what is
abbrev pub if_posted : Posting → (ℕ → List ℕ → List ℕ → Answer) → Answer
if_posted p f = on_posting p (fault 21 Nowhere) f

-- the bench that a call names; a posting and a correction name none
abbrev pub bench_of : Call → ℕ
bench_of (post N ds ps) = 0
bench_of (correct c) = 0
bench_of (propose b D ns) = b
bench_of (withdraw b) = b
bench_of (report b size) = b

-- the answer to a call, by what is posted and the table t of its bench
abbrev pub answer_on : Posting → Table → Call → Answer
answer_on p t (post N ds ps) = posted_tests N ds ps
answer_on p t (correct c) = if_posted p (λ N ds ps. correction_tests N ds ps c)
answer_on p t (propose b D ns) = test 20 (bench_out b) or_else if_posted p (λ N ds ps. proposal_tests Plain N ds ps D ns)
answer_on p t (withdraw b) = test 20 (bench_out b) or_else if_posted p (λ N ds ps. test 21 (is_none t))
answer_on p t (report b size) = test 20 (bench_out b) or_else if_posted p (λ N ds ps. test 21 (is_none t) or_else test 15 (buffer_out size (length ps)))

abbrev pub answer : Desk → Call → Answer
answer d c = answer_on d.posting (d.tables (bench_of c)) c

-- one bench's table put in its place
abbrev pub put : ℕ → Table → Desk → Desk
put b t d = record { posting = d.posting; tables = λ x. cond (eqb x b) t (d.tables x) }

-- something posted anew, with no table standing
abbrev pub anew : Posting → Desk
anew p = record { posting = p; tables = λ _. none }

-- the desk after a call that passes
abbrev pub effect : Desk → Call → Desk
effect d (post N ds ps) = anew (matrix_tree N ds ps)
effect d (correct c) = anew (on_posting d.posting nothing (λ N ds ps. matrix_tree N (corrected ds c) ps))
effect d (propose b D ns) = put b (lengths D ns) d
effect d (withdraw b) = put b none d
effect d (report b size) = d

-- the desk after a call: what passes takes effect, what is refused changes nothing
abbrev pub step : Desk → Call → Desk
step d c = on_pass (answer d c) (effect d c) d

-- the desk after a list of calls, the first in the list first
abbrev pub run : Desk → List Call → Desk
run d [] = d
run d (c ∷ cs) = run (step d c) cs

-- what is told: the answer, and by a report also the matrix, the tree and the table that it is of
pub data Said : Type 0 where
  says : Answer → Said
  reports : Answer → Posting → Table → Said

abbrev pub told_on : Posting → Table → Call → Said
told_on p t (post N ds ps) = says (answer_on p t (post N ds ps))
told_on p t (correct c) = says (answer_on p t (correct c))
told_on p t (propose b D ns) = says (answer_on p t (propose b D ns))
told_on p t (withdraw b) = says (answer_on p t (withdraw b))
told_on p t (report b size) = reports (answer_on p t (report b size)) p t

abbrev pub told : Desk → Call → Said
told d c = told_on d.posting (d.tables (bench_of c)) c
