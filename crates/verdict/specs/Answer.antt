-- RULES, Numbers of refusal: which number and which place an answer stands for, and how several tests give one answer.
use Rattle.std.specs.Prelude.{Bool, true, false, cond, ℕ, ltb}
use Rattle.verdict.specs.declared.Reason.{Reason}
use Rattle.verdict.specs.declared.Reason.TheVariants.{SheetTooLong, RecordCut, WrongKind, WrongCounts, BytesLeft, Strains, Distance, Vertices, Parent, Children, Edges, Denominator, Numerator, Remainders, Buffer, PastRoot, Text, Decimal, Halves, Bench, Nothing, Negative, ZeroEdge, Pair, Unresolved, Unmeasured, Matrices, Newick, Names}
use Rattle.verdict.specs.declared.Place.{Place}
use Rattle.verdict.specs.declared.Place.TheVariants.{Nowhere}
use Rattle.verdict.specs.declared.Refusal.{Refusal}
use Rattle.std.specs.Prelude.{Result, Ok, Err}
use Rattle.verdict.specs.Table.{first}

-- the number of each reason
abbrev pub reason_number : Reason → ℕ
reason_number SheetTooLong = 1
reason_number RecordCut = 2
reason_number WrongKind = 3
reason_number WrongCounts = 4
reason_number BytesLeft = 5
reason_number Strains = 6
reason_number Distance = 7
reason_number Vertices = 8
reason_number Parent = 9
reason_number Children = 10
reason_number Edges = 11
reason_number Denominator = 12
reason_number Numerator = 13
reason_number Remainders = 14
reason_number Buffer = 15
reason_number PastRoot = 16
reason_number Text = 17
reason_number Decimal = 18
reason_number Halves = 19
reason_number Bench = 20
reason_number Nothing = 21
reason_number Negative = 22
reason_number ZeroEdge = 23
reason_number Pair = 24
reason_number Unresolved = 25
reason_number Unmeasured = 26
reason_number Matrices = 27
reason_number Newick = 28
reason_number Names = 29

-- what a test gives
abbrev pub Verdict : Type 0
Verdict = Result (Unit {0}) Refusal

-- an answer: it passes, or it is a number of refusal at a place
pub data Answer : Type 0 where
  pass : Answer
  fault : ℕ → Place → Answer

-- the number that a customer reads; what passes has no number but 0
abbrev pub number : Answer → ℕ
number pass = 0
number (fault k p) = k

abbrev pub refusal_of : Refusal → Answer
refusal_of r = fault (reason_number r.reason) r.place

abbrev pub answer_of : {A : Type 0} → Result A Refusal → Answer
answer_of (Ok _) = pass
answer_of (Err r) = refusal_of r

abbrev pub number_of : {A : Type 0} → Result A Refusal → ℕ
number_of v = number (answer_of v)

-- a test: the number k at a place where it applies, pass where it does not
abbrev pub test_at : ℕ → Place → Bool → Answer
test_at k p true = fault k p
test_at k p false = pass

abbrev pub test : ℕ → Bool → Answer
test k b = test_at k Nowhere b

-- a test of the entries below n: the answer of the lowest that is at fault, pass where none is
abbrev pub at_first : ℕ → (ℕ → Bool) → (ℕ → Answer) → Answer
at_first n p f = cond (ltb (first n p) n) (f (first n p)) pass

-- tests in order: the first answer that is a refusal
infixr 4 ◌or_else◌
abbrev pub ◌or_else◌ : Answer → Answer → Answer
pass or_else b = b
fault k p or_else b = fault k p
