-- An answer is known by its number and its place, and what a caller learns from an answer that several tests gave.
use mathlib.Core.Path.{◌≡◌, refl, sym, ◌∙◌, ap, subst}
use mathlib.Core.Bool.{Bool, true, false, cond, ◌||◌}
use Prim.Native.Nat.{ℕ, ◌<◌}
use borrow.Author.Tests.{lt-ltb}
use lib.Dec.{T, eqb}
use Rattle.verdict.specs.declared.Reason.{Reason}
use Rattle.verdict.specs.declared.Reason.TheVariants.{SheetTooLong, RecordCut, WrongKind, WrongCounts, BytesLeft, Strains, Distance, Vertices, Parent, Children, Edges, Denominator, Numerator, Remainders, Buffer, PastRoot, Text, Decimal, Halves, Bench, Nothing, Negative, ZeroEdge, Pair, Unresolved, Unmeasured, Matrices, Newick, Names}
use Rattle.verdict.specs.declared.Place.{Place}
use Rattle.verdict.specs.declared.Refusal.{Refusal}
use Rattle.verdict.specs.Answer.{Verdict}
use Rattle.std.specs.Prelude.{Result, Ok, Err, IfOk, IsErr, IsErrAnd}
use Rattle.verdict.specs.Answer.{Answer, fault, pass, answer_of, refusal_of, reason_number, test, test_at, at_first, ◌or_else◌}
use Rattle.verdict.specs.Table.{some, first}
use Rattle.verdict.proofs.Table.{some_first, lowest, first_cong, some_cong}

-- the reason that a number stands for
abbrev reason_of : ℕ → Reason
reason_of k =
    cond (eqb k 1) SheetTooLong (cond (eqb k 2) RecordCut (cond (eqb k 3) WrongKind (cond (eqb k 4) WrongCounts (
    cond (eqb k 5) BytesLeft (cond (eqb k 6) Strains (cond (eqb k 7) Distance (cond (eqb k 8) Vertices (
    cond (eqb k 9) Parent (cond (eqb k 10) Children (cond (eqb k 11) Edges (cond (eqb k 12) Denominator (
    cond (eqb k 13) Numerator (cond (eqb k 14) Remainders (cond (eqb k 15) Buffer (cond (eqb k 16) PastRoot (
    cond (eqb k 17) Text (cond (eqb k 18) Decimal (cond (eqb k 19) Halves (cond (eqb k 20) Bench (
    cond (eqb k 21) Nothing (cond (eqb k 22) Negative (cond (eqb k 23) ZeroEdge (cond (eqb k 24) Pair (
    cond (eqb k 25) Unresolved (cond (eqb k 26) Unmeasured (cond (eqb k 27) Matrices (cond (eqb k 28) Newick (
    Names))))))))))))))))))))))))))))

abbrev verdict_of : Answer → Verdict
verdict_of pass = Ok tt
verdict_of (fault k p) = Err (record { reason = reason_of k; place = p })

refused-back : (x : Reason) (p : Place) → verdict_of (fault (reason_number x) p) ≡ Err (record { reason = x; place = p })
refused-back SheetTooLong p = refl
refused-back RecordCut p = refl
refused-back WrongKind p = refl
refused-back WrongCounts p = refl
refused-back BytesLeft p = refl
refused-back Strains p = refl
refused-back Distance p = refl
refused-back Vertices p = refl
refused-back Parent p = refl
refused-back Children p = refl
refused-back Edges p = refl
refused-back Denominator p = refl
refused-back Numerator p = refl
refused-back Remainders p = refl
refused-back Buffer p = refl
refused-back PastRoot p = refl
refused-back Text p = refl
refused-back Decimal p = refl
refused-back Halves p = refl
refused-back Bench p = refl
refused-back Nothing p = refl
refused-back Negative p = refl
refused-back ZeroEdge p = refl
refused-back Pair p = refl
refused-back Unresolved p = refl
refused-back Unmeasured p = refl
refused-back Matrices p = refl
refused-back Newick p = refl
refused-back Names p = refl

answer_back : (v : Verdict) → verdict_of (answer_of v) ≡ v
answer_back (Ok tt) = refl
answer_back (Err r) = refused-back r.reason r.place

-- two verdicts with one answer are the same verdict
pub same_answer : (v w : Verdict) → answer_of v ≡ answer_of w → v ≡ w
same_answer v w e = sym (answer_back v) ∙ ap verdict_of e ∙ answer_back w

-- two refusals with one answer are the same
pub same_refusal : (q r : Refusal) → refusal_of q ≡ refusal_of r → q ≡ r
same_refusal q r e = let v : Err q ≡ Err r = same_answer (Err q) (Err r) e in cc

-- no refusal is an answer that passes
pub refuses : (k : ℕ) (p : Place) → fault k p ≡ pass → ⊥
refuses k p e = subst refusal e tt
  where
    refusal : Answer → Type 0
    refusal pass = ⊥
    refusal (fault k p) = Unit {0}

pub not_pass : (r : Refusal) → refusal_of r ≡ pass → ⊥
not_pass r e = refuses _ _ e

-- two results with one answer are the same where what is accepted is
pub one_result : {A : Type 0} (P Q : A → Type 0) → ((a b : A) → P a → Q b → a ≡ b) → (r s : Result A Refusal) → answer_of r ≡ answer_of s
    → IfOk r P → IfOk s Q → r ≡ s
one_result P Q h (Ok a) (Ok b) e p q = ap Ok (h a b p q)
one_result P Q h (Ok a) (Err r) e p q = absurd (not_pass r (sym e))
one_result P Q h (Err r) (Ok a) e p q = absurd (not_pass r e)
one_result P Q h (Err q) (Err r) e p s = ap Err (same_refusal q r e)

-- a result that passes has a value
pub value_of : {A : Type 0} (P : A → Type 0) (r : Result A Refusal) → answer_of r ≡ pass → IfOk r P → (x : A) × (r ≡ Ok x) × P x
value_of P (Ok x) e p = (x, refl, p)
value_of P (Err q) e p = absurd (not_pass q e)

-- a refusal that `?` hands on is the one that came
pub handed_on : {A : Type 0} (P : Result A Refusal → Type 0) (q : Refusal) (r : Result A Refusal) → IsErr r × IsErrAnd r (λ e. e ≡ q) → P (Err q) → P r
handed_on P q (Ok x) h p = absurd h.1
handed_on P q (Err e) h p = subst (λ (x : Refusal). P (Err x)) (sym h.1) p

pub passes : (a : Answer) → Dec (a ≡ pass)
passes pass = yes refl
passes (fault k p) = no (refuses k p)

-- ---- what an answer tells of the tests behind it
-- several pass exactly where each does
pub or_else_pass : (a b : Answer) → (a or_else b) ≡ pass → (a ≡ pass) × (b ≡ pass)
or_else_pass pass b e = (refl, e)
or_else_pass (fault k p) b e = absurd (refuses k p e)

pub pass_or_else : {a b : Answer} → a ≡ pass → b ≡ pass → (a or_else b) ≡ pass
pass_or_else e f = rw (e, f)

-- a row of tests by the answer to its first: a refusal is the row's answer, otherwise the rest decides
pub refused-row : {A : Type 0} (r : Refusal) (v : Result A Refusal) (a b : Answer) → v ≡ Err r → answer_of v ≡ a → refusal_of r ≡ (a or_else b)
refused-row r v a b e f = ap (λ (z : Answer). z or_else b) (sym (ap answer_of e) ∙ f)

pub accepted-row : {A : Type 0} {x : A} (v : Result A Refusal) (a b : Answer) → v ≡ Ok x → answer_of v ≡ a → b ≡ (a or_else b)
accepted-row v a b e f = ap (λ (z : Answer). z or_else b) (sym (ap answer_of e) ∙ f)

-- tests in a row may be grouped, and asked once more
pub or_else_assoc : (a b d : Answer) → ((a or_else b) or_else d) ≡ (a or_else (b or_else d))
or_else_assoc pass b d = refl
or_else_assoc (fault k p) b d = refl

pub or_else_again : (a b : Answer) → (a or_else (a or_else b)) ≡ (a or_else b)
or_else_again pass b = refl
or_else_again (fault k p) b = refl

-- a test passes exactly where it does not apply
pub test_at-pass : (k : ℕ) (p : Place) (b : Bool) → test_at k p b ≡ pass → b ≡ false
test_at-pass k p true e = absurd (refuses k p e)
test_at-pass k p false e = refl

pub pass-test_at : (k : ℕ) (p : Place) {b : Bool} → b ≡ false → test_at k p b ≡ pass
pass-test_at k p e = rw e

pub test-pass : (k : ℕ) (b : Bool) → test k b ≡ pass → b ≡ false
test-pass k b e = test_at-pass k _ b e

pub pass-test : (k : ℕ) {b : Bool} → b ≡ false → test k b ≡ pass
pass-test k e = rw e

-- a test of entries: the lowest at fault gives the answer, and where it passes none is
pub at_first_lem : (n : ℕ) (p : ℕ → Bool) (f : ℕ → Answer) (i : ℕ) → i < n → first n p ≡ i → at_first n p f ≡ f i
at_first_lem n p f i h e = rw (e, lt-ltb i n h)

pub at_none : (n : ℕ) (p : ℕ → Bool) (f : ℕ → Answer) → some n p ≡ false → at_first n p f ≡ pass
at_none n p f e = rw (sym (some_first n p), e)

pub first-pass : (n : ℕ) (p : ℕ → Bool) (f : ℕ → Answer) → ((i : ℕ) → f i ≡ pass → ⊥) → at_first n p f ≡ pass → some n p ≡ false
first-pass n p f h e = go (some n p) refl
  where
    go : (b : Bool) → some n p ≡ b → some n p ≡ false
    go false q = q
    go true q = absurd (h (first n p) (sym (at_first_lem n p f (first n p) (lowest n p q).below refl) ∙ e))

-- tests and answers that agree below n give one answer
pub at_first_cong : (n : ℕ) (p q : ℕ → Bool) (f g : ℕ → Answer) → ((i : ℕ) → i < n → p i ≡ q i) → ((i : ℕ) → i < n → f i ≡ g i) → at_first n p f ≡ at_first n q g
at_first_cong n p q f g h k = go (some n p) refl
  where
    go : (b : Bool) → some n p ≡ b → at_first n p f ≡ at_first n q g
    go true e = let l = (lowest n p e).below in at_first_lem n p f (first n p) l refl ∙ k (first n p) l ∙ sym (at_first_lem n q g (first n p) l (sym (first_cong n p q h)))
    go false e = at_none n p f e ∙ sym (at_none n q g (sym (some_cong n p q h) ∙ e))

-- ---- what holds of every refusal of a row of tests: P of its number and its place
-- RULES, Places, "Where several are at fault it is the lowest": an entry below n that is at fault, below which every one is right
pub record LowestAtFault (n : ℕ) (Fault Right : ℕ → Type 0) (v : ℕ) : Type 0 where
  pub inside : v < n
  pub fault : Fault v
  pub below : (u : ℕ) → u < v → Right u

abbrev pub Of : (ℕ → Place → Type 0) → Answer → Type 0
Of P pass = Unit {0}
Of P (fault k p) = P k p

module _ (P : ℕ → Place → Type 0) where
  pub of_test : (k : ℕ) (p : Place) (b : Bool) → P k p → Of P (test_at k p b)
  of_test k p true h = h
  of_test k p false h = tt

  -- the rest is asked where the first passes
  pub of_row : (a b : Answer) → Of P a → (a ≡ pass → Of P b) → Of P (a or_else b)
  of_row pass b h g = g refl
  of_row (fault k p) b h g = h

  pub of-first : (n : ℕ) (p : ℕ → Bool) (f : ℕ → Answer) → ((i : ℕ) → i < n → p i ≡ true → ((k : ℕ) → k < i → p k ≡ false) → Of P (f i)) → Of P (at_first n p f)
  of-first n p f h = go (some n p) refl
    where
      go : (b : Bool) → some n p ≡ b → Of P (at_first n p f)
      go true e = let l = lowest n p e in subst (Of P) (sym (at_first_lem n p f (first n p) l.below refl)) (h (first n p) l.below l.fault l.rest)
      go false e = subst (Of P) (sym (at_none n p f e)) tt

  pub of-lowest : (n : ℕ) (p : ℕ → Bool) (f : ℕ → Answer) (Fault Right : ℕ → Type 0) → ((i : ℕ) → p i ≡ true → Fault i) → ((i : ℕ) → p i ≡ false → Right i)
      → ((i : ℕ) → LowestAtFault n Fault Right i → Of P (f i)) → Of P (at_first n p f)
  of-lowest n p f Fault Right bad good h = of-first n p f (λ i l e r. h i (record { inside = l; fault = bad i e; below = λ u k. good u (r u k) }))

  pub of-refusal : (a : Answer) (k : ℕ) (p : Place) → Of P a → a ≡ fault k p → P k p
  of-refusal a k p h e = subst (Of P) e h

-- neither of two faults
pub or_none : (a b : Bool) → (a || b) ≡ false → (a ≡ false) × (b ≡ false)
or_none true b e = absurd (subst T e tt)
or_none false b e = (refl, e)

pub none_or : {a b : Bool} → a ≡ false → b ≡ false → (a || b) ≡ false
none_or e f = rw (e, f)
