-- The records in turn: the first that is refused gives the form's answer, whatever stands behind it.
use mathlib.Core.Path.{◌≡◌, refl, sym, ap, ap₂, ◌∙◌}
use mathlib.Core.Bool.{Bool, false, not}
use mathlib.Core.List.{List}
use Prim.Native.Nat.{ℕ, zero, suc, ◌+◌, ◌<◌, ◌≤◌}
use native.Mathlib.Decide.{ℕ_discrete}
use native.Mathlib.Numerals.{add-one}
use native.Mathlib.Omega.{arith}
use borrow.Author.Tests.{lt-ltb, le-ltb, eq-eqb, ne_eqb, ltb-false, eqb-true, not-false}
use lib.Dec.{eqb}
use lib.ListN.{length, set}
use Rattle.exact.specs.Table.{table}
use Rattle.exact.proofs.Decide.{by_cases}
use Rattle.verdict.specs.declared.Place.TheVariants.{Byte}
use Rattle.verdict.specs.declared.Refusal.{Refusal}
use Rattle.verdict.specs.Answer.{Verdict}
use Rattle.std.specs.Prelude.{Ok, Err}
use Rattle.verdict.specs.Answer.{Answer, pass, fault, answer_of, refusal_of, test_at, ◌or_else◌}
use Rattle.verdict.proofs.Answers.{or_else_pass, test_at-pass, not_pass}
use Rattle.records.specs.declared.Layout.{Layout}
use Rattle.records.specs.Form.{max_records, head_size, kind_at, kind_of, end_at, head_cut, body_cut, body_out, record_tests, start_of, records_tests}
use Rattle.records.specs.Laid.{max_starts, Laid}
use Rattle.records.proofs.Decoding.{Decoding, decode_start, decode_turn, decode_end}

-- ---- one record, by the outcome of each test
module _ (s : List ℕ) (at kind : ℕ) where
  pub head-cut : length s < at + head_size → fault 2 (Byte at) ≡ record_tests s at kind
  head-cut h = simp (lt-ltb (length s) (at + head_size) h)

  module _ (h : at + head_size ≤ length s) where
    pub body_cut_lem : length s < end_at s at → fault 2 (Byte at) ≡ record_tests s at kind
    body_cut_lem b = simp (le-ltb (length s) (at + head_size) h, lt-ltb (length s) (end_at s at) b)

    module _ (b : end_at s at ≤ length s) where
      pub wrong-kind : (kind_at s at ≡ kind → ⊥) → fault 3 (Byte at) ≡ record_tests s at kind
      wrong-kind k = simp (le-ltb (length s) (at + head_size) h, le-ltb (length s) (end_at s at) b, ne_eqb (kind_at s at) kind k)

      pub by_body : kind_at s at ≡ kind → (out : Bool) → body_out s at kind ≡ out → test_at 4 (Byte at) out ≡ record_tests s at kind
      by_body k out e =
          ap (test_at 4 (Byte at)) (sym e) ∙ simp (le-ltb (length s) (at + head_size) h, le-ltb (length s) (end_at s at) b, eq-eqb (kind_at s at) kind k)

  -- a record that passes is there, whole, of the kind that is due, and its body is in order
  passes : record_tests s at kind ≡ pass → (test_at 2 (Byte at) (body_cut s at) ≡ pass) × (test_at 3 (Byte at) (not (eqb (kind_at s at) kind)) ≡ pass) × (test_at 4 (Byte at) (body_out s at kind) ≡ pass)
  passes z =
      let kinds = test_at 3 (Byte at) (not (eqb (kind_at s at) kind)) in
      let counts = test_at 4 (Byte at) (body_out s at kind) in
      let (_, z1) = or_else_pass (test_at 2 (Byte at) (head_cut s at)) (test_at 2 (Byte at) (body_cut s at) or_else kinds or_else counts) z in
      let (z2, z3) = or_else_pass (test_at 2 (Byte at) (body_cut s at)) (kinds or_else counts) z1 in
      let (z4, z5) = or_else_pass kinds counts z3 in (z2, z4, z5)

  pub record-there : record_tests s at kind ≡ pass → end_at s at ≤ length s
  record-there z = ltb-false (length s) (end_at s at) (test_at-pass 2 (Byte at) (body_cut s at) (passes z).0)

  pub record-counted : record_tests s at kind ≡ pass → body_out s at kind ≡ false
  record-counted z = test_at-pass 4 (Byte at) (body_out s at kind) (passes z).2

  pub record-kind : record_tests s at kind ≡ pass → kind_at s at ≡ kind
  record-kind z = eqb-true (kind_at s at) kind (not-false (eqb (kind_at s at) kind) (test_at-pass 3 (Byte at) (not (eqb (kind_at s at) kind)) (passes z).1))

-- ---- several records
-- an answer that does not pass stays, whatever is asked behind it
pub stays : (a b : Answer) → (a ≡ pass → ⊥) → (a or_else b) ≡ a
stays pass b h = absurd (h refl)
stays (fault k p) b h = refl

module _ (s : List ℕ) where
  -- what one record's turn adds
  pub one_more : (k : ℕ) → records_tests s (suc k) ≡ (records_tests s k or_else record_tests s (start_of s k) (kind_of k))
  unfolding records_tests
  one_more k = refl

  pub next_start : (k : ℕ) → start_of s (suc k) ≡ end_at s (start_of s k)
  unfolding start_of
  next_start k = refl

  pub first-start : start_of s 0 ≡ 0
  unfolding start_of
  first-start = refl

  pub no_records : records_tests s 0 ≡ pass
  unfolding records_tests
  no_records = refl

  refused-stays : (k m : ℕ) → (records_tests s k ≡ pass → ⊥) → k ≤ m → records_tests s m ≡ records_tests s k
  refused-stays k zero h l = ap (records_tests s) (omega arith)
  refused-stays k (suc m) h l =
      by_cases (ℕ_discrete k (suc m)) (λ e. ap (records_tests s) (sym e))
      (λ n. let ih = refused-stays k m h (omega arith) in
      one_more m ∙ stays (records_tests s m) (record_tests s (start_of s m) (kind_of m)) (λ z. h (sym ih ∙ z)) ∙ ih)

  -- each record of those that pass passes
  pub each-passes : (m : ℕ) → records_tests s m ≡ pass → (k : ℕ) → k < m → record_tests s (start_of s k) (kind_of k) ≡ pass
  each-passes zero z k l = absurd (omega arith)
  each-passes (suc m) z k l =
      let (z1, z2) = or_else_pass (records_tests s m) (record_tests s (start_of s m) (kind_of m)) (sym (one_more m) ∙ z) in
      by_cases (ℕ_discrete k m) (λ e. ap (λ (i : ℕ). record_tests s (start_of s i) (kind_of i)) e ∙ z2)
      (λ n. each-passes m z1 k (omega arith))

  -- where so many pass, so do fewer
  pub fewer-pass : (m k : ℕ) → k ≤ m → records_tests s m ≡ pass → records_tests s k ≡ pass
  fewer-pass zero k l z = ap (records_tests s) (omega arith) ∙ z
  fewer-pass (suc m) k l z =
      by_cases (ℕ_discrete k (suc m)) (λ e. ap (records_tests s) e ∙ z)
      (λ n. fewer-pass m k (omega arith) (or_else_pass (records_tests s m) (record_tests s (start_of s m) (kind_of m)) (sym (one_more m) ∙ z)).0)

  -- behind records that pass starts the next one, within the sheet
  pub starts-within : (m : ℕ) → records_tests s m ≡ pass → start_of s m ≤ length s
  starts-within zero z = omega (arith, first-start)
  starts-within (suc m) z = rw (next_start m) (record-there s (start_of s m) (kind_of m) (each-passes (suc m) z m (omega arith)))

-- ---- the loop: k records have passed, and the next one starts at `at`
pub record Past (s : List ℕ) (count k at : ℕ) (starts : List ℕ) : Type 0 where
  pub few : k ≤ count
  pub passed : records_tests s k ≡ pass
  pub place : at ≡ start_of s k
  pub there : at ≤ length s
  pub kept : Decoding 0 max_starts (count + 1) (start_of s) k starts

pub past-none : (s : List ℕ) (count : ℕ) (starts : List ℕ) → starts ≡ table max_starts (λ _. 0) → Past s count 0 0 starts
past-none s count starts e = record {
  few = omega arith;
  passed = no_records s;
  place = sym (first-start s);
  there = omega arith;
  kept = decode_start 0 max_starts (count + 1) (start_of s) starts e;
}

module _ {s : List ℕ} {count k at : ℕ} {starts : List ℕ} (w : Past s count k at starts) where
  turn-answer : (kind : ℕ) → kind ≡ kind_of k → records_tests s (suc k) ≡ record_tests s at kind
  turn-answer kind e =
      one_more s k ∙ ap (λ (z : Answer). z or_else record_tests s (start_of s k) (kind_of k)) w.passed
      ∙ ap₂ (λ (a i : ℕ). record_tests s a i) (sym w.place) (sym e)

  pub past-turn : (kind next : ℕ) → kind ≡ kind_of k → record_tests s at kind ≡ pass → next ≡ end_at s at → k < count → count ≤ max_records
      → Past s count (k + 1) next (set starts k at)
  past-turn kind next e z f l m = record {
    few = omega arith;
    passed = rw add-one (turn-answer kind e ∙ z);
    place = f ∙ ap (end_at s) w.place ∙ sym (next_start s k) ∙ ap (start_of s) (sym (add-one k));
    there = rw f (record-there s at kind z);
    kept = decode_turn 0 max_starts (count + 1) (start_of s) k starts at (omega arith) (omega arith) w.place w.kept;
  }

  pub turn-refused : (kind : ℕ) (v : Verdict) (r : Refusal) → kind ≡ kind_of k → answer_of v ≡ record_tests s at kind → v ≡ Err r → k < count
      → records_tests s count ≡ refusal_of r
  turn-refused kind v r e f g l =
      let told : records_tests s (suc k) ≡ refusal_of r = turn-answer kind e ∙ sym f ∙ ap answer_of g in
      refused-stays s (suc k) count (λ z. not_pass r (sym told ∙ z)) (omega arith) ∙ told

  pub all_laid : count ≤ k → count ≤ max_records → Laid (records_tests s count) count s (Ok (record { starts = set starts count at }))
  all_laid l m =
      let all : k ≡ count = omega (arith, w.few) in
      let z : records_tests s count ≡ pass = ap (records_tests s) (sym all) ∙ w.passed in
      let d = decode_turn 0 max_starts (count + 1) (start_of s) k starts at (omega (arith, all)) (omega arith) w.place w.kept in
      record {
        answer = sym z;
        starts = ap (λ (i : ℕ). set starts i at) (sym all) ∙ decode_end 0 max_starts (count + 1) (start_of s) (k + 1) (set starts k at) (omega arith) (omega arith) d;
      }

-- a refusal has no starts
pub laid-refused : (a : Answer) (count : ℕ) (s : List ℕ) (r : Refusal) → a ≡ refusal_of r → Laid a count s (Err r)
laid-refused a count s r f = record { answer = sym f; starts = tt }
