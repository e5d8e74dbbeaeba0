-- Where a refusal of the form points (RULES, Places): 2, 3 and 4 at the start of the first record that does not pass, 5 at the byte behind the
-- last record, 1 nowhere (`byte-placed`). It is a byte of the sheet, or the one behind its last (`byte-within`).
use mathlib.Core.Path.{◌≡◌, refl, sym, ◌∙◌, ap, subst⁻¹}
use mathlib.Core.Bool.{Bool, true, false, cond, not, ◌&&◌, true≢false}
use mathlib.Core.List.{List}
use Prim.Native.Nat.{ℕ, zero, suc, ◌≤◌, ◌<◌}
use native.Mathlib.Decide.{ℕ_discrete, dec_lt}
use native.Mathlib.Omega.{arith}
use borrow.Author.Tests.{lt-ltb, le-ltb, ltb-true, ne_eqb}
use lib.Dec.{eqb, ltb}
use lib.ListN.{length}
use Rattle.verdict.specs.declared.Place.{Place}
use Rattle.verdict.specs.declared.Place.TheVariants.{Nowhere, Byte, Vertex, Edge, EdgeSum}
use Rattle.verdict.specs.Answer.{Answer, pass, fault, test, test_at, ◌or_else◌}
use Rattle.exact.proofs.Decide.{by_cases}
use Rattle.verdict.proofs.Answers.{LowestAtFault, Of, of_test, of_row, of-refusal, or_else_pass, pass_or_else, pass-test_at, test_at-pass}
use Rattle.records.specs.Form.{max_records, longest, kind_at, kind_of, head_cut, body_cut, body_out, record_tests, start_of, records_tests, names_differ, form_tests}
use Rattle.records.proofs.InTurn.{one_more, no_records, each-passes, starts-within}

-- the answer of record k; the names, in the fourth, are asked their count too
abbrev pub record_answer : List ℕ → ℕ → Answer
record_answer s k = record_tests s (start_of s k) (kind_of k) or_else test_at 4 (Byte (start_of s k)) (eqb k 3 && names_differ 4 s)

-- the first of so many records that does not pass gives the number, and starts at the byte
pub record RecordAtFault (count : ℕ) (s : List ℕ) (number b : ℕ) : Type 0 where
  pub which : ℕ
  pub start : b ≡ start_of s which
  pub lowest : LowestAtFault count (λ k. record_answer s k ≡ fault number (Byte (start_of s k))) (λ k. record_answer s k ≡ pass) which

-- all records pass, and the byte stands behind the last
pub record BytesBehind (count : ℕ) (s : List ℕ) (b : ℕ) : Type 0 where
  pub start : b ≡ start_of s count
  pub passed : (k : ℕ) → k < count → record_answer s k ≡ pass
  pub there : b < length s

-- the place of a refusal of the form
abbrev pub BytePlaced : ℕ → List ℕ → ℕ → Place → Type 0
BytePlaced count s k Nowhere = Unit {0}
BytePlaced count s k (Byte b) = cond (eqb k 5) (BytesBehind count s b) (RecordAtFault count s k b)
BytePlaced count s k (Vertex v) = ⊥
BytePlaced count s k (Edge v) = ⊥
BytePlaced count s k (EdgeSum v x) = ⊥

-- one record answers at the byte where it starts, and not with 5
abbrev AtStart : ℕ → ℕ → Place → Type 0
AtStart at k p = (p ≡ Byte at) × (eqb k 5 ≡ false)

at-start : (s : List ℕ) (at kind : ℕ) → Of (AtStart at) (record_tests s at kind)
at-start s at kind = let P = AtStart at in
    let kinds = test_at 3 (Byte at) (not (eqb (kind_at s at) kind)) in
    let counts = test_at 4 (Byte at) (body_out s at kind) in
    of_row P (test_at 2 (Byte at) (head_cut s at)) (test_at 2 (Byte at) (body_cut s at) or_else kinds or_else counts) (of_test P 2 (Byte at) (head_cut s at) (refl, refl))
    (λ _. of_row P (test_at 2 (Byte at) (body_cut s at)) (kinds or_else counts) (of_test P 2 (Byte at) (body_cut s at) (refl, refl))
    (λ _. of_row P kinds counts (of_test P 3 (Byte at) (not (eqb (kind_at s at) kind)) (refl, refl))
    (λ _. of_test P 4 (Byte at) (body_out s at kind) (refl, refl))))

-- a record that is not the fourth is not asked for names
not_fourth : (s : List ℕ) (k : ℕ) → (k ≡ 3 → ⊥) → record_tests s (start_of s k) (kind_of k) ≡ pass → record_answer s k ≡ pass
not_fourth s k n z = pass_or_else z (ap (λ (b : Bool). test_at 4 (Byte (start_of s k)) (b && names_differ 4 s)) (ne_eqb k 3 n))

module _ (count : ℕ) (s : List ℕ) (few : count ≤ max_records) where
  abbrev P : ℕ → Place → Type 0
  P = BytePlaced count s

  -- a record behind others that pass
  of-record : (m : ℕ) → m < count → records_tests s m ≡ pass → Of P (record_tests s (start_of s m) (kind_of m))
  of-record m l z = go (record_tests s (start_of s m) (kind_of m)) refl (at-start s (start_of s m) (kind_of m))
    where
      go : (a : Answer) → record_tests s (start_of s m) (kind_of m) ≡ a → Of (AtStart (start_of s m)) a → Of P a
      go pass e q = tt
      go (fault k p) e q = subst⁻¹ (P k) q.0 (subst⁻¹ (λ (b : Bool). cond b (BytesBehind count s (start_of s m)) (RecordAtFault count s k (start_of s m))) q.1
          (record {
            which = m;
            start = refl;
            lowest = record { inside = l; fault = ap (λ (a : Answer). a or_else test_at 4 (Byte (start_of s m)) (eqb m 3 && names_differ 4 s)) e ∙ ap (fault k) q.0; below = λ u h. not_fourth s u (omega arith) (each-passes s m z u h) };
          }))

  of_records : (m : ℕ) → m ≤ count → Of P (records_tests s m)
  of_records zero l = subst⁻¹ (Of P) (no_records s) tt
  of_records (suc m) l = subst⁻¹ (Of P) (one_more s m) (of_row P (records_tests s m) (record_tests s (start_of s m) (kind_of m)) (of_records m (omega arith)) (λ z. of-record m l z))

  -- the count of the names, where there are four records
  four : 3 < count → names_differ 4 s ≡ names_differ count s
  four l = rw (lt-ltb 3 count l)

  of-names : records_tests s count ≡ pass → Of P (test_at 4 (Byte (start_of s 3)) (names_differ count s))
  of-names z = go (names_differ count s) refl
    where
      go : (b : Bool) → names_differ count s ≡ b → Of P (test_at 4 (Byte (start_of s 3)) b)
      go false e = tt
      go true e = by_cases (dec_lt 3 count)
          (λ l. record {
            which = 3;
            start = refl;
            lowest = record {
              inside = l;
              fault = ap (λ (a : Answer). a or_else test_at 4 (Byte (start_of s 3)) (names_differ 4 s)) (each-passes s count z 3 l) ∙ ap (test_at 4 (Byte (start_of s 3))) (four l ∙ e);
              below = λ u h. not_fourth s u (omega arith) (each-passes s count z u (omega arith));
            };
          })
          (λ l. absurd (true≢false (sym e ∙ rw (le-ltb 3 count (omega arith)))))

  of_left : records_tests s count ≡ pass → names_differ count s ≡ false → Of P (test_at 5 (Byte (start_of s count)) (ltb (start_of s count) (length s)))
  of_left z d = go (ltb (start_of s count) (length s)) refl
    where
      each : (k : ℕ) → k < count → record_answer s k ≡ pass
      each k h = by_cases (ℕ_discrete k 3)
          (λ e. let l : 3 < count = omega arith in ap (record_answer s) e ∙ pass_or_else (each-passes s count z 3 l) (pass-test_at 4 (Byte (start_of s 3)) (four l ∙ d)))
          (λ n. not_fourth s k n (each-passes s count z k h))

      go : (b : Bool) → ltb (start_of s count) (length s) ≡ b → Of P (test_at 5 (Byte (start_of s count)) b)
      go true e = record { start = refl; passed = each; there = ltb-true (start_of s count) (length s) e }
      go false e = tt

  pub byte-placed : (k : ℕ) (p : Place) → form_tests count s ≡ fault k p → BytePlaced count s k p
  byte-placed k p e =
      let names = test_at 4 (Byte (start_of s 3)) (names_differ count s) in
      let left = test_at 5 (Byte (start_of s count)) (ltb (start_of s count) (length s)) in
      of-refusal P (form_tests count s) k p
      (of_row P (test 1 (ltb (longest count) (length s))) (records_tests s count or_else names or_else left) (of_test P 1 Nowhere (ltb (longest count) (length s)) tt)
      (λ _. of_row P (records_tests s count) (names or_else left) (of_records count (omega arith))
      (λ z. of_row P names left (of-names z) (λ d. of_left z (test_at-pass 4 (Byte (start_of s 3)) (names_differ count s) d))))) e

  pass-each : (m : ℕ) → ((k : ℕ) → k < m → record_answer s k ≡ pass) → records_tests s m ≡ pass
  pass-each zero h = no_records s
  pass-each (suc m) h = one_more s m
      ∙ pass_or_else (pass-each m (λ k l. h k (omega arith))) (or_else_pass (record_tests s (start_of s m) (kind_of m)) (test_at 4 (Byte (start_of s m)) (eqb m 3 && names_differ 4 s)) (h m (omega arith))).0

  pub byte-within : (k b : ℕ) → form_tests count s ≡ fault k (Byte b) → b ≤ length s
  byte-within k b e = go (eqb k 5) (byte-placed k (Byte b) e)
    where
      go : (t : Bool) → cond t (BytesBehind count s b) (RecordAtFault count s k b) → b ≤ length s
      go true h = omega (arith, h.there)
      go false h = omega (arith, h.start, starts-within s h.which (pass-each h.which h.lowest.below))
