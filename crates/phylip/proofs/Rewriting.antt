-- A text read and written again: its refusal is the text's own or that of what it holds, and otherwise what is written is its matrix.
use mathlib.Core.Path.{◌≡◌, refl, sym, ◌∙◌, ap, ap₂, subst}
use mathlib.Core.Bool.{true, cond, not}
use mathlib.Core.List.{List}
use Prim.Native.Nat.{ℕ, ◌*◌, ◌≤◌, ◌<◌}
use native.Mathlib.Decide.{dec_lt}
use native.Mathlib.Omega.{arith}
use borrow.Author.Tests.{lt-ltb, le-ltb, eq-eqb, eqb-true}
use lib.Dec.{eqb, ltb}
use lib.ListN.{length, take}
use Rattle.exact.proofs.Decide.{by_cases}
use Rattle.verdict.specs.Answer.{Answer, pass, fault, answer_of, reason_number, refusal_of, test, ◌or_else◌}
use Rattle.verdict.specs.declared.Refusal.{Refusal}
use Rattle.verdict.specs.Answer.{Verdict}
use Rattle.std.specs.Prelude.{Result, Ok, Err}
use Rattle.verdict.proofs.Answers.{or_else_pass, test-pass, or_none}
use Rattle.matrix.specs.Limits.{min_strains, max_strains}
use Rattle.matrix.specs.Tests.{strains_out}
use Rattle.matrix.specs.Place.{pair_count}
use Rattle.digits.specs.Digits.{most, at_most, number_from}
use Rattle.digits.proofs.Reading.{low-cut, high_cut}
use Rattle.writing.specs.Text.{Wrote}
use Rattle.lines.specs.Lines.{refused_line}
use Rattle.phylip_text.specs.Form.{past, count_size, count_of, rows_of, name_size, decimals_out, halves_out}
use Rattle.phylip_text.specs.Tests.{max_text, countless, form_bad, entries, text_tests, room_out, matter_tests, Reads}
use Rattle.phylip_read.specs.Answers.{ReadAnswer}
use Rattle.phylip_write.specs.Answers.{WriteAnswer}
use Rattle.phylip_text.specs.Text.{text_of}
use Rattle.phylip.specs.Again.{strains_for, distances_in, names_in, again_tests, by_answer, again_text}

-- ---- the count
module _ (k : ℕ) (t : List ℕ) (e : k ≡ at_most (count_of t)) where
  pub too_many : max_strains < k → 0 ≡ strains_for t
  too_many h = rw (lt-ltb max_strains (count_of t) (by_cases (dec_lt most (count_of t)) (λ l. omega arith) (λ l. omega (arith, low-cut (count_of t) (omega arith)))))

  pub few-enough : k ≤ max_strains → k ≡ strains_for t
  few-enough h = by_cases (dec_lt most (count_of t))
      (λ l. absurd (omega (arith, high_cut (count_of t) l)))
      (λ l. let q = low-cut (count_of t) (omega arith) in rw (le-ltb max_strains (count_of t) (omega (arith, q))) (e ∙ q))

-- where no digit stands there is no count
pub no_strains : (t : List ℕ) → true ≡ eqb (count_size t) 0 → 0 ≡ strains_for t
unfolding count_of number_from
no_strains t e = let z : count_size t ≡ 0 = eqb-true (count_size t) 0 (sym e) in
    ap (λ (k : ℕ). cond (ltb max_strains k) 0 k) (sym (ap (λ (k : ℕ). number_from 0 (take k (past t))) z))

pub strains-few : (t : List ℕ) → strains_for t ≤ max_strains
strains-few t = by_cases (dec_lt max_strains (count_of t)) (λ h. rw (lt-ltb max_strains (count_of t) h) (omega arith)) (λ h. rw (le-ltb max_strains (count_of t) (omega arith)) (omega arith))

-- ---- answers
-- a row whose last test passes where the others do is the others' answer
keeps : (a b : Answer) → (a ≡ pass → b ≡ pass) → (a or_else b) ≡ a
keeps pass b h = h refl
keeps (fault k p) b h = refl

-- where the text passes there are as many strains as its count says
counted : (t : List ℕ) → text_tests t ≡ pass → strains_for t ≡ count_of t
counted t z =
    let (_, r) = or_else_pass (test 17 (countless t)) (test 6 (strains_out (count_of t)) or_else test 17 (form_bad t) or_else test 18 (decimals_out (count_of t) (rows_of t)) or_else test 19 (halves_out (count_of t) (entries t))) z in
    let (s, _) = or_else_pass (test 6 (strains_out (count_of t))) (test 17 (form_bad t) or_else test 18 (decimals_out (count_of t) (rows_of t)) or_else test 19 (halves_out (count_of t) (entries t))) r in
    let (_, high) = or_none (ltb (count_of t) min_strains) (ltb max_strains (count_of t)) (test-pass 6 (strains_out (count_of t)) s) in
    rw high

-- a refusal's line is the answer's text
pub refused-text : (t b a : List ℕ) (next : ℕ) (q : Refusal) → refusal_of q ≡ again_tests t → (k : ℕ) → k ≡ reason_number q.reason → Wrote b a 0 (refused_line k q.place) next → Wrote b a 0 (again_text t) next
unfolding again_text
refused-text t b a next q e k f w = subst (λ (l : List ℕ). Wrote b a 0 l next)
    (ap (λ (i : ℕ). refused_line i q.place) f ∙ ap (λ (x : Answer). by_answer x (text_of (count_of t) (distances_in t) (names_in t))) e) w

-- also where something was tried before that left the buffer as it was
pub refused-behind : (t b mid a : List ℕ) (next : ℕ) (q : Refusal) → refusal_of q ≡ again_tests t → (k : ℕ) → k ≡ reason_number q.reason → mid ≡ b → Wrote mid a 0 (refused_line k q.place) next → Wrote b a 0 (again_text t) next
refused-behind t b mid a next q e k f same w = refused-text t b a next q e k f (subst (λ (l : List ℕ). Wrote l a 0 (refused_line k q.place) next) same w)

module _ (t : List ℕ) (n : ℕ) (e : n ≡ strains_for t) (db da nb na : List ℕ) (ld : length db ≡ pair_count n) (ln : length nb ≡ name_size * n) (v : Verdict) (r : ReadAnswer t db da nb na v) where
  room_fits : text_tests t ≡ pass → test 15 (room_out (count_of t) (length db) (length nb)) ≡ pass
  room_fits z = let c = e ∙ counted t z in
      rw (eq-eqb (length db) (pair_count (count_of t)) (ld ∙ ap pair_count c), eq-eqb (length nb) (name_size * count_of t) (ln ∙ ap (λ (k : ℕ). name_size * k) c))

  -- the buffers have the size that the text asks for, so the answer is the text's own
  own : answer_of v ≡ text_tests t
  own = r.answer ∙ keeps (text_tests t) (test 15 (room_out (count_of t) (length db) (length nb))) room_fits

  pub text-refused : (q : Refusal) → v ≡ Err q → refusal_of q ≡ again_tests t
  text-refused q g = ap (λ (x : Answer). x or_else matter_tests (count_of t) (distances_in t) (names_in t)) (sym (ap answer_of g) ∙ own)

  module _ (ok : v ≡ Ok tt) where
    passed : text_tests t ≡ pass
    passed = sym own ∙ ap answer_of ok

    strains : n ≡ count_of t
    strains = e ∙ counted t passed

    holds : Reads t da na
    holds = r.filled.read (sym r.answer ∙ ap answer_of ok)

    rest : matter_tests n da na ≡ again_tests t
    rest = ap (λ (k : ℕ). matter_tests k da na) strains ∙ ap₂ (matter_tests (count_of t)) holds.distances_are holds.names_are
        ∙ ap (λ (x : Answer). x or_else matter_tests (count_of t) (distances_in t) (names_in t)) (sym passed)

    module _ (before after : List ℕ) (lo : length before ≡ max_text) where
      asked : (x : Result ℕ Refusal) → WriteAnswer n da na before after x → answer_of x ≡ again_tests t
      asked x w = w.answer ∙ keeps (matter_tests n da na) (test 15 (not (eqb (length before) max_text))) (λ _. rw (eq-eqb (length before) max_text lo)) ∙ rest

      pub matter_refused : (q : Refusal) → WriteAnswer n da na before after (Err q) → refusal_of q ≡ again_tests t
      matter_refused q w = asked (Err q) w

      pub written-text : (next : ℕ) → WriteAnswer n da na before after (Ok next) → Wrote before after 0 (again_text t) next
      unfolding again_text
      written-text next w = subst (λ (l : List ℕ). Wrote before after 0 l next)
          (ap (λ (k : ℕ). text_of k da na) strains ∙ ap₂ (text_of (count_of t)) holds.distances_are holds.names_are
          ∙ ap (λ (y : Answer). by_answer y (text_of (count_of t) (distances_in t) (names_in t))) (asked (Ok next) w))
          w.written
