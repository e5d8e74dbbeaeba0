-- A refusal is written as its line; what passes stands, and its pairs are written.
use mathlib.Core.Path.{◌≡◌, sym, ◌∙◌, ap, subst}
use mathlib.Core.List.{List}
use Prim.Native.Nat.{ℕ, ◌-◌, ◌<◌}
use lib.ListN.{take, drop}
use Rattle.verdict.specs.Answer.{Answer, pass, reason_number, refusal_of, ◌or_else◌}
use Rattle.std.specs.Prelude.{Ok}
use native.Mathlib.Omega.{arith}
use Rattle.verdict.specs.declared.Refusal.{Refusal}
use Rattle.verdict.specs.declared.Rule.TheVariants.{Plain}
use Rattle.verdict.proofs.Answers.{not_pass}
use Rattle.fit_theory.specs.Stands.{Stands}
use Rattle.fit_theory.specs.Tests.{proposal_tests}
use Rattle.fit_theory.proofs.Exactly.{proposal-stands}
use Rattle.writing.specs.Text.{Wrote}
use Rattle.lines.specs.Lines.{refused_line}
use Rattle.answer_lines.specs.Texts.{by_answer}
use Rattle.records.specs.Form.{form_tests}
use Rattle.reading.specs.declared.Sheet.{Sheet}
use Rattle.reading.specs.Holds.{strains_of, distances_of, parents_of, denominator_of, numerators_of}
use Rattle.reading.specs.Reads.{SheetAnswer}
use Rattle.reading.specs.Tests.{read_tests, held_tests}
use Rattle.reading.proofs.Parts.{Parts, Lengths, accepted, read-parts, read-posted, read-lengths, of-lengths}
use Rattle.reading.proofs.Whole.{lengths-asked, lengths-refused}
use Rattle.pair_lines.specs.Lines.{pairs_text, NamesFrom}
use Rattle.paths_pages.specs.Texts.{pairs_of_sheet}

-- a refusal that is the answer, as it is written
pub refusal-written : {b c : List ℕ} {next : ℕ} (x : Answer) (fit : List ℕ) (q : Refusal) (k : ℕ) → refusal_of q ≡ x → k ≡ reason_number q.reason
    → Wrote b c 0 (refused_line k q.place) next → Wrote b c 0 (by_answer x fit) next
refusal-written {b} {c} {next} x fit q k e f w =
    subst (λ (l : List ℕ). Wrote b c 0 l next) (ap (λ (y : ℕ). refused_line y q.place) f ∙ ap (λ (y : Answer). by_answer y fit) e) w

module _ (count : ℕ) (three : 2 < count) (s : List ℕ) where
  abbrev answer : Answer
  answer = form_tests count s or_else held_tests Plain s

  pub reader_refused : (q : Refusal) → refusal_of q ≡ read_tests count s → refusal_of q ≡ answer
  reader_refused q told = told ∙ sym (lengths-refused count three Plain s (λ z. not_pass q (told ∙ z)))

  module _ (r : Sheet) (a : SheetAnswer count s (Ok r)) where
    pub held : Parts s r
    held = read-parts count s r (omega arith) a

    pub proposed : Lengths s r
    proposed = read-lengths count s r three a

    -- what the lengths are answered is what the sheet is
    pub told : (x : Answer) → x ≡ proposal_tests Plain r.strains (take r.pairs r.distances) (take (r.end - r.parents) (drop r.parents s)) r.denominator (take r.edges r.numerators)
        → x ≡ answer
    told x e = of-lengths held proposed (λ n ds ps d ns. x ≡ proposal_tests Plain n ds ps d ns) e ∙ sym (lengths-asked count three Plain s (accepted count s r a))

    -- the names that were lent are those of the strains that were read
    pub called : (names : List ℕ) (from : ℕ) → (read_tests count s ≡ pass → NamesFrom names from (strains_of s)) → NamesFrom names from r.strains
    called names from f = rw held.strains (f (accepted count s r a))

    module _ (e : pass ≡ answer) where
      pub stands : Stands Plain r.strains (take r.pairs r.distances) (take (r.end - r.parents) (drop r.parents s)) r.denominator (take r.edges r.numerators)
      stands = rw (held.strains, held.distances, held.parents, proposed.denominator, proposed.numerators)
          (proposal-stands Plain (strains_of s) (distances_of s) (parents_of s) (denominator_of s) (numerators_of s) (read-posted count s r three a)
          (sym (e ∙ lengths-asked count three Plain s (accepted count s r a))))

      pub pairs-written : {b c : List ℕ} {next : ℕ} (label : ℕ → List ℕ)
          → Wrote b c 0 (pairs_text label r.strains (take r.pairs r.distances) (take (r.end - r.parents) (drop r.parents s)) r.denominator (take r.edges r.numerators)) next
          → Wrote b c 0 (by_answer answer (pairs_of_sheet label s)) next
      pairs-written {b} {c} {next} label w = subst (λ (x : Answer). Wrote b c 0 (by_answer x (pairs_of_sheet label s)) next) e
          (of-lengths held proposed (λ n ds ps d ns. Wrote b c 0 (pairs_text label n ds ps d ns) next) w)
