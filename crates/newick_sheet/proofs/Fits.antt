-- What the first three records hold, judged by the plain rule; the lengths of what passes, rounded.
use mathlib.Core.Path.{◌≡◌, sym, ◌∙◌, ap, ap₂}
use mathlib.Core.Bool.{cond}
use mathlib.Core.List.{List}
use Prim.Native.Nat.{ℕ, ◌-◌, ◌≤◌, ◌<◌}
use native.Mathlib.Omega.{arith}
use borrow.Author.Tests.{lt-ltb}
use lib.Dec.{ltb}
use lib.IntN.{ℤ, pos}
use lib.ListN.{length, get_or, take, drop}
use lib.Seq.{length-take-le, get_or-take}
use Rattle.exact.specs.Nearest.{nearest}
use Rattle.exact.specs.Table.{table, entry_of}
use Rattle.exact.proofs.Fill.{length-table, get_or_table, table_is}
use Rattle.verdict.specs.Answer.{Answer, pass, refusal_of, ◌or_else◌}
use Rattle.verdict.specs.declared.Rule.TheVariants.{Plain}
use Rattle.std.specs.Prelude.{Ok, Err}
use Rattle.verdict.specs.declared.Refusal.{Refusal}
use Rattle.verdict.proofs.Answers.{or_else_pass}
use Rattle.tree_theory.specs.Limits.{max_edges}
use Rattle.tree_theory.proofs.Checked.{→allowed}
use Rattle.lengths.specs.Proper.{Proper}
use Rattle.lengths.specs.Tests.{lengths_tests, sign_tests}
use Rattle.lengths.proofs.Checked.{→proper}
use Rattle.fit_theory.specs.Quantities.{rounded_of}
use Rattle.fit_theory.specs.Tests.{proposal_tests, sums_tests}
use Rattle.records.specs.Form.{form_tests}
use Rattle.reading.specs.declared.Sheet.{Sheet}
use Rattle.reading.specs.Holds.{strains_of, parents_of, denominator_of, numerators_of}
use Rattle.reading.specs.Reads.{SheetAnswer}
use Rattle.reading.specs.Tests.{held_tests}
use Rattle.reading.proofs.Parts.{Parts, Lengths, accepted, read-parts, read-lengths, of-lengths}
use Rattle.reading.proofs.Whole.{held-asked, held-refused}
use Rattle.newick_sheet.specs.declared.Fitting.{Fitting}
use Rattle.newick_sheet.specs.Named.{thousandths_of, FittingAnswer}

module _ (s : List ℕ) (form : form_tests 4 s ≡ pass) where
  pub reader_refused : (q : Refusal) → SheetAnswer 4 s (Err q) → refusal_of q ≡ held_tests Plain s
  reader_refused q a = held-refused 4 (omega arith) Plain s form q a.answer

  module _ (r : Sheet) (a : SheetAnswer 4 s (Ok r)) where
    h : Parts s r
    h = read-parts 4 s r (omega arith) a

    l : Lengths s r
    l = read-lengths 4 s r (omega arith) a

    abbrev asked : Answer
    asked = proposal_tests Plain r.strains (take r.pairs r.distances) (take (r.end - r.parents) (drop r.parents s)) r.denominator (take r.edges r.numerators)

    -- what is asked of the parts is what the sheet is asked
    pub told : (v : Answer) → v ≡ asked → v ≡ held_tests Plain s
    told v j = of-lengths h l (λ n ds ps d ns. v ≡ proposal_tests Plain n ds ps d ns) j ∙ sym (held-asked 4 (omega arith) Plain s form (accepted 4 s r a))

    module _ (j : pass ≡ asked) where
      pub proper : Proper (length (take (r.end - r.parents) (drop r.parents s))) r.denominator (take r.edges r.numerators)
      proper =
          let n = r.strains in
          let ds = take r.pairs r.distances in
          let ps = take (r.end - r.parents) (drop r.parents s) in
          let ns = take r.edges r.numerators in
          →proper (length ps) r.denominator ns (or_else_pass (lengths_tests (length ps) r.denominator ns) (sign_tests Plain ns or_else sums_tests Plain n ds ps r.denominator ns) (sym j)).0

      module _ (x : Fitting) (lengths : x.lengths ≡ table max_edges (λ v. cond (ltb v r.edges) (nearest r.denominator (entry_of (take r.edges r.numerators) v)) (pos 0)))
          (c : x.strains ≡ r.strains) (d : x.parents ≡ r.parents) (g : x.end ≡ r.end) (i : x.edges ≡ r.edges) where
        enough : x.edges ≤ length x.lengths
        enough = omega (arith, l.few, ap length lengths ∙ length-table max_edges _)

        rounded-is : take x.edges x.lengths ≡ thousandths_of s
        rounded-is =
            table_is (pos 0) (rounded_of (denominator_of s) (numerators_of s)) (length (parents_of s)) (take x.edges x.lengths)
            (length-take-le x.edges x.lengths enough ∙ i ∙ l.count)
            (λ k m. let low : k < r.edges = omega (arith, l.count) in
            get_or-take x.edges x.lengths k (pos 0) (omega arith)
            ∙ ap (λ (t : List ℤ). get_or t k (pos 0)) lengths
            ∙ get_or_table max_edges (λ v. cond (ltb v r.edges) (nearest r.denominator (entry_of (take r.edges r.numerators) v)) (pos 0)) (pos 0) k (omega (arith, l.few))
            ∙ simp (lt-ltb k r.edges low, l.denominator, l.numerators))

        pub judge_passed : FittingAnswer s (Ok x)
        judge_passed = record {
          answer = told pass j;
          fitted = record {
            allowed = →allowed (strains_of s) (parents_of s) h.shaped.tree;
            strains = c ∙ h.strains;
            starts = omega (arith, h.starts);
            ends = omega (arith, h.ends);
            parents = ap₂ (λ (y z : ℕ). take (y - z) (drop z s)) g d ∙ h.parents;
            room = enough;
            size = sym (length-take-le x.edges x.lengths enough);
            lengths = rounded-is;
          };
        }
