-- The report on a sheet, from what its reader handed over: a refusal is the sheet's (`refused-sheet`), and so is what is found of the
-- lengths (`asked`); a fit has its numbers and its two tables (`fitted-sheet`).
use mathlib.Core.Path.{◌≡◌, refl, sym, ◌∙◌, ap, ap₂, subst}
use mathlib.Core.List.{List, ◌++◌}
use Prim.Native.Nat.{ℕ, ◌+◌, ◌-◌, ◌≤◌, ◌<◌}
use native.Mathlib.Omega.{arith}
use borrow.Author.Tests.{eq-eqb}
use lib.IntN.{ℤ, pos}
use lib.ListN.{length, take, drop, length-drop}
use lib.Seq.{length-take-le, get_or-drop}
use Rattle.exact.specs.Table.{table, entry_of}
use Rattle.exact.proofs.Fill.{length-table, get_or_table, get_or_table_const}
use Rattle.verdict.specs.Answer.{Answer, pass, fault, answer_of, test, ◌or_else◌}
use Rattle.verdict.specs.declared.Refusal.{Refusal}
use Rattle.std.specs.Prelude.{Result, Ok}
use Rattle.verdict.specs.declared.Rule.{Rule}
use Rattle.tree_theory.specs.Limits.{max_edges}
use Rattle.tree_theory.specs.EdgeTable.{EdgeTable}
use Rattle.tree_theory.proofs.EdgeTables.{front_kept, padded-kept}
use Rattle.fit_theory.specs.Quantities.{rounded_of}
use Rattle.fit_theory.specs.Tests.{buffer_out, proposal_tests}
use Rattle.reading.specs.declared.Sheet.{Sheet}
use Rattle.reading.specs.Holds.{strains_of, distances_of, parents_of, denominator_of, edges_of, numerator_at, numerators_of}
use Rattle.reading.specs.Reads.{Held, SheetAnswer}
use Rattle.reading.specs.Tests.{read_tests, sheet_tests}
use Rattle.reading.proofs.Parts.{Parts, Lengths, accepted, read-parts, read-lengths, of-lengths}
use Rattle.reading.proofs.Whole.{sheet-asked}
use Rattle.reporting.specs.declared.FitReport.{FitReport}
use Rattle.reporting.specs.Answers.{Reported, ProposalReport}
use Rattle.sheet.specs.declared.SheetFit.{SheetFit}
use Rattle.sheet.specs.Reports.{Fitted, SheetReport}

last_none : (a : Answer) → (a or_else pass) ≡ a
last_none pass = refl
last_none (fault k p) = refl

module _ (rule : Rule) (s : List ℕ) (r : Sheet) (a : SheetAnswer 3 s (Ok r)) (zeros : List ℤ) (blank : zeros ≡ table max_edges (λ _. pos 0)) where
  parts : Parts s r
  parts = read-parts 3 s r (omega arith) a

  lengths : Lengths s r
  lengths = read-lengths 3 s r (omega arith) a

  size : length zeros ≡ max_edges
  size = ap length blank ∙ length-table max_edges (λ _. pos 0)

  -- the front of a table of zeros has room for each edge
  pub front-there : r.edges ≤ length zeros
  front-there = omega (arith, size, lengths.few)

  pub front-size : r.edges ≡ length (take r.edges zeros)
  front-size = sym (length-take-le r.edges zeros front-there)

  module _ (after : List ℤ) (x : Result FitReport Refusal)
      (p : ProposalReport rule r.strains (take r.pairs r.distances) (take (r.end - r.parents) (drop r.parents s)) r.denominator (take r.edges r.numerators) (take r.edges zeros) after x) where
    whole : ProposalReport rule (strains_of s) (distances_of s) (parents_of s) (denominator_of s) (numerators_of s) (take r.edges zeros) after x
    whole = of-lengths parts lengths (λ n ds ps d ns. ProposalReport rule n ds ps d ns (take r.edges zeros) after x) p

    -- the buffer is of the exact length
    right : test 15 (buffer_out (length (take r.edges zeros)) (length (parents_of s))) ≡ pass
    right = rw (eq-eqb (length (take r.edges zeros)) (length (parents_of s)) (sym front-size ∙ lengths.count))

    pub asked : answer_of x ≡ sheet_tests rule s
    asked = whole.answer
        ∙ ap (λ (k : Answer). proposal_tests rule (strains_of s) (distances_of s) (parents_of s) (denominator_of s) (numerators_of s) or_else k) right
        ∙ last_none (proposal_tests rule (strains_of s) (distances_of s) (parents_of s) (denominator_of s) (numerators_of s))
        ∙ sym (sheet-asked rule s (accepted 3 s r a))

  module _ (after : List ℤ) (x : FitReport)
      (p : ProposalReport rule r.strains (take r.pairs r.distances) (take (r.end - r.parents) (drop r.parents s)) r.denominator (take r.edges r.numerators) (take r.edges zeros) after (Ok x)) where
    reported : Reported rule (strains_of s) (distances_of s) (parents_of s) (denominator_of s) (numerators_of s) after x
    reported = (whole after (Ok x) p).reported

    few : length (parents_of s) ≤ max_edges
    few = omega (arith, lengths.count, lengths.few)

    rounded : EdgeTable (length (parents_of s)) (rounded_of (denominator_of s) (numerators_of s)) (after ++ drop r.edges zeros)
    rounded = front_kept (pos 0) (length (parents_of s)) (rounded_of (denominator_of s) (numerators_of s)) after (drop r.edges zeros) few reported.rounded
        (λ k. get_or-drop r.edges zeros k (pos 0) ∙ ap (λ (l : List ℤ). entry_of l (r.edges + k)) blank ∙ get_or_table_const max_edges (pos 0) (r.edges + k))
        (length-drop r.edges zeros ∙ ap₂ ◌-◌ size lengths.count)

    held : Held 3 s r
    held = a.held

    as_many : edges_of s ≡ length (parents_of s)
    as_many = sym held.edges ∙ lengths.count

    numerators : EdgeTable (length (parents_of s)) (entry_of (numerators_of s)) r.numerators
    numerators = let t = padded-kept (edges_of s) (numerator_at s) r.numerators (omega (arith, as_many, few)) held.numerators in record {
      size = t.size;
      entries = λ v l. t.entries v (omega (arith, as_many)) ∙ sym (get_or_table (edges_of s) (numerator_at s) (pos 0) v (omega (arith, as_many)));
      rest = λ v l. t.rest v (omega (arith, as_many));
    }

    pub fitted-sheet : SheetReport rule s (Ok (record { report = x; numerators = r.numerators; rounded = after ++ drop r.edges zeros }))
    fitted-sheet = record {
      answer = asked after (Ok x) p;
      fitted = record {
        reported = subst (λ (l : List ℤ). Reported rule (strains_of s) (distances_of s) (parents_of s) (denominator_of s) (numerators_of s) l x) reported.rounded reported;
        numerators = numerators;
        rounded = rounded;
      };
    }
