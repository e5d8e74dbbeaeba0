-- How an answer makes the report: a refusal reports nothing, a fit its numbers.
use mathlib.Core.Path.{◌≡◌, refl, sym, ◌∙◌, ap}
use mathlib.Core.List.{List}
use mathlib.Core.Logic.{◌≢◌}
use Prim.Native.Nat.{ℕ}
use borrow.Author.Tests.{eq-eqb, ne_eqb}
use lib.IntN.{ℤ}
use lib.ListN.{length}
use Rattle.verdict.specs.Answer.{Answer, pass, refusal_of, test, ◌or_else◌}
use Rattle.verdict.specs.declared.Refusal.{Refusal}
use Rattle.std.specs.Prelude.{Result, Ok, Err}
use Rattle.verdict.specs.declared.Rule.{Rule}
use Rattle.verdict.proofs.Answers.{or_else_assoc}
use Rattle.fit_theory.specs.Stands.{Posted, Stands}
use Rattle.fit_theory.specs.Tests.{buffer_out, posted_tests, proposal_tests, report_tests}
use Rattle.fit_theory.proofs.Exactly.{→posted, proposal-stands}
use Rattle.tables.proofs.Lent.{no_room}
use Rattle.reporting.specs.declared.FitReport.{FitReport}
use Rattle.reporting.specs.Answers.{Reported, Report, proposal_report_tests, ProposalReport, ReportAnswer}

module _ (rule : Rule) (N : ℕ) (ds ps : List ℕ) (D : ℕ) (ns before : List ℤ) where
  -- whatever the reason, a refusal keeps the buffer
  refused : (k : Answer) (q : Refusal) → refusal_of q ≡ k → Report k rule N ds ps D ns before before (Err q)
  refused k q g = record { answer = g; reported = tt; kept = refl }

  -- ---- beside a matrix and a tree that pass
  pub proposal-refused : (q : Refusal) → refusal_of q ≡ proposal_tests rule N ds ps D ns → ProposalReport rule N ds ps D ns before before (Err q)
  proposal-refused q e = refused _ q (ap (λ (k : Answer). k or_else test 15 (buffer_out (length before) (length ps))) e)

  module _ (none : pass ≡ proposal_tests rule N ds ps D ns) where
    pub accepted-stands : Posted N ds ps → Stands rule N ds ps D ns
    accepted-stands p = proposal-stands rule N ds ps D ns p (sym none)

    -- the buffer is not of the exact length
    pub proposal-buffer : length before ≢ length ps → ProposalReport rule N ds ps D ns before before (Err no_room)
    proposal-buffer h = refused _ no_room (rw (sym none, ne_eqb (length before) (length ps) h))

    -- the fit
    pub proposal-fit : (after : List ℤ) (x : FitReport) → length before ≡ length ps → Reported rule N ds ps D ns after x → ProposalReport rule N ds ps D ns before after (Ok x)
    proposal-fit after x h g = record { answer = rw (sym none, eq-eqb (length before) (length ps) h); reported = g; kept = tt }

  -- ---- all that is lent
  in_order : (posted_tests N ds ps or_else proposal_report_tests rule N ds ps D ns (length before)) ≡ report_tests rule N ds ps D ns (length before)
  in_order = sym (or_else_assoc (posted_tests N ds ps) (proposal_tests rule N ds ps D ns) (test 15 (buffer_out (length before) (length ps))))

  pub report-refused : (q : Refusal) → refusal_of q ≡ posted_tests N ds ps → ReportAnswer rule N ds ps D ns before before (Err q)
  report-refused q e = refused _ q (ap (λ (k : Answer). k or_else proposal_report_tests rule N ds ps D ns (length before)) e ∙ in_order)

  module _ (none : pass ≡ posted_tests N ds ps) where
    pub report-posted : Posted N ds ps
    report-posted = →posted N ds ps (sym none)

    pub report-proposal : (after : List ℤ) (r : Result FitReport Refusal) → ProposalReport rule N ds ps D ns before after r → ReportAnswer rule N ds ps D ns before after r
    report-proposal after r p = record {
      answer = p.answer ∙ ap (λ (k : Answer). k or_else proposal_report_tests rule N ds ps D ns (length before)) none ∙ in_order;
      reported = p.reported;
      kept = p.kept;
    }
