-- A report on a desk leaves one result and one content of the buffer (`one-report`): in a bench's name stands one table.
use mathlib.Core.Path.{◌≡◌, sym, ◌∙◌, ap, subst}
use mathlib.Core.List.{List}
use Prim.Native.Nat.{ℕ}
use lib.IntN.{ℤ}
use Rattle.std.specs.Prelude.{Result, Ok, Err}
use Rattle.verdict.specs.declared.Refusal.{Refusal}
use Rattle.verdict.specs.declared.Rule.TheVariants.{Plain}
use Rattle.verdict.proofs.Answers.{same_refusal, not_pass}
use Rattle.reporting.specs.declared.FitReport.{FitReport}
use Rattle.reporting.proofs.OneReport.{one-fit}
use Rattle.desk.specs.declared.Desk.{Desk}
use Rattle.desk.specs.declared.Standing.{Standing}
use Rattle.desk.specs.Held.{matrix_of, tree_of, numerators_of, IsStanding}
use Rattle.desk.proofs.Settled.{one-standing}
use Rattle.desk_report.specs.Reports.{OnPosting, DeskReport}

module _ (d : Desk) (b : ℕ) (before after after' : List ℤ) where
  -- of tables that stand in one bench's name
  same-numbers : (x y : FitReport) → (s : Standing) × IsStanding d b s × OnPosting s.posted.posting s.table after x
      → (t : Standing) × IsStanding d b t × OnPosting t.posted.posting t.table after' y → (x ≡ y) × (after ≡ after')
  same-numbers x y (s, i, p) (t, j, q) =
      let p' = subst (λ (u : Standing). OnPosting u.posted.posting u.table after x) (one-standing d b s t i j) p in
      let z = t.posted.posting in (
        one-fit Plain Plain z.n (matrix_of z) (tree_of z) t.table.d (numerators_of z.edges t.table) after after' x y p' q,
        p'.rounded ∙ sym q.rounded,
      )

  pub one-report : (x y : Result FitReport Refusal) → DeskReport d b before after x → DeskReport d b before after' y → (x ≡ y) × (after ≡ after')
  one-report (Ok x) (Ok y) p q = let (e, f) = same-numbers x y p.reported q.reported in (ap Ok e, f)
  one-report (Ok x) (Err r) p q = absurd (not_pass r (q.answer ∙ sym p.answer))
  one-report (Err r) (Ok y) p q = absurd (not_pass r (p.answer ∙ sym q.answer))
  one-report (Err r) (Err t) p q = (ap Err (same_refusal r t (p.answer ∙ sym q.answer)), p.kept ∙ sym q.kept)
