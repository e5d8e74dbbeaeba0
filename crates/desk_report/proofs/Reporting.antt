-- A bench's report by its answer: the bench's tests, then the buffer's length, then the numbers of a table that stands.
use mathlib.Core.Path.{◌≡◌, refl, sym, ◌∙◌, ap}
use mathlib.Core.Bool.{Bool, not}
use mathlib.Core.List.{List}
use mathlib.Core.Logic.{◌≢◌}
use Prim.Native.Nat.{ℕ, ◌≤◌}
use native.Mathlib.Omega.{arith}
use borrow.Author.Tests.{eq-eqb, ne_eqb}
use lib.IntN.{ℤ}
use lib.ListN.{length, length-take}
use lib.Seq.{length-take-le}
use Rattle.std.specs.Prelude.{Option, Ok, Err}
use Rattle.verdict.specs.Answer.{Answer, fault, refusal_of, test, ◌or_else◌}
use Rattle.verdict.specs.declared.Place.TheVariants.{Nowhere}
use Rattle.verdict.specs.declared.Refusal.{Refusal}
use Rattle.tree_theory.specs.Limits.{max_edges}
use Rattle.fit_theory.specs.Tests.{buffer_out}
use Rattle.reporting.specs.declared.FitReport.{FitReport}
use Rattle.desk_theory.specs.Desk as calls
use Rattle.desk.specs.declared.Posted.{Posted}
use Rattle.desk.specs.declared.Desk.{Desk}
use Rattle.desk.specs.declared.Standing.{Standing}
use Rattle.desk.specs.Held.{tree_of, desk_of, PostingHeld, TableHeld, Held, StandsFor}
use Rattle.desk.proofs.Holding.{buffer_tests, report-asked, posted-held, table-held}
use Rattle.desk_report.specs.Reports.{OnPosting, DeskReport}

module _ (d : Desk) (b : ℕ) (before : List ℤ) where
  abbrev asked : Answer
  asked = calls.answer (desk_of d) (calls.report b (length before))

  -- the bench's tests refuse
  pub bench-refused : (q : Refusal) → StandsFor d b (Err q) → DeskReport d b before before (Err q)
  bench-refused q g = record {
    answer = ap (λ (a : Answer). a or_else buffer_tests d.posted (length before)) g.answer ∙ sym (report-asked d b (length before));
    reported = tt;
    kept = refl;
  }

  module _ (s : Standing) (g : StandsFor d b (Ok s)) (h : Held d) where
    pub posting-held : PostingHeld s.posted.posting
    posting-held = (posted-held d s.posted h g.standing.posted).posting

    pub its-table-held : TableHeld s.posted.posting s.table
    its-table-held = table-held s.posted b s.table (posted-held d s.posted h g.standing.posted) g.standing.table

    edges : length (tree_of s.posted.posting) ≡ s.posted.posting.edges
    edges = let p = posting-held in length-take-le s.posted.posting.edges s.posted.posting.parents (omega (arith, p.few-edges, p.room-edges))

    rest : test 15 (buffer_out (length before) (length (tree_of s.posted.posting))) ≡ asked
    rest = ap (λ (p : Option Posted). buffer_tests p (length before)) (sym g.standing.posted)
        ∙ ap (λ (a : Answer). a or_else buffer_tests d.posted (length before)) g.answer ∙ sym (report-asked d b (length before))

    pub buffer-refused : (q : Refusal) → refusal_of q ≡ fault 15 Nowhere → length before ≢ s.posted.posting.edges → DeskReport d b before before (Err q)
    buffer-refused q e n = record {
      answer = e ∙ ap (λ (x : Bool). test 15 (not x)) (sym (ne_eqb (length before) (length (tree_of s.posted.posting)) (λ z. n (z ∙ edges)))) ∙ rest;
      reported = tt;
      kept = refl;
    }

    pub fitted : (after : List ℤ) (x : FitReport) → length before ≡ s.posted.posting.edges → OnPosting s.posted.posting s.table after x → DeskReport d b before after (Ok x)
    fitted after x e r = record {
      answer = ap (λ (y : Bool). test 15 (not y)) (sym (eq-eqb (length before) (length (tree_of s.posted.posting)) (e ∙ sym edges))) ∙ rest;
      reported = (s, g.standing, r);
      kept = tt;
    }

-- a report has at most as many edges as a tree may have
pub few-edges : (d : Desk) (b : ℕ) (before after : List ℤ) (x : FitReport) → Held d → DeskReport d b before after (Ok x) → x.edges ≤ max_edges
few-edges d b before after x h r = let (s, is, q) = r.reported in
    omega (arith, q.edges, length-take s.posted.posting.edges s.posted.posting.parents, (posted-held d s.posted h is.posted).posting.few-edges)
