-- A bench is shown the text of its table wherever its tests pass (`shown-is`): the numbers of the table that stands are
-- that text (`numbers-shown`), so is the report that a desk gives (`report-shown`; where it refuses, `none-reported`),
-- and so are the pairs (`pairs-shown`).
use mathlib.Core.Path.{◌≡◌, refl, sym, ◌∙◌, ap, ap₂, subst}
use mathlib.Core.Bool.{Bool, true, false, cond, not}
use mathlib.Core.List.{List, [], ◌∷◌, ◌++◌}
use Prim.Native.Nat.{ℕ, zero, suc, ◌<◌}
use native.Mathlib.Omega.{arith}
use borrow.Author.Tests.{eq-eqb}
use lib.IntN.{ℤ, pos}
use lib.ListN.{length, get_or, take}
use lib.Seq.{length-take-le, get_or-take}
use Rattle.exact.specs.Table.{table, entry_of}
use Rattle.exact.proofs.Fill.{length-table, get_or_table}
use Rattle.verdict.specs.Answer.{Answer, pass, fault, refusal_of, test, ◌or_else◌}
use Rattle.verdict.specs.declared.Rule.TheVariants.{Plain}
use Rattle.tree_theory.specs.Limits.{max_edges}
use Rattle.fit_theory.specs.Quantities.{rounded_of}
use Rattle.writing.specs.Text.{Wrote}
use Rattle.lines.specs.Lines.{fit_text}
use Rattle.reporting.specs.declared.FitReport.{FitReport}
use Rattle.answer_lines.specs.Texts.{by_answer}
use Rattle.answer_lines.proofs.Fits.{report-is}
use Rattle.desk_theory.specs.Desk as calls
use Rattle.desk_text.specs.declared.View.{View}
use Rattle.desk_text.specs.declared.View.TheVariants as views
use Rattle.desk.specs.declared.Table.{Table}
use Rattle.desk.specs.declared.Posted.{Posted}
use Rattle.desk.specs.declared.Desk.{Desk}
use Rattle.desk.specs.declared.Standing.{Standing}
use Rattle.desk.specs.Held.{matrix_of, tree_of, numerators_of, posting_of, table_of, posted_of, desk_of, bench_table}
use Rattle.desk.specs.Held.{standing_tests, PostedHeld, Held, StandsFor}
use Rattle.desk.proofs.Holding.{buffer_tests, report-asked, standing-passed, bench-named, posted-held}
use Rattle.desk.proofs.Settled.{one-standing}
use Rattle.desk_report.specs.Reports.{OnPosting, DeskReport}
use Rattle.desk_pairs.specs.Pairs.{its_pairs, shown_pairs, pairs_on}
use Rattle.desk_shows.specs.Shows.{edges_of, table_text, show_text, ShownReport}
use Rattle.std.specs.Prelude.{Option, Some, None, Ok, Err}
use Rattle.verdict.specs.declared.Refusal.{Refusal}
use Rattle.verdict.proofs.Answers.{not_pass}

get_d_front : (xs ys : List ℤ) (v : ℕ) → v < length xs → get_or (xs ++ ys) v (pos 0) ≡ get_or xs v (pos 0)
get_d_front [] ys v h = absurd (omega arith)
get_d_front (x ∷ xs) ys zero h = refl
get_d_front (x ∷ xs) ys (suc v) h = get_d_front xs ys v (omega arith)

pub by-answer_cong : (a b : Answer) (s t : List ℕ) → a ≡ b → (b ≡ pass → s ≡ t) → by_answer a s ≡ by_answer b t
by-answer_cong a pass s t e h = ap (λ (x : Answer). by_answer x s) e ∙ h refl
by-answer_cong a (fault k p) s t e h = ap (λ (x : Answer). by_answer x s) e

or_pass : (a : Answer) → (a or_else pass) ≡ a
or_pass pass = refl
or_pass (fault k p) = refl

-- the buffer that a bench gets is of the size that the posted tree asks for
whole-buffer : (p : Option Posted) → buffer_tests p (edges_of (posted_of p).posting) ≡ pass
whole-buffer None = refl
whole-buffer (Some x) = ap (λ (q : Bool). test 15 (not q)) (eq-eqb (length (tree_of x.posting)) (length (tree_of x.posting)) refl)

module _ (d : Desk) (b : ℕ) where
  -- so a bench is asked 20 and 21 alone
  asked : calls.answer (desk_of d) (calls.report b (edges_of (desk_of d).posting)) ≡ standing_tests d b
  asked = report-asked d b (edges_of (desk_of d).posting) ∙ ap (λ (a : Answer). standing_tests d b or_else a) (whole-buffer d.posted) ∙ or_pass (standing_tests d b)

  shown-is : (v : View) (a : Answer) (text : List ℕ) → a ≡ standing_tests d b → (standing_tests d b ≡ pass → text ≡ table_text v (desk_of d).posting ((desk_of d).tables b)) → by_answer a text ≡ show_text (desk_of d) v b
  unfolding show_text
  shown-is v a text e f = by-answer_cong a (calls.answer (desk_of d) (calls.report b (edges_of (desk_of d).posting))) text _ (e ∙ sym asked) (λ p. f (sym asked ∙ p))

  -- ---- the pairs
  pairs_are : standing_tests d b ≡ pass → shown_pairs d.posted b ≡ table_text views.Pairs (desk_of d).posting ((desk_of d).tables b)
  pairs_are e = go d.posted
    where
      its : (x : Posted) (t : Option Table) → its_pairs x.posting t ≡ table_text views.Pairs (posting_of x.posting) (table_of x.posting.edges t)
      its x None = refl
      its x (Some t) = refl

      go : (p : Option Posted) → shown_pairs p b ≡ table_text views.Pairs (posted_of p).posting ((posted_of p).tables b)
      go None = refl
      go (Some x) = its x (bench_table x b) ∙ sym (ap (table_text views.Pairs (posting_of x.posting)) (bench-named x b (standing-passed d b e)))

  pub pairs-shown : (before after : List ℕ) (next : ℕ) → Wrote before after 0 (pairs_on d b) next → Wrote before after 0 (show_text (desk_of d) views.Pairs b) next
  pairs-shown before after next w = subst (λ (s : List ℕ). Wrote before after 0 s next) (shown-is views.Pairs (standing_tests d b) (shown_pairs d.posted b) refl pairs_are) w

  -- ---- the report
  -- what the tests refuse shows its refusal
  refused-shown : (q : Refusal) → refusal_of q ≡ standing_tests d b → ShownReport d b (Err q)
  refused-shown q e = record {
    few = tt;
    text = shown-is views.Report (refusal_of q) [] e (λ p. absurd (not_pass q (e ∙ p)));
  }

  pub none-stands : (q : Refusal) → StandsFor d b (Err q) → ShownReport d b (Err q)
  none-stands q g = refused-shown q g.answer

  module _ (h : Held d) (s : Standing) (g : StandsFor d b (Ok s)) where
    pub held-there : PostedHeld s.posted
    held-there = posted-held d s.posted h g.standing.posted

    edges-size : length (tree_of s.posted.posting) ≡ s.posted.posting.edges
    edges-size = let p = held-there.posting in length-take-le s.posted.posting.edges s.posted.posting.parents (omega (arith, p.few-edges, p.room-edges))

    edges_are : edges_of (desk_of d).posting ≡ s.posted.posting.edges
    edges_are = ap (λ (p : Option Posted). edges_of (posted_of p).posting) g.standing.posted ∙ edges-size

    -- room for the rounded lengths at the front of a table of zeros
    pub front-size : (zeros : List ℤ) → zeros ≡ table max_edges (λ _. pos 0) → s.posted.posting.edges ≡ length (take s.posted.posting.edges zeros)
    front-size zeros e = sym (length-take-le s.posted.posting.edges zeros (let n = ap length e ∙ length-table max_edges (λ _. pos 0) in omega (arith, n, held-there.posting.few-edges)))

    module _ (zeros after : List ℤ) (blank : zeros ≡ table max_edges (λ _. pos 0)) where
      pub numbers-shown : (back : List ℤ) (x : FitReport) → OnPosting s.posted.posting s.table after x
          → ShownReport d b (Ok (record { report = x; numerators = s.table.numerators; rounded = after ++ back }))
      numbers-shown back x p = record {
        few = omega (arith, p.edges, edges-size, held-there.posting.few-edges);
        text = shown-is views.Report pass _ g.answer (λ e. of-table p ∙ named e);
      }
        where
          named : standing_tests d b ≡ pass → table_text views.Report (posting_of s.posted.posting) (table_of s.posted.posting.edges (Some s.table)) ≡ table_text views.Report (desk_of d).posting ((desk_of d).tables b)
          named e = ap (λ (t : Option Table). table_text views.Report (posting_of s.posted.posting) (table_of s.posted.posting.edges t)) (sym g.standing.table)
              ∙ sym (ap (table_text views.Report (posting_of s.posted.posting)) (bench-named s.posted b (standing-passed d b e)))
              ∙ sym (ap (λ (p : Option Posted). table_text views.Report (posted_of p).posting ((posted_of p).tables b)) g.standing.posted)

          of-table : OnPosting s.posted.posting s.table after x
              → fit_text Plain x.strains x.edges x.denominator (entry_of s.table.numerators) (entry_of (after ++ back)) x.length x.f x.r x.h x.mean ≡ table_text views.Report (posting_of s.posted.posting) (table_of s.posted.posting.edges (Some s.table))
          of-table p = let y = s.posted.posting in let ns = numerators_of y.edges s.table in
              report-is Plain y.n (matrix_of y) (tree_of y) s.table.d ns after x p
              (entry_of s.table.numerators) (entry_of (after ++ back))
              (λ v l. sym (get_or-take y.edges s.table.numerators v (pos 0) (omega (arith, l, edges-size))))
              (λ v l. get_d_front after back v (let n = ap length p.rounded ∙ length-table (length (tree_of y)) (rounded_of s.table.d ns) in omega (arith, l, n))
              ∙ ap (λ (z : List ℤ). entry_of z v) p.rounded ∙ get_or_table (length (tree_of y)) (rounded_of s.table.d ns) (pos 0) v l)

      -- the same of what the desk's report says of that room
      as-asked : calls.answer (desk_of d) (calls.report b (length (take s.posted.posting.edges zeros)))
          ≡ standing_tests d b
      as-asked = ap (λ (n : ℕ). calls.answer (desk_of d) (calls.report b n))
          (sym (front-size zeros blank) ∙ sym edges_are) ∙ asked

      pub none-reported : (q : Refusal) → DeskReport d b (take s.posted.posting.edges zeros) after (Err q)
          → ShownReport d b (Err q)
      none-reported q r = refused-shown q (r.answer ∙ as-asked)

      pub report-shown : (back : List ℤ) (x : FitReport)
          → DeskReport d b (take s.posted.posting.edges zeros) after (Ok x)
          → ShownReport d b (Ok (record { report = x; numerators = s.table.numerators; rounded = after ++ back }))
      report-shown back x r = let (t, i, p) = r.reported in
          numbers-shown back x (subst (λ (u : Standing). OnPosting u.posted.posting u.table after x)
          (one-standing d b t s i g.standing) p)

-- what the match told was asked for
pub shown_as : (d : calls.Desk) (v v' : View) (b : ℕ) (before after : List ℕ) (next : ℕ) → v ≡ v' → Wrote before after 0 (show_text d v' b) next → Wrote before after 0 (show_text d v b) next
shown_as d v v' b before after next e w = subst (λ (x : View). Wrote before after 0 (show_text d x b) next) (sym e) w
