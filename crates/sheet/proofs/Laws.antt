-- For a customer that proves something from our contracts: every law that it cites, in one place.
-- Of answers: `same_answer`, `not_pass`, `passes`, `refused-row`, `accepted-row`, `or_else_pass`, `test_at-pass`, `test-pass`. Of proposals: `stands→`, `→stands`, `least`,
-- `f-range`, `r-range`, `one-fit`, `accepted-agree`. Of the two rules: `drawable`, `all-positive`, `sheet-drawable`, `drawable-report`. Of the mean
-- square: `missing-none`, `three-none`, `four-over`, `none-three`. Of complete matrices: `complete-posted`, `as_whole`. Of sheets:
-- `sheet-stands`, `sheet-agree`; `sheet-form`, `form-ends`, `record-at` and `third-record` for where the records stand by the starts that
-- `records` gives; `same-matrix`, `same_rows`: two sheets have one matrix exactly where their rows agree. Where a refusal points: `placed`,
-- `byte-placed`, `byte-within`. `computes` is what turns a row of tests that pass into `pass`. `back`: an i64 field of a report, which code has as bits, is
-- the number again.
use mathlib.Core.Path.{◌≡◌, sym, ◌∙◌, subst⁻¹}
use mathlib.Core.List.{List}
use Prim.Native.Nat.{ℕ, ◌≤◌, ◌<◌}
use native.Mathlib.Omega.{arith}
use lib.IntN.{ℤ, pos, ◌*ℤ◌}
use lib.ListN.{length, get_or}
use Rattle.exact.specs.Order.{◌≤ᶻ◌}
use Rattle.exact.specs.Table.{entry_of}
use Rattle.verdict.specs.Answer.{Answer, pass, test, ◌or_else◌}
use Rattle.std.specs.Prelude.{Result, Ok}
use Rattle.verdict.specs.declared.Refusal.{Refusal}
use Rattle.verdict.specs.declared.Rule.{Rule}
use Rattle.verdict.specs.declared.Rule.TheVariants.{Plain, Drawable}
use Rattle.fit_theory.specs.Stands.{Stands}
use Rattle.fit_theory.specs.Tests.{judge_tests}
use Rattle.matrix.specs.Place.{Complete}
use Rattle.matrix.specs.Tests.{matrix_tests}
use Rattle.records.specs.Form.{start_of, kind_at, end_at, form_tests}
use Rattle.records.specs.Laid.{LayoutAnswer}
use Rattle.records.specs.declared.Layout.{Layout}
use Rattle.reading.specs.Holds.{strains_of, distances_of, parents_of, denominator_of, numerators_of}
use Rattle.reading.specs.Tests.{strains_differ, held_tests, sheet_tests}
use Rattle.sheet.specs.declared.SheetFit.{SheetFit}
use Rattle.sheet.specs.Reports.{SheetReport}
use Rattle.sheet.proofs.Settled.{same-report}
pub use Rattle.exact.proofs.Sign.{back}
pub use Rattle.verdict.proofs.Answers.{LowestAtFault, same_answer, same_refusal, one_result, value_of, handed_on, not_pass, passes, refused-row, accepted-row, or_else_pass, pass_or_else, test_at-pass, test-pass, pass-test}
pub use Rattle.mean.proofs.Divisor.{missing-none, three-none, four-over, none-three}
pub use Rattle.fit_theory.proofs.Exactly.{stands→, →stands, posted→, →posted}
pub use Rattle.fit_theory.proofs.Complete.{complete-parts, as_whole, complete-seen, complete-posted}
pub use Rattle.fit_theory.proofs.Demand3.{least, f-range, r-range}
pub use Rattle.fit_theory.proofs.OneFit.{one-fit, accepted-one, accepted-agree}
pub use Rattle.fit_theory.proofs.Joined.{drawable, drawable_too, all-positive}
pub use Rattle.fit_theory.proofs.Placed.{Placed, placed}
pub use Rattle.records.proofs.Bytes.{BytePlaced, RecordAtFault, BytesBehind, byte-placed, byte-within}
pub use Rattle.records.proofs.Formed.{RecordAt, record-at, form-ends}
pub use Rattle.reading.proofs.Rows.{same-matrix, same_rows}

pub ruleset computes = (pass_or_else, pass-test)

module _ (s : List ℕ) where
  abbrev judged : Rule → Answer
  judged rule = judge_tests rule (strains_of s) (distances_of s) (parents_of s) (denominator_of s) (numerators_of s)

  -- an accepted sheet has its form, a matrix that passes and a tree for as many strains, and its proposal passes
  accepted-parts : (rule : Rule) → sheet_tests rule s ≡ pass
      → (form_tests 3 s ≡ pass) × (matrix_tests (strains_of s) (distances_of s) ≡ pass) × (test 8 (strains_differ s) ≡ pass) × (judged rule ≡ pass)
  accepted-parts rule z =
      let (form, held) = or_else_pass (form_tests 3 s) (held_tests rule s) z in
      let (matrix, rest) = or_else_pass (matrix_tests (strains_of s) (distances_of s)) (test 8 (strains_differ s) or_else judged rule) held in
      let (strains, e) = or_else_pass (test 8 (strains_differ s)) (judged rule) rest in
      (form, matrix, strains, e)

  pub sheet-form : (rule : Rule) → sheet_tests rule s ≡ pass → form_tests 3 s ≡ pass
  sheet-form rule z = (accepted-parts rule z).0

  -- what an accepted sheet holds stands
  pub sheet-stands : (rule : Rule) → sheet_tests rule s ≡ pass → Stands rule (strains_of s) (distances_of s) (parents_of s) (denominator_of s) (numerators_of s)
  sheet-stands rule z = let (_, _, _, e) = accepted-parts rule z in →stands rule (strains_of s) (distances_of s) (parents_of s) (denominator_of s) (numerators_of s) e

  module _ (up : (v : ℕ) → v < length (parents_of s) → pos 0 ≤ᶻ entry_of (numerators_of s) v) (z : sheet_tests Plain s ≡ pass) where
    -- an accepted sheet without a negative length is accepted by both rules, with the same report
    pub sheet-drawable : sheet_tests Drawable s ≡ pass
    sheet-drawable = let (form, matrix, strains, e) = accepted-parts Plain z in
        pass_or_else form (pass_or_else matrix (pass_or_else strains (drawable_too (strains_of s) (distances_of s) (parents_of s) (denominator_of s) (numerators_of s) up e)))

    pub drawable-report : (x y : Result SheetFit Refusal) → SheetReport Plain s x → SheetReport Drawable s y → x ≡ y
    drawable-report = same-report s Plain Drawable (z ∙ sym sheet-drawable)

-- the third record of a sheet by a place: of any bytes, that the place lies in the sheet; of an accepted sheet, that the record starts there, its
-- kind, and that it ends with the sheet
pub record ThirdRecord (rule : Rule) (s : List ℕ) (at : ℕ) : Type 0 where
  pub within : at ≤ length s
  pub start : sheet_tests rule s ≡ pass → at ≡ start_of s 2
  pub kind : sheet_tests rule s ≡ pass → kind_at s at ≡ 3
  pub ends : sheet_tests rule s ≡ pass → end_at s at ≡ length s

pub third-record : (rule : Rule) (s : List ℕ) (r : Layout) → LayoutAnswer 3 s (Ok r) → ThirdRecord rule s (get_or r.starts 2 0)
third-record rule s r a = let t = record-at 3 s r a 2 (omega arith) in
    record {
      within = t.within;
      start = λ z. t.start (sheet-form s rule z);
      kind = λ z. t.kind (sheet-form s rule z);
      ends = λ z. t.ends (sheet-form s rule z) ∙ form-ends 3 s (sheet-form s rule z);
    }

-- two accepted sheets of one complete matrix and one tree have the same length at every edge
pub sheet-agree : (rule : Rule) (s t : List ℕ) → strains_of s ≡ strains_of t → distances_of s ≡ distances_of t → parents_of s ≡ parents_of t → Complete (distances_of s)
    → sheet_tests rule s ≡ pass → sheet_tests rule t ≡ pass
    → (v : ℕ) → v < length (parents_of s) → pos (denominator_of t) *ℤ entry_of (numerators_of s) v ≡ pos (denominator_of s) *ℤ entry_of (numerators_of t) v
sheet-agree rule s t strains matrix tree all z y =
    let of-t = sheet-stands t rule y in
    let as-s : Stands rule (strains_of s) (distances_of s) (parents_of s) (denominator_of t) (numerators_of t) =
    subst⁻¹ (λ (N : ℕ). Stands rule N (distances_of s) (parents_of s) (denominator_of t) (numerators_of t)) strains
    (subst⁻¹ (λ (ds : List ℕ). Stands rule (strains_of t) ds (parents_of s) (denominator_of t) (numerators_of t)) matrix
    (subst⁻¹ (λ (ps : List ℕ). Stands rule (strains_of t) (distances_of t) ps (denominator_of t) (numerators_of t)) tree of-t)) in
    (one-fit rule (strains_of s) (distances_of s) (parents_of s) (denominator_of s) (numerators_of s) all (sheet-stands s rule z).fitted).agree (denominator_of t) (numerators_of t) as-s.fitted
