-- The form's refusal, or what the records hold.
use mathlib.Core.Path.{◌≡◌, sym, ap, ◌∙◌}
use mathlib.Core.List.{List}
use Prim.Native.Nat.{ℕ}
use native.Mathlib.Omega.{arith}
use lib.ListN.{get_or}
use Rattle.verdict.specs.Answer.{pass}
use Rattle.verdict.proofs.Answers.{handed_on}
use Rattle.records.specs.Form.{form_tests}
use Rattle.records.specs.Laid.{max_starts}
use Rattle.records.proofs.Decoding.{padded-before}
use Rattle.reading.specs.Reads.{OutlineAnswer}
use Rattle.reading.proofs.Answered.{form-refused}
use Rattle.reading.proofs.read_into.Goals as goal

pub held-requires : goal.held-requires
held-requires c = let z : form_tests c.args.count c.args.s.now ≡ pass = sym c.in_ok-laid.ensures.answer in
    let at = c.in_ok-laid.ensures.starts in record {
      le_count = (
        c.requires.le_count.0,
        c.requires.le_count.1,
        z,
        ap (λ (l : List ℕ). get_or l 1 0) at ∙ padded-before 0 max_starts _ _ 1 (omega arith),
        ap (λ (l : List ℕ). get_or l 2 0) at ∙ padded-before 0 max_starts _ _ 2 (omega arith),
      );
      distances_value = c.requires.distances_value;
      numerators_value = c.requires.numerators_value;
    }

pub returns-in_err-laid : goal.returns-in_err-laid
returns-in_err-laid c = let s = c.args.s.now in
    handed_on (OutlineAnswer c.args.count s c.args.distances.now c.args.numerators.now) _ _ c.from_residual.ensures
    (record { answer = form-refused c.args.count s _ c.in_err-laid.ensures.answer; held = tt })
