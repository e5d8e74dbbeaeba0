-- The three tests.
use mathlib.Core.Path.{sym, ◌∙◌}
use borrow.Author.Tests.{lt-ltb, le-ltb}
use Rattle.long_lengths.proofs.Ranges.{or_met, or_past}
use Rattle.long_lengths.proofs.denominator_out.Goals as goal

pub returns-then-d-gt-MAX_LEVELS : goal.returns-then-d-gt-MAX_LEVELS
returns-then-d-gt-MAX_LEVELS c = or_met _ _ (sym (or_met _ _ (lt-ltb _ _ c.if-d-gt-MAX_LEVELS.true)))

pub returns-then-too_high : goal.returns-then-too_high
returns-then-too_high c = or_met _ _ (sym (or_past _ _ _ (le-ltb _ _ c.if-d-gt-MAX_LEVELS.false) (sym c.if-too_high.true ∙ c.too_high.ensures)))

pub returns : goal.returns
returns c = or_past _ _ _ (sym (or_past _ _ _ (le-ltb _ _ c.if-d-gt-MAX_LEVELS.false) (sym c.if-too_high.false ∙ c.too_high.ensures))) c.is_zero.ensures
