-- The passes of the rule that is asked.
use mathlib.Core.Path.{sym, ◌∙◌, ap, ap₂}
use Rattle.verdict.specs.Answer.{◌or_else◌}
use Rattle.verdict.specs.declared.Rule.{Rule}
use Rattle.exact.specs.Table.{entry_of}
use Rattle.fit_theory.specs.Tests.{balance_tests}
use Rattle.balancing.proofs.balance.Goals as goal

pub returns-in-Plain : goal.returns-in-Plain
returns-in-Plain c = let a = c.args in
    c.pass_over.ensures ∙ sym (ap (λ (r : Rule). balance_tests r a.edges (entry_of a.numerators.now) (entry_of a.sums.now)) c.in-Plain.is)

pub returns-in-Drawable : goal.returns-in-Drawable
returns-in-Drawable c = let a = c.args in
    c.or_else.ensures ∙ ap₂ ◌or_else◌ c.pass_over-positive.ensures c.pass_over-zero.ensures
    ∙ sym (ap (λ (r : Rule). balance_tests r a.edges (entry_of a.numerators.now) (entry_of a.sums.now)) c.in-Drawable.is)
