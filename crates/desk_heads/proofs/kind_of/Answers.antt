-- The words one by one: what each test said stands three steps further back than what the next one said.
use mathlib.Core.Path.{sym, ◌∙◌}
use Rattle.desk_heads.proofs.Heading.{kind-post, kind-propose, kind-correct, kind-withdraw, kind-report, kind-pairs, kind-wrong}
use Rattle.desk_heads.proofs.kind_of.Goals as goal

pub returns-then-same : goal.returns-then-same
returns-then-same c = kind-post _ (sym c.same.ensures ∙ c.if-same.true)

pub returns-then-same-2 : goal.returns-then-same-2
returns-then-same-2 c = kind-propose _ (sym c.same.ensures ∙ c.if-same.false) (sym c.same-2.ensures ∙ c.if-same-2.true)

pub returns-then-same-3 : goal.returns-then-same-3
returns-then-same-3 c = kind-correct _ (sym c.same.ensures ∙ c.if-same.false) (sym c.same-2.ensures ∙ c.if-same-2.false) (sym c.same-3.ensures ∙ c.if-same-3.true)

pub returns-then-same-4 : goal.returns-then-same-4
returns-then-same-4 c = kind-withdraw _ (sym c.same.ensures ∙ c.if-same.false) (sym c.same-2.ensures ∙ c.if-same-2.false) (sym c.same-3.ensures ∙ c.if-same-3.false) (sym c.same-4.ensures ∙ c.if-same-4.true)

pub returns-then-same-5 : goal.returns-then-same-5
returns-then-same-5 c = kind-report _ (sym c.same.ensures ∙ c.if-same.false) (sym c.same-2.ensures ∙ c.if-same-2.false) (sym c.same-3.ensures ∙ c.if-same-3.false) (sym c.same-4.ensures ∙ c.if-same-4.false) (sym c.same-5.ensures ∙ c.if-same-5.true)

pub returns-then-same-6 : goal.returns-then-same-6
returns-then-same-6 c = kind-pairs _ (sym c.same.ensures ∙ c.if-same.false) (sym c.same-2.ensures ∙ c.if-same-2.false) (sym c.same-3.ensures ∙ c.if-same-3.false) (sym c.same-4.ensures ∙ c.if-same-4.false) (sym c.same-5.ensures ∙ c.if-same-5.false) (sym c.same-6.ensures ∙ c.if-same-6.true)

pub returns : goal.returns
returns c = kind-wrong _ (sym c.same.ensures ∙ c.if-same.false) (sym c.same-2.ensures ∙ c.if-same-2.false) (sym c.same-3.ensures ∙ c.if-same-3.false) (sym c.same-4.ensures ∙ c.if-same-4.false) (sym c.same-5.ensures ∙ c.if-same-5.false) (sym c.same-6.ensures ∙ c.if-same-6.false)
