-- `parts_some`: while the loop runs, no strain met so far is parted from one of its column.
use borrow.Author.Rules.{rules}
use mathlib.Core.Path.{sym, ◌∙◌}
use mathlib.Core.Bool.{false}
use Prim.Native.Nat.{◌-◌}
use native.Mathlib.Omega.{arith}
use borrow.Author.Count.{below_none, below_more}
use Rattle.verdict.proofs.Table.{some-yes, some-no}
use Rattle.gaps.specs.Columns.{parts_column}
use Rattle.gaps.proofs.parts_some.Goals as goal

pub loop-j-init : goal.loop-j-init
loop-j-init c = (search rules, below_none _)

pub returns-then-parts_column : goal.returns-then-parts_column
returns-then-parts_column c = let j = c.loop-j.j in
    sym (some-yes c.args.n _ j (omega arith) (sym c.parts_column.ensures ∙ c.if-parts_column.true))

pub loop-j-preserved : goal.loop-j-preserved
loop-j-preserved c = (search rules, below_more _ _ c.loop-j.invariant.1 (sym c.parts_column.ensures ∙ c.if-parts_column.false))

pub returns : goal.returns
returns c = sym (some-no _ _ (λ k l. c.loop-j.invariant.1 k (omega arith)))
