-- A byte a turn; the first that is in no name ends it.
use mathlib.Core.Path.{sym, ◌∙◌}
use native.Mathlib.Omega.{arith}
use Rattle.phylip_rows.proofs.Naming.{name-none, name-turn, name-end}
use Rattle.phylip_rows.proofs.name.Goals as goal

pub returns-then-name_out : goal.returns-then-name_out
returns-then-name_out c = name-none _ _ _ _ c.byte_at-byte.result c.loop-k.invariant c.byte_at-byte.ensures c.loop-k-test.true (sym c.name_out.ensures ∙ c.if-name_out.true)

pub loop-k-preserved : goal.loop-k-preserved
loop-k-preserved c = name-turn _ _ _ _ c.byte_at-byte.result c.loop-k.invariant c.byte_at-byte.ensures c.loop-k-test.true (omega arith) (sym c.name_out.ensures ∙ c.if-name_out.false)

pub returns : goal.returns
returns c = name-end _ _ _ _ c.loop-k-test.false c.loop-k.invariant
