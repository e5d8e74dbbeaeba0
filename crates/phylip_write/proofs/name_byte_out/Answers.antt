-- No byte passed so far is in no name.
use mathlib.Core.Path.{sym, ◌∙◌}
use native.Mathlib.Omega.{arith}
use Rattle.verdict.proofs.Table.{some-yes, some-no}
use Rattle.phylip_write.proofs.name_byte_out.Goals as goal

pub returns-then-name_out : goal.returns-then-name_out
returns-then-name_out c = sym (some-yes _ _ c.loop-byte.byte-index (omega arith) (sym c.name_out.ensures ∙ c.if-name_out.true))

pub returns : goal.returns
returns c = sym (some-no _ _ (λ m h. c.loop-byte.invariant.1 m (omega arith)))
