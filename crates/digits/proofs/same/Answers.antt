-- Byte by byte.
use mathlib.Core.Path.{◌∙◌}
use Rattle.digits.proofs.Comparing.{same_is}
use Rattle.digits.proofs.same.Goals as goal

pub returns : goal.returns
returns c = c.eq.ensures ∙ same_is c.args.a.now c.args.b.now
