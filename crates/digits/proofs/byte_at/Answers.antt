-- Behind the text's end a list has its default, 0.
use mathlib.Core.Path.{sym}
use lib.ListN.{get_or-eq_default}
use Rattle.digits.proofs.byte_at.Goals as goal

pub returns : goal.returns
returns c = sym (get_or-eq_default c.args.text.now 0 c.if-k-text.false)
