-- A store where there is room; past the end `set` changes nothing.
use mathlib.Core.Path.{sym}
use lib.Seq.{set_out}
use Rattle.newick_fill.proofs.put_numerator.Goals as goal

pub returns-else-number-numerators : goal.returns-else-number-numerators
returns-else-number-numerators c = sym (set_out _ _ _ c.if-number-numerators.false)
