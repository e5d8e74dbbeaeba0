-- A store where there is room; past the end `set` changes nothing.
use mathlib.Core.Path.{sym}
use lib.Seq.{set_out}
use Rattle.newick_fill.proofs.put_parent.Goals as goal

pub returns-then-number-parents : goal.returns-then-number-parents
returns-then-number-parents c = simp c.byte_of.ensures

pub returns-else-number-parents : goal.returns-else-number-parents
returns-else-number-parents c = sym (set_out _ _ _ c.if-number-parents.false)
