-- The measure is the bytes left; the loop's invariant is the equivalence `Rest`.
use Prim.Native.Nat.{◌-◌}
use lib.ListN.{length}
use Rattle.newick_form.proofs.Forming.{Rest}
use Rattle.newick_form.proofs.+form.Given as goal

abbrev pub decreases-form : goal.decreases-form
decreases-form l = length l.text.now - l.at

abbrev pub invariant-loop-end : goal.invariant-loop-end
invariant-loop-end l = Rest l.text l.at l.room l.next

abbrev pub decreases-loop-end : goal.decreases-loop-end
decreases-loop-end l = length l.text - l.next
