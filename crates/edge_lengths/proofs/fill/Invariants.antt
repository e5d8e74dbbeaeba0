-- Each turn hands one length over: the code's lowest terms are the fraction's own, small enough for the buffers and the rounding.
use Prim.Native.Nat.{◌-◌}
use lib.ListN.{length}
use Rattle.tree_theory.specs.Chain.{parent_of}
use Rattle.exact.specs.Table.{entry_of}
use Rattle.direct_theory.specs.Splits.{length_by}
use Rattle.edge_lengths.proofs.Lowering.{Lowering}
use Rattle.edge_lengths.proofs.fill.Given as goal

abbrev pub invariant-loop-v : goal.invariant-loop-v
invariant-loop-v l = Lowering (length l.parents) (length_by l.n (length l.parents) (parent_of l.parents) (entry_of l.sums)) l.initial.numerators l.initial.denominators l.v l.numerators l.denominators l.rounded
