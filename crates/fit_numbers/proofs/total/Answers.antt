-- The sum is that of the numerators before the edge at hand.
use mathlib.Core.Path.{◌≡◌, sym, ap, ◌∙◌}
use Prim.Native.Nat.{ℕ, ◌-◌}
use native.Mathlib.Omega.{arith}
use mir.Syntax.{w64}
use mir.Val.{to_z}
use Rattle.exact.specs.Sum.{sum}
use Rattle.exact.proofs.Sum.{sum-0}
use Rattle.exact.specs.Table.{entry_of}
use Rattle.fit_numbers.proofs.Totals.{total-fits, total-next}
use Rattle.fit_numbers.proofs.total.Goals as goal

pub loop-edge-init : goal.loop-edge-init
loop-edge-init c = (omega arith, sym (sum-0 (entry_of c.args.numerators.now)))

pub overflow_add-sum : goal.overflow_add-sum
overflow_add-sum c = total-fits c.requires.in_range c.requires.edges_le_max_edges c.loop-edge.edge (to_z w64 c.loop-edge.sum-bits) (omega arith) c.loop-edge.invariant.1

pub loop-edge-preserved : goal.loop-edge-preserved
loop-edge-preserved c = (omega arith, total-next c.requires.in_range c.requires.edges_le_max_edges c.loop-edge.edge (to_z w64 c.loop-edge.sum-bits) (omega arith) c.loop-edge.invariant.1)

pub returns : goal.returns
returns c = let e : c.loop-edge.edge ≡ c.args.edges = omega arith in
    c.loop-edge.invariant.1 ∙ ap (λ (k : ℕ). sum k (entry_of c.args.numerators.now)) e
