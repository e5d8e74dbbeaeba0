-- No edge passed so far is at fault.
use mathlib.Core.Path.{◌≡◌, sym, ◌∙◌}
use mathlib.Core.Bool.{true, false}
use lib.IntN.{pos}
use lib.ListN.{get_or}
use mir.Syntax.{w64}
use mir.Val.{to_z, of_z}
use mir.Facts.{to_z-of_z}
use Prim.Native.Nat.{◌-◌}
use native.Mathlib.Omega.{arith}
use borrow.Author.Count.{below_none, below_more}
use Rattle.exact.specs.Table.{entry_of}
use Rattle.balancing.specs.Passes.{fault_by}
use Rattle.balancing.proofs.Faults.{found, none_found}
use Rattle.balancing.proofs.pass_over.Goals as goal
use Rattle.balancing.proofs.pass_over.Goals.{After-at_fault}

-- the answer of the test, of the numbers themselves
whole : (c : After-at_fault)
    → (let a = c.args in let v = c.loop-v.v in c.at_fault.result ≡ fault_by a.pass (entry_of a.numerators.now v) (entry_of a.sums.now v))
whole c =
    let a = c.args in
    let v = c.loop-v.v in
    let e : to_z w64 (of_z w64 (get_or a.numerators.now v (pos 0))) ≡ get_or a.numerators.now v (pos 0) = to_z-of_z {w = w64} (record { sfits = c.at_fault-arg-1.given }) in
    let f : to_z w64 (of_z w64 (get_or a.sums.now v (pos 0))) ≡ get_or a.sums.now v (pos 0) = to_z-of_z {w = w64} (record { sfits = c.sum-1.given }) in
    rw (e, f) at c.at_fault.ensures

pub loop-v-init : goal.loop-v-init
loop-v-init c = (omega arith, below_none _)

pub bounds-numerators-v : goal.bounds-numerators-v
bounds-numerators-v c = omega (arith, c.requires.edges_in_bounds)

pub returns-then-at_fault : goal.returns-then-at_fault
returns-then-at_fault c = let a = c.args in
    found a.pass a.edges (entry_of a.numerators.now) (entry_of a.sums.now) c.loop-v.v _ _ c.reason_of.ensures (to_z-of_z {w = w64} (record { sfits = c.sum-1.given })) (omega arith) (sym (whole c.before.before) ∙ c.if-at_fault.true) c.loop-v.invariant.1

pub loop-v-preserved : goal.loop-v-preserved
loop-v-preserved c = (omega arith, below_more _ _ c.loop-v.invariant.1 (sym (whole c.before) ∙ c.if-at_fault.false))

pub returns : goal.returns
returns c = let a = c.args in
    none_found a.pass a.edges (entry_of a.numerators.now) (entry_of a.sums.now) (λ i h. c.loop-v.invariant.1 i (omega arith))
