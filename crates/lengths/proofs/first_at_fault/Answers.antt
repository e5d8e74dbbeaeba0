-- No numerator passed so far is at fault.
use Prim.Native.Nat.{◌-◌}
use mathlib.Core.Path.{◌≡◌, sym, ◌∙◌}
use mathlib.Core.Bool.{false}
use native.Mathlib.Omega.{arith}
use borrow.Author.Count.{below_none, below_more}
use lib.IntN.{pos}
use lib.ListN.{length, get_or}
use mir.Syntax.{w64}
use mir.Val.{to_z, of_z}
use mir.Facts.{to_z-of_z}
use Rattle.verdict.proofs.Table.{first-is, past_first}
use Rattle.lengths.specs.Tests.{fault_by}
use Rattle.lengths.proofs.first_at_fault.Goals as goal
use Rattle.lengths.proofs.first_at_fault.Goals.{After-at_fault}

-- the numerator that is asked
tested : (c : After-at_fault)
    → c.at_fault.result ≡ fault_by c.args.ask (get_or c.args.numerators.now c.loop-v.v (pos 0))
tested c =
    let n = get_or c.args.numerators.now c.loop-v.v (pos 0) in
    let e : to_z w64 (of_z w64 n) ≡ n = to_z-of_z {w = w64} (record { sfits = c.at_fault-arg-1.given }) in
    simp e at c.at_fault.ensures

pub loop-v-init : goal.loop-v-init
loop-v-init c = (omega arith, below_none _)

pub returns-then-at_fault : goal.returns-then-at_fault
returns-then-at_fault c = sym (first-is _ _ c.loop-v.v (omega arith) (sym (tested c.before) ∙ c.if-at_fault.true) c.loop-v.invariant.1)

pub loop-v-preserved : goal.loop-v-preserved
loop-v-preserved c = (omega arith, below_more _ _ c.loop-v.invariant.1 (sym (tested c.before) ∙ c.if-at_fault.false))

pub returns : goal.returns
returns c = let ns = c.args.numerators.now in
    sym (past_first (length ns) _ (λ i h. c.loop-v.invariant.1 i (omega arith)))
