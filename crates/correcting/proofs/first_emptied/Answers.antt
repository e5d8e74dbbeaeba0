-- Every edge before v keeps a measured pair.
use mathlib.Core.Path.{sym}
use native.Mathlib.Omega.{arith}
use borrow.Author.Count.{below_none, below_more}
use borrow.Author.Tests.{not-true, not-false}
use lib.Dec.{eqb}
use lib.IntN.{nat_abs}
use Rattle.exact.specs.Table.{entry_of}
use Rattle.verdict.proofs.Table.{first-is, past_first}
use Rattle.fit_theory.proofs.Zeros.{bits-pass, bits_fail}
use Rattle.correcting.proofs.first_emptied.Goals as goal

pub loop-v-init : goal.loop-v-init
loop-v-init c = (omega arith, below_none _)

pub returns-then-counts-v-eq0 : goal.returns-then-counts-v-eq0
returns-then-counts-v-eq0 c = let a = c.args in sym (first-is a.edges (λ v. eqb (nat_abs (entry_of a.counts.now v)) 0) c.loop-v.v (omega arith) (not-false (eqb (nat_abs (entry_of a.counts.now c.loop-v.v)) 0) (bits-pass (entry_of a.counts.now c.loop-v.v) (record { sfits = c.t8-1.given }) c.if-counts-v-eq0.true)) c.loop-v.invariant.1)

pub loop-v-preserved : goal.loop-v-preserved
loop-v-preserved c = (omega arith, below_more _ _ c.loop-v.invariant.1 (let z = entry_of c.args.counts.now c.loop-v.v in not-true (eqb (nat_abs z) 0) (bits_fail z c.if-counts-v-eq0.false)))

pub returns : goal.returns
returns c = let a = c.args in sym (past_first a.edges (λ v. eqb (nat_abs (entry_of a.counts.now v)) 0) (λ i h. c.loop-v.invariant.1 i (omega arith)))
