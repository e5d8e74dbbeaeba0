-- The fourth record is names.
use native.Mathlib.Omega.{arith}
use borrow.Author.Tests.{eq-eqb, ne_eqb}
use Rattle.records.proofs.kind_of.Goals as goal

pub returns-then-k-eq3 : goal.returns-then-k-eq3
returns-then-k-eq3 c = (simp (eq-eqb _ _ c.if-k-eq3.true), omega arith, omega arith)

pub returns : goal.returns
returns c = (simp (ne_eqb _ _ c.if-k-eq3.false), omega arith, omega arith)
