-- `has`: the code reads the digit as the definition does, and past the width there is none.
use borrow.Author.Rules.{rules}
use mathlib.Core.Path.{sym}
use native.Mathlib.Omega.{arith}
use Rattle.tree_theory.proofs.Masks.{bit_past}
use Rattle.clusters.proofs.has.Goals as goal

pub returns-then-strain-ge64 : goal.returns-then-strain-ge64
returns-then-strain-ge64 c = sym (bit_past 64 c.args.mask c.args.strain (search rules) (omega arith))
