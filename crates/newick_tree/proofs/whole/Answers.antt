-- A byte is the same with a sign.
use native.Mathlib.Omega.{arith}
use Rattle.exact.proofs.Sign.{back-pos}
use Rattle.newick_tree.proofs.whole.Goals as goal

pub returns : goal.returns
returns c = back-pos c.args.x (omega arith)
