-- By whether the entry is the mark.
use mathlib.Core.Path.{sym, ap, ◌∙◌}
use native.Mathlib.Omega.{arith}
use lib.IntN.{pos}
use Rattle.exact.proofs.Sign.{back-pos}
use Rattle.matrix.proofs.Looking.{known-missing, known-measured}
use Rattle.correcting.proofs.distance_of.Goals as goal

pub returns-then-far-eq-MISSING : goal.returns-then-far-eq-MISSING
returns-then-far-eq-MISSING c = ap pos (sym (known-missing c.args.far c.if-far-eq-MISSING.true))

pub returns : goal.returns
returns c = back-pos c.args.far (omega arith) ∙ ap pos (sym (known-measured c.args.far c.if-far-eq-MISSING.false))
