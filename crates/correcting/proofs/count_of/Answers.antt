-- By whether the entry is the mark.
use mathlib.Core.Path.{sym}
use Rattle.exact.proofs.Sum.{ind-yes, ind-no}
use Rattle.matrix.proofs.Looking.{is-missing, is-measured}
use Rattle.correcting.proofs.count_of.Goals as goal

pub returns-then-far-eq-MISSING : goal.returns-then-far-eq-MISSING
returns-then-far-eq-MISSING c = sym (ind-no (is-missing c.args.far c.if-far-eq-MISSING.true))

pub returns : goal.returns
returns c = sym (ind-yes (is-measured c.args.far c.if-far-eq-MISSING.false))
