-- By whether the entry is the mark.
use mathlib.Core.Path.{sym, ap}
use mathlib.Core.Bool.{Bool, cond}
use Rattle.matrix.proofs.Looking.{is-missing, is-measured}
use Rattle.keeping.proofs.one_of.Goals as goal

pub returns-then-far-eq-MISSING : goal.returns-then-far-eq-MISSING
returns-then-far-eq-MISSING c = sym (ap (λ (b : Bool). cond b 1 0) (is-missing c.args.far c.if-far-eq-MISSING.true))

pub returns : goal.returns
returns c = sym (ap (λ (b : Bool). cond b 1 0) (is-measured c.args.far c.if-far-eq-MISSING.false))
