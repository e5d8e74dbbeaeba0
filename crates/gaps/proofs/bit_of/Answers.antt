-- `bit_of`: no bit for a missing pair.
use native.Mathlib.Omega.{arith}
use Rattle.matrix.proofs.Looking.{is-missing, is-measured}
use Rattle.tree_theory.proofs.Masks.{shl_one}
use Rattle.gaps.proofs.bit_of.Goals as goal

pub returns-then-far-eq-MISSING : goal.returns-then-far-eq-MISSING
returns-then-far-eq-MISSING c = rw (is-missing c.args.far c.if-far-eq-MISSING.true)

pub returns : goal.returns
returns c = rw (is-measured c.args.far c.if-far-eq-MISSING.false) (shl_one c.args.i (omega (arith, c.requires)))
