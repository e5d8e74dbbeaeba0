-- Each return says which tests did not apply before it.
use mathlib.Core.Path.{sym, ap, ◌∙◌}
use lib.Dec.{ltb}
use Rattle.verdict.specs.Answer.{test}
use Rattle.matrix.specs.Limits.{max_distance}
use Rattle.matrix.specs.Place.{known}
use Rattle.correcting.proofs.Asking.{behind-24, too_far, near-enough}
use borrow.Author.Tests.{eq-eqb, ne_eqb, le-leb, lt-leb}
use Rattle.matrix.proofs.Looking.{known-missing}
use Rattle.correcting.proofs.check_pair.Goals as goal

pub returns-then-i-j : goal.returns-then-i-j
returns-then-i-j c = simp (eq-eqb _ _ c.if-i-j.true)

pub returns-then-n-i : goal.returns-then-n-i
returns-then-n-i c = simp (ne_eqb _ _ c.if-i-j.false, le-leb _ _ c.if-n-i.true)

pub returns-then-n-j : goal.returns-then-n-j
returns-then-n-j c = simp (ne_eqb _ _ c.if-i-j.false, lt-leb _ _ c.if-n-i.false, le-leb _ _ c.if-n-j.true)

pub returns-then-far-eq-MISSING : goal.returns-then-far-eq-MISSING
returns-then-far-eq-MISSING c = simp (ne_eqb _ _ c.if-i-j.false, lt-leb _ _ c.if-n-i.false, lt-leb _ _ c.if-n-j.false, known-missing _ c.if-far-eq-MISSING.true)

pub returns-then-far-gt-MAX_DISTANCE : goal.returns-then-far-gt-MAX_DISTANCE
returns-then-far-gt-MAX_DISTANCE c = let a = c.args in ap (test 7) (sym (too_far a.far c.if-far-eq-MISSING.false c.if-far-gt-MAX_DISTANCE.true)) ∙ behind-24 a.n a.i a.j (test 7 (ltb max_distance (known a.far))) c.if-i-j.false c.if-n-i.false c.if-n-j.false

pub returns : goal.returns
returns c = let a = c.args in ap (test 7) (sym (near-enough a.far c.if-far-eq-MISSING.false c.if-far-gt-MAX_DISTANCE.false)) ∙ behind-24 a.n a.i a.j (test 7 (ltb max_distance (known a.far))) c.if-i-j.false c.if-n-i.false c.if-n-j.false
