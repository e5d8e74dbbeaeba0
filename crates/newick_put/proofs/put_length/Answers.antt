-- From zero on a length is its magnitude's thousandths; below zero a minus stands in front of that.
use native.Mathlib.Omega.{arith}
use mir.Facts.{to_z-of_z}
use Rattle.newick_put.proofs.Putting.{plain, minus}
use Rattle.newick_put.proofs.put_length.Goals as goal

pub returns-then-m-ge0 : goal.returns-then-m-ge0
returns-then-m-ge0 c = let a = c.args in
    let n = c.magnitude-size in
    let p = c.put_thousandths in
    let back = to_z-of_z c.ranges.m in
    plain a.text.now a.at a.m n.result (simp back at n.ensures) p.new.text p.result (simp back at c.if-m-ge0.true) p.ensures

pub returns : goal.returns
returns c = let a = c.args in
    let n = c.magnitude-size in
    let p = c.put-next in
    let q = c.put_thousandths-2 in
    let back = to_z-of_z c.ranges.m in
    minus a.text.now a.at a.m n.result (simp back at n.ensures) p.new.text q.new.text p.result q.result
    (omega arith) (simp back at c.if-m-ge0.false) p.ensures q.ensures
