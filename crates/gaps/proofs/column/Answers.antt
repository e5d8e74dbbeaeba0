-- `column`: the bits met so far, and the next is the highest.
use borrow.Author.Rules.{rules}
use mathlib.Core.Path.{◌≡◌, sym, ◌∙◌, ap}
use Prim.Native.Nat.{ℕ, suc, ◌-◌}
use native.Mathlib.Omega.{arith}
use Rattle.matrix.specs.Place.{measured}
use Rattle.matrix.proofs.Places.{place-bound, pairs-few}
use Rattle.tree_theory.specs.Cluster.{mask}
use Rattle.tree_theory.proofs.Masks.{mask-zero}
use Rattle.gaps.proofs.Parting.{column-turn, column_fits}
use Rattle.gaps.proofs.column.Goals as goal

pub loop-i-init : goal.loop-i-init
loop-i-init c = (search rules, sym (mask-zero _))

pub place-requires : goal.place-requires
place-requires c = (omega arith, c.requires.0)

pub offset_bounds-distances-place : goal.offset_bounds-distances-place
offset_bounds-distances-place c = let j = c.args.j in
    let there = place-bound (suc j) c.loop-i.i j (omega arith) (omega arith) in
    record { fits = omega (arith, c.place.ensures, there, pairs-few (suc j) (omega (arith, c.requires.0))) }

pub bounds-distances-place : goal.bounds-distances-place
bounds-distances-place c = let j = c.args.j in
    omega (arith, c.place.ensures, place-bound (suc j) c.loop-i.i j (omega arith) (omega arith), c.requires.1)

pub bit_of-mask-requires : goal.bit_of-mask-requires
bit_of-mask-requires c = omega (arith, c.requires.0)

pub overflow_add-mask : goal.overflow_add-mask
overflow_add-mask c = let l = c.loop-i in
    let p = c.place in
    record { fits = column_fits c.args.distances.now c.args.j l.i _ _ p.result l.invariant.1 p.ensures c.bit_of-mask.ensures (omega (arith, c.requires.0)) }

pub loop-i-preserved : goal.loop-i-preserved
loop-i-preserved c = let l = c.loop-i in
    let p = c.place in
    (search rules, column-turn c.args.distances.now c.args.j l.i _ _ p.result l.invariant.1 p.ensures c.bit_of-mask.ensures)

pub returns : goal.returns
returns c = let e : c.loop-i.i ≡ c.args.j = omega arith in
    c.loop-i.invariant.1 ∙ ap (λ (n : ℕ). mask n (λ h. measured c.args.distances.now (h, c.args.j))) e
