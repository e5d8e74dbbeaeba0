-- `clusters`: the invariant is `Handed`, what the table holds when the vertices below v have handed their masks up.
use borrow.Author.Rules.{rules}
use mathlib.Core.Path.{◌≡◌}
use Prim.Native.Nat.{ℕ, ◌≤◌, ◌-◌}
use native.Mathlib.Omega.{arith}
use lib.ListN.{length}
use Rattle.tree_theory.specs.Allowed.{Allowed}
use Rattle.tree_theory.specs.Chain.{parent_of}
use Rattle.clusters.proofs.Handing.{hand_none, hand_more, hand_all}
use Rattle.clusters.proofs.clusters.Goals as goal

-- an allowed tree has at most 125 edges
room : {N K : ℕ} {par : ℕ → ℕ} → Allowed N K par → K ≤ 125
room a = omega (arith, a.few, a.most)

pub own_bits-masks-requires : goal.own_bits-masks-requires
own_bits-masks-requires c = c.requires.few

pub loop-v-init : goal.loop-v-init
loop-v-init c = (search rules, hand_none c.args.n _ (omega (arith, c.requires.few)) _ c.own_bits-masks.ensures)

pub offset_bounds-masks-v : goal.offset_bounds-masks-v
offset_bounds-masks-v c = omega (arith, room c.requires)

pub bounds-masks-v : goal.bounds-masks-v
bounds-masks-v c = omega (arith, room c.requires)

pub offset_bounds-masks-p : goal.offset_bounds-masks-p
offset_bounds-masks-p c = omega (arith, c.requires.top c.loop-v.v (omega arith), room c.requires)

pub bounds-masks-p : goal.bounds-masks-p
bounds-masks-p c = omega (arith, c.requires.top c.loop-v.v (omega arith), room c.requires)

pub offset_bounds-masks-p-in-loop-v : goal.offset_bounds-masks-p-in-loop-v
offset_bounds-masks-p-in-loop-v c = omega (arith, c.requires.top c.loop-v.v (omega arith), room c.requires)

pub bounds-masks-p-in-loop-v : goal.bounds-masks-p-in-loop-v
bounds-masks-p-in-loop-v c = omega (arith, c.requires.top c.loop-v.v (omega arith), room c.requires)

pub loop-v-preserved : goal.loop-v-preserved
loop-v-preserved c = let ps = c.args.parents.now in
    let v = c.loop-v.v in
    let up = c.requires.up v (omega arith) in
    (search rules, hand_more c.args.n (parent_of ps) v c.loop-v.masks up (omega (arith, c.requires.top c.loop-v.v (omega arith), room c.requires)) c.loop-v.invariant.1)

pub returns : goal.returns
returns c = let ps = c.args.parents.now in
    let e : c.loop-v.v ≡ length ps = omega arith in
    hand_all c.args.n (length ps) (parent_of ps) c.requires c.loop-v.masks (rw (← e) c.loop-v.invariant.1)
