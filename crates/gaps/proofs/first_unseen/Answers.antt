-- `first_unseen`: each edge met so far parts a measured pair.
use borrow.Author.Rules.{rules}
use mathlib.Core.Path.{sym, ◌∙◌, ap}
use mathlib.Core.Bool.{false, not}
use Prim.Native.Nat.{◌-◌}
use native.Mathlib.Omega.{arith}
use borrow.Author.Count.{below_none, below_more}
use Rattle.verdict.proofs.Table.{first-is, past_first}
use Rattle.gaps.proofs.Parting.{few-edges, unseen-is}
use Rattle.gaps.proofs.first_unseen.Goals as goal

pub clusters-clusters-requires : goal.clusters-clusters-requires
clusters-clusters-requires c = c.requires.tree

pub columns-masks-requires : goal.columns-masks-requires
columns-masks-requires c = let m = c.requires.matrix in (m.few, omega (arith, m.whole))

pub loop-v-init : goal.loop-v-init
loop-v-init c = (search rules, below_none _)

pub offset_bounds-clusters-v : goal.offset_bounds-clusters-v
offset_bounds-clusters-v c = record { fits = omega (arith, few-edges c.requires) }

pub bounds-clusters-v : goal.bounds-clusters-v
bounds-clusters-v c = omega (arith, few-edges c.requires)

pub parts_some-requires : goal.parts_some-requires
parts_some-requires c = c.requires.matrix.few

pub returns-then-not-parts_some : goal.returns-then-not-parts_some
returns-then-not-parts_some c = let v = c.loop-v.v in
    let cs = c.clusters-clusters.ensures in
    let ms = c.columns-masks.ensures in
    let u = unseen-is c.args.n c.args.distances.now c.args.parents.now _ _ c.requires cs ms v (omega arith) in
    sym (first-is _ _ v (omega arith) (sym u ∙ ap not (sym c.parts_some.ensures ∙ c.if-not-parts_some.true)) c.loop-v.invariant.1)

pub loop-v-preserved : goal.loop-v-preserved
loop-v-preserved c = let v = c.loop-v.v in
    let cs = c.clusters-clusters.ensures in
    let ms = c.columns-masks.ensures in
    let u = unseen-is c.args.n c.args.distances.now c.args.parents.now _ _ c.requires cs ms v (omega arith) in
    (search rules, below_more _ _ c.loop-v.invariant.1 (sym u ∙ ap not (sym c.parts_some.ensures ∙ c.if-not-parts_some.false)))

pub returns : goal.returns
returns c = sym (past_first _ _ (λ k l. c.loop-v.invariant.1 k (omega arith)))
