-- A distance a turn, each from where its pair stands among the rows.
use mathlib.Core.Path.{sym, ◌∙◌}
use Prim.Native.Nat.{◌-◌, ◌<◌}
use native.Mathlib.Omega.{arith}
use lib.ListN.{length}
use Rattle.desk_tables.proofs.Laying.{laying_start, laying_turn, pair-there, pair-low, source_within, strains-size, front-laid}
use Rattle.desk_tables.proofs.lay_distances.Goals as goal
use Rattle.desk_tables.proofs.lay_distances.Goals.{After-source}

module _ (c : After-source) where
  within : c.source.result < length c.args.rows.now
  within = let l = c.loop-k in
      source_within c.args.n c.args.rows.now l.k l.i l.j _ _ c.is_matrix-ordered.ensures c.loop-k-test.true l.invariant.i-is l.invariant.j-is c.source.ensures

pub is_matrix-ordered-requires : goal.is_matrix-ordered-requires
is_matrix-ordered-requires c = tt

pub loop-k-init : goal.loop-k-init
loop-k-init c = laying_start _ _ _ _

pub source-requires : goal.source-requires
source-requires c = λ o. let l = c.loop-k in let a = c.args in pair-there a.n a.rows.now l.k l.i l.j c.loop-k-test.true l.invariant.i-is l.invariant.j-is (sym c.is_matrix-ordered.ensures ∙ o)

pub offset_bounds-rows-source : goal.offset_bounds-rows-source
offset_bounds-rows-source c = record { fits = let h = within c in omega (arith, h) }

pub bounds-rows-source : goal.bounds-rows-source
bounds-rows-source c = within (goal.at.bounds-rows-source c).After-source

pub bounds-distances-k : goal.bounds-distances-k
bounds-distances-k c = let l = c.loop-k in omega (arith, l.invariant.size)

pub next_pair-next-requires : goal.next_pair-next-requires
next_pair-next-requires c = let l = c.loop-k in let b = pair-low l.k in (omega (arith, b.0, l.invariant.i-is), omega (arith, b.1, l.invariant.j-is))

pub loop-k-preserved : goal.loop-k-preserved
loop-k-preserved c = let l = c.loop-k in laying_turn _ _ _ _ _ l.k l.i l.j _ _ _ c.is_matrix-ordered.ensures c.requires.0 c.loop-k-test.true c.source.ensures c.next_pair-next.ensures.0 c.next_pair-next.ensures.1 l.invariant

pub shape_of-distances : goal.shape_of-distances
shape_of-distances c = c.loop-k.invariant.size

pub returns : goal.returns
returns c = let l = c.loop-k in let n = strains-size c.args.n c.args.rows.now in
    front-laid _ _ _ l.k (omega (arith, n, c.requires.0)) l.invariant.size (omega (arith, n, l.invariant.few, c.loop-k-test.false)) l.invariant.laid
