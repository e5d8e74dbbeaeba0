-- The numbers that a turn reads are what stands there, and what it writes is what its vertex and its edge are to have.
use mathlib.Core.Path.{◌≡◌, ap, ap₂, ◌∙◌}
use Prim.Native.Nat.{ℕ, ◌-◌, ◌≤◌, ◌<◌}
use native.Mathlib.Omega.{arith}
use lib.IntN.{ℤ, pos, ◌+ℤ◌, ◌-ℤ◌, ◌*ℤ◌}
use mir.Syntax.{w64}
use mir.Val.{to_z, of_z}
use Rattle.exact.specs.Table.{entry_of}
use Rattle.exact.proofs.Sign.{back, back-pos, fits_abs}
use Rattle.tree_theory.specs.Limits.{max_edges}
use Rattle.tree_theory.specs.Chain.{parent_of}
use Rattle.inner_paths.specs.Between.{Lengthened}
use Rattle.path_sums.specs.Sums.{path_sum, ways_out}
use Rattle.path_sums.proofs.Worked.{as_is, back_as}
use Rattle.path_sums.proofs.Gathering.{few}
use Rattle.path_sums.proofs.Spreading as turn
use Rattle.path_sums.proofs.spread.Goals as goal
use Rattle.path_sums.proofs.spread.Goals.{At-loop-w, Start}

module _ (l : At-loop-w) (more : 0 < l.loop-w.w) where
  abbrev start : Start
  start = l.before.before.before

  abbrev L : Lengthened start.args.n start.args.edges start.args.parents.now start.args.x.now
  L = start.requires.lengthened

  abbrev u : ℕ
  u = l.loop-w.w - 1

  abbrev all_in : ℤ
  all_in = to_z w64 start.args.n

  abbrev size : ℤ
  size = entry_of l.loop-w.sizes u

  abbrev size_in : ℤ
  size_in = to_z w64 (of_z w64 size)

  abbrev way : ℤ
  way = entry_of l.loop-w.ways u

  abbrev way_in : ℤ
  way_in = to_z w64 (of_z w64 way)

  abbrev step : ℤ
  step = entry_of start.args.x.now u

  abbrev above : ℤ
  above = entry_of l.loop-w.ways (parent_of start.args.parents.now u)

  low_in : u < start.args.edges
  low_in = turn.edge L more l.loop-w.invariant

  low : u < 125
  low = omega (arith, low_in, few L)

  above_low : parent_of start.args.parents.now u ≤ max_edges
  above_low = turn.parent_low L more l.loop-w.invariant

  -- the numbers are read as they stand
  all_in_lem : all_in ≡ pos start.args.n
  all_in_lem = back-pos start.args.n (omega (arith, L.allowed.few))

  size_in_lem : size_in ≡ size
  size_in_lem = back size (omega (arith, turn.size-near L more l.loop-w.invariant))

  way_in_lem : way_in ≡ way
  way_in_lem = back way (turn.way-near L more l.loop-w.invariant)

  step_in : to_z w64 (of_z w64 step) ≡ step
  step_in = back step (omega (arith, turn.step-near L more l.loop-w.invariant))

  above_in : to_z w64 (of_z w64 above) ≡ above
  above_in = back above (omega (arith, turn.above-near L more l.loop-w.invariant))

  twice : pos 2 *ℤ size_in ≡ pos 2 *ℤ size
  twice = ap (λ (y : ℤ). pos 2 *ℤ y) size_in_lem

  sides : all_in -ℤ pos 2 *ℤ size_in ≡ pos start.args.n -ℤ pos 2 *ℤ size
  sides = ap₂ ◌-ℤ◌ all_in_lem twice

  moved : to_z w64 (of_z w64 step) *ℤ (all_in -ℤ pos 2 *ℤ size_in) ≡ step *ℤ (pos start.args.n -ℤ pos 2 *ℤ size)
  moved = ap₂ ◌*ℤ◌ step_in sides

  down : to_z w64 (of_z w64 above) +ℤ to_z w64 (of_z w64 step) *ℤ (all_in -ℤ pos 2 *ℤ size_in) ≡ above +ℤ step *ℤ (pos start.args.n -ℤ pos 2 *ℤ size)
  down = ap₂ ◌+ℤ◌ above_in moved

  beyond : all_in -ℤ size_in ≡ pos start.args.n -ℤ size
  beyond = ap₂ ◌-ℤ◌ all_in_lem size_in_lem

  first : (all_in -ℤ size_in) *ℤ way_in ≡ (pos start.args.n -ℤ size) *ℤ way
  first = ap₂ ◌*ℤ◌ beyond way_in_lem

  abbrev out : ℤ
  out = ways_out start.args.n start.args.edges (parent_of start.args.parents.now) (entry_of start.args.x.now) u

  module _ (f : ℤ) where
    out-is : f ≡ to_z w64 (of_z w64 above) +ℤ to_z w64 (of_z w64 step) *ℤ (all_in -ℤ pos 2 *ℤ size_in) → f ≡ out
    out-is e = e ∙ down ∙ turn.down_is L more l.loop-w.invariant

    module _ (e : f ≡ out) where
      far_in : to_z w64 (of_z w64 f) ≡ f
      far_in = back f (turn.far-near L more l.loop-w.invariant f e)

      on : to_z w64 (of_z w64 f) -ℤ way_in ≡ f -ℤ way
      on = ap₂ ◌-ℤ◌ far_in way_in_lem

      second : size_in *ℤ (to_z w64 (of_z w64 f) -ℤ way_in) ≡ size *ℤ (f -ℤ way)
      second = ap₂ ◌*ℤ◌ size_in_lem on

      far-is : to_z w64 (of_z w64 f) ≡ out
      far-is = far_in ∙ e

      sum_is : (r : ℤ) → r ≡ (all_in -ℤ size_in) *ℤ way_in +ℤ size_in *ℤ (to_z w64 (of_z w64 f) -ℤ way_in) → to_z w64 (of_z w64 r) ≡ path_sum start.args.n start.args.edges (parent_of start.args.parents.now) (entry_of start.args.x.now) u
      sum_is r h = back_as (h ∙ ap₂ ◌+ℤ◌ first second) (turn.sum_near L more l.loop-w.invariant f e) ∙ turn.across-is L more l.loop-w.invariant f e

pub overflow_cast-all : goal.overflow_cast-all
overflow_cast-all c = fits_abs (pos c.args.n) (omega (arith, c.requires.lengthened.allowed.few))

pub loop-w-init : goal.loop-w-init
loop-w-init c = turn.spread-start c.requires.lengthened c.requires.gathered

pub offset_bounds-sizes-w : goal.offset_bounds-sizes-w
offset_bounds-sizes-w c = record { fits = omega (arith, low (goal.at.offset_bounds-sizes-w c).At-loop-w c.loop-w-test.true) }

pub bounds-sizes-w : goal.bounds-sizes-w
bounds-sizes-w c = omega (arith, low (goal.at.bounds-sizes-w c).At-loop-w c.loop-w-test.true)

pub offset_bounds-ways-w : goal.offset_bounds-ways-w
offset_bounds-ways-w c = record { fits = omega (arith, low (goal.at.offset_bounds-ways-w c).At-loop-w c.loop-w-test.true) }

pub bounds-ways-w : goal.bounds-ways-w
bounds-ways-w c = omega (arith, low (goal.at.bounds-ways-w c).At-loop-w c.loop-w-test.true)

pub bounds-parents-w : goal.bounds-parents-w
bounds-parents-w c = omega (arith, low_in (goal.at.bounds-parents-w c).At-loop-w c.loop-w-test.true, c.requires.lengthened.room)

pub overflow_cast-parents : goal.overflow_cast-parents
overflow_cast-parents c = omega (arith, above_low (goal.at.overflow_cast-parents c).At-loop-w c.loop-w-test.true)

pub offset_bounds-ways-parents : goal.offset_bounds-ways-parents
offset_bounds-ways-parents c = record { fits = omega (arith, above_low (goal.at.offset_bounds-ways-parents c).At-loop-w c.loop-w-test.true) }

pub bounds-ways-parents : goal.bounds-ways-parents
bounds-ways-parents c = omega (arith, above_low (goal.at.bounds-ways-parents c).At-loop-w c.loop-w-test.true)

pub offset_bounds-x-w : goal.offset_bounds-x-w
offset_bounds-x-w c = record { fits = omega (arith, low (goal.at.offset_bounds-x-w c).At-loop-w c.loop-w-test.true) }

pub bounds-x-w : goal.bounds-x-w
bounds-x-w c = omega (arith, low_in (goal.at.bounds-x-w c).At-loop-w c.loop-w-test.true, c.requires.lengthened.small.room)

pub one_down-far-requires : goal.one_down-far-requires
one_down-far-requires c = let more = c.loop-w-test.true in (
  as_is (twice (goal.at.one_down-far-requires c).At-loop-w more) (omega (arith, turn.twice-near (L (goal.at.one_down-far-requires c).At-loop-w more) more c.loop-w.invariant)),
  as_is (sides (goal.at.one_down-far-requires c).At-loop-w more) (omega (arith, turn.sides-near (L (goal.at.one_down-far-requires c).At-loop-w more) more c.loop-w.invariant)),
  as_is (moved (goal.at.one_down-far-requires c).At-loop-w more) (turn.moved-near (L (goal.at.one_down-far-requires c).At-loop-w more) more c.loop-w.invariant),
  as_is (down (goal.at.one_down-far-requires c).At-loop-w more) (turn.down-near (L (goal.at.one_down-far-requires c).At-loop-w more) more c.loop-w.invariant),
)

pub offset_bounds-ways-w-in-loop-w : goal.offset_bounds-ways-w-in-loop-w
offset_bounds-ways-w-in-loop-w c = record { fits = omega (arith, low (goal.at.offset_bounds-ways-w-in-loop-w c).At-loop-w c.loop-w-test.true) }

pub bounds-ways-w-in-loop-w : goal.bounds-ways-w-in-loop-w
bounds-ways-w-in-loop-w c = omega (arith, low (goal.at.bounds-ways-w-in-loop-w c).At-loop-w c.loop-w-test.true)

pub across-requires : goal.across-requires
across-requires c = let more = c.loop-w-test.true in
    let f = c.one_down-far.result in let e = out-is (goal.at.across-requires c).At-loop-w more f c.one_down-far.ensures in record {
      size_bound = (as_is (beyond (goal.at.across-requires c).At-loop-w more) (turn.beyond-near (L (goal.at.across-requires c).At-loop-w more) more c.loop-w.invariant), as_is (on (goal.at.across-requires c).At-loop-w more f e) (turn.on-near (L (goal.at.across-requires c).At-loop-w more) more c.loop-w.invariant f e));
      way_bound = (as_is (first (goal.at.across-requires c).At-loop-w more) (turn.first-near (L (goal.at.across-requires c).At-loop-w more) more c.loop-w.invariant f e), as_is (second (goal.at.across-requires c).At-loop-w more f e) (turn.second-near (L (goal.at.across-requires c).At-loop-w more) more c.loop-w.invariant f e));
      way_bound_2 = as_is (ap₂ ◌+ℤ◌ (first (goal.at.across-requires c).At-loop-w more) (second (goal.at.across-requires c).At-loop-w more f e)) (turn.sum_near (L (goal.at.across-requires c).At-loop-w more) more c.loop-w.invariant f e);
    }

pub offset_bounds-sizes-w-in-loop-w : goal.offset_bounds-sizes-w-in-loop-w
offset_bounds-sizes-w-in-loop-w c = record { fits = omega (arith, low (goal.at.offset_bounds-sizes-w-in-loop-w c).At-loop-w c.loop-w-test.true) }

pub bounds-sizes-w-in-loop-w : goal.bounds-sizes-w-in-loop-w
bounds-sizes-w-in-loop-w c = omega (arith, low (goal.at.bounds-sizes-w-in-loop-w c).At-loop-w c.loop-w-test.true)

pub loop-w-preserved : goal.loop-w-preserved
loop-w-preserved c = let more = c.loop-w-test.true in
    let f = c.one_down-far.result in let e = out-is (goal.at.loop-w-preserved c).At-loop-w more f c.one_down-far.ensures in
    turn.spread-turn (L (goal.at.loop-w-preserved c).At-loop-w more) more c.loop-w.invariant _ _ (far-is (goal.at.loop-w-preserved c).At-loop-w more f e) (sum_is (goal.at.loop-w-preserved c).At-loop-w more f e c.across.result c.across.ensures)

pub returns : goal.returns
returns c = turn.spread_end c.requires.lengthened (omega (arith, c.loop-w-test.false)) c.loop-w.invariant
