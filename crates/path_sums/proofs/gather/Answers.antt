-- The entries that a turn reads are what stands there, and what it writes is what stands there then.
use mathlib.Core.Path.{◌≡◌, ap₂, ◌∙◌}
use mathlib.Core.List.{List}
use Prim.Native.Nat.{ℕ, ◌-◌, ◌≤◌, ◌<◌, ◌^◌}
use native.Mathlib.Omega.{arith}
use lib.IntN.{ℤ, nat_abs, ◌+ℤ◌, ◌*ℤ◌}
use mir.Syntax.{w64}
use mir.Val.{to_z, of_z}
use Rattle.exact.specs.Table.{entry_of}
use Rattle.exact.proofs.Sign.{back, nat_abs_add}
use Rattle.tree_theory.specs.Limits.{max_edges}
use Rattle.tree_theory.specs.Chain.{parent_of}
use Rattle.inner_paths.specs.Between.{Lengthened}
use Rattle.path_sums.proofs.Worked.{fits_as, back_as, as_is}
use Rattle.path_sums.proofs.Gathering.{gather_start, gather_end, gather_turn, parent_low, size-near, size-there-near, way-near, way-there-near, step-near, both-near, steps-near, all_near}
use Rattle.path_sums.proofs.gather.Goals as goal
use Rattle.path_sums.proofs.gather.Goals.{At-loop-v}

module _ (l : At-loop-v) (edge : l.loop-v.v < l.args.edges) where
  abbrev w : Lengthened l.args.n l.args.edges l.args.parents.now l.args.x.now
  w = l.requires.lengthened

  abbrev m : ℕ
  m = parent_of l.args.parents.now l.loop-v.v

  abbrev v : ℕ
  v = l.loop-v.v

  abbrev sizes : List ℤ
  sizes = l.loop-v.sizes

  abbrev ways : List ℤ
  ways = l.loop-v.ways

  abbrev step : ℤ
  step = entry_of l.args.x.now v

  low : m ≤ max_edges
  low = parent_low w edge l.loop-v.invariant

  -- the entries are read as they stand
  size_in_lem : to_z w64 (of_z w64 (entry_of sizes v)) ≡ entry_of sizes v
  size_in_lem = back (entry_of sizes v) (omega (arith, size-near w edge l.loop-v.invariant))

  sizes_are : to_z w64 (of_z w64 (entry_of sizes m)) +ℤ to_z w64 (of_z w64 (entry_of sizes v)) ≡ entry_of sizes m +ℤ entry_of sizes v
  sizes_are = ap₂ ◌+ℤ◌ (back (entry_of sizes m) (omega (arith, size-there-near w edge l.loop-v.invariant))) size_in_lem

  sizes-fit : nat_abs (entry_of sizes m +ℤ entry_of sizes v) < 2 ^ 63
  sizes-fit = omega (arith, nat_abs_add (entry_of sizes m) (entry_of sizes v), size-near w edge l.loop-v.invariant, size-there-near w edge l.loop-v.invariant)

  both_in : to_z w64 (of_z w64 (entry_of ways m)) +ℤ to_z w64 (of_z w64 (entry_of ways v)) ≡ entry_of ways m +ℤ entry_of ways v
  both_in = ap₂ ◌+ℤ◌ (back (entry_of ways m) (omega (arith, way-there-near w edge l.loop-v.invariant))) (back (entry_of ways v) (omega (arith, way-near w edge l.loop-v.invariant)))

  steps_in : to_z w64 (of_z w64 (entry_of sizes v)) *ℤ to_z w64 (of_z w64 step) ≡ entry_of sizes v *ℤ step
  steps_in = ap₂ ◌*ℤ◌ size_in_lem (back step (omega (arith, step-near w edge l.loop-v.invariant)))

pub loop-v-init : goal.loop-v-init
loop-v-init c = gather_start c.requires.lengthened _ _ c.requires.alone c.requires.ways_value

pub overflow_cast-m : goal.overflow_cast-m
overflow_cast-m c = omega (arith, low (goal.at.overflow_cast-m c).At-loop-v c.loop-v-test.true)

pub offset_bounds-sizes-m : goal.offset_bounds-sizes-m
offset_bounds-sizes-m c = record { fits = omega (arith, low (goal.at.offset_bounds-sizes-m c).At-loop-v c.loop-v-test.true) }

pub bounds-sizes-m : goal.bounds-sizes-m
bounds-sizes-m c = omega (arith, low (goal.at.bounds-sizes-m c).At-loop-v c.loop-v-test.true)

pub overflow_add-sizes : goal.overflow_add-sizes
overflow_add-sizes c = fits_as (sizes_are (goal.at.overflow_add-sizes c).At-loop-v c.loop-v-test.true) (sizes-fit (goal.at.overflow_add-sizes c).At-loop-v c.loop-v-test.true)

pub offset_bounds-sizes-m-in-loop-v : goal.offset_bounds-sizes-m-in-loop-v
offset_bounds-sizes-m-in-loop-v c = record { fits = omega (arith, low (goal.at.offset_bounds-sizes-m-in-loop-v c).At-loop-v c.loop-v-test.true) }

pub bounds-sizes-m-in-loop-v : goal.bounds-sizes-m-in-loop-v
bounds-sizes-m-in-loop-v c = omega (arith, low (goal.at.bounds-sizes-m-in-loop-v c).At-loop-v c.loop-v-test.true)

pub offset_bounds-ways-m : goal.offset_bounds-ways-m
offset_bounds-ways-m c = record { fits = omega (arith, low (goal.at.offset_bounds-ways-m c).At-loop-v c.loop-v-test.true) }

pub bounds-ways-m : goal.bounds-ways-m
bounds-ways-m c = omega (arith, low (goal.at.bounds-ways-m c).At-loop-v c.loop-v-test.true)

pub come_up-requires : goal.come_up-requires
come_up-requires c = let edge = c.loop-v-test.true in (as_is (both_in (goal.at.come_up-requires c).At-loop-v edge) (both-near c.requires.lengthened edge c.loop-v.invariant), as_is (steps_in (goal.at.come_up-requires c).At-loop-v edge) (omega (arith, steps-near c.requires.lengthened edge c.loop-v.invariant)), as_is (ap₂ ◌+ℤ◌ (both_in (goal.at.come_up-requires c).At-loop-v edge) (steps_in (goal.at.come_up-requires c).At-loop-v edge)) (all_near c.requires.lengthened edge c.loop-v.invariant))

pub offset_bounds-ways-m-in-loop-v : goal.offset_bounds-ways-m-in-loop-v
offset_bounds-ways-m-in-loop-v c = record { fits = omega (arith, low (goal.at.offset_bounds-ways-m-in-loop-v c).At-loop-v c.loop-v-test.true) }

pub bounds-ways-m-in-loop-v : goal.bounds-ways-m-in-loop-v
bounds-ways-m-in-loop-v c = omega (arith, low (goal.at.bounds-ways-m-in-loop-v c).At-loop-v c.loop-v-test.true)

pub loop-v-preserved : goal.loop-v-preserved
loop-v-preserved c = let edge = c.loop-v-test.true in gather_turn c.requires.lengthened edge c.loop-v.invariant _ _ (back_as (sizes_are (goal.at.loop-v-preserved c).At-loop-v edge) (sizes-fit (goal.at.loop-v-preserved c).At-loop-v edge)) (back_as (c.come_up.ensures ∙ ap₂ ◌+ℤ◌ (both_in (goal.at.loop-v-preserved c).At-loop-v edge) (steps_in (goal.at.loop-v-preserved c).At-loop-v edge)) (all_near c.requires.lengthened edge c.loop-v.invariant))

pub returns : goal.returns
returns c = gather_end c.requires.lengthened c.loop-v-test.false c.loop-v.invariant
