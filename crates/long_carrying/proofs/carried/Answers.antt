-- One level a turn, then the three digits at the top.
use mathlib.Core.Path.{◌≡◌, sym, ap, subst}
use Prim.Native.Nat.{ℕ, suc, ◌+◌, ◌-◌, ◌≤◌}
use native.Mathlib.Omega.{arith}
use lib.IntN.{ℤ, pos, nat_abs, ◌+ℤ◌}
use lib.ListN.{set}
use mir.Syntax.{w64}
use mir.Val.{to_z}
use Rattle.exact.specs.Order.{◌≤ᶻ◌}
use Rattle.exact.specs.Table.{entry_of}
use Rattle.exact.proofs.Sign.{back}
use Rattle.long_carrying.specs.Carried.{Parted}
use Rattle.long_carrying.proofs.Carrying.{Carrying, carry_start, carry_turn, carry_end, top_up, sum_near, sum_fits, sum_is, up_cast, up_is}
use Rattle.long_carrying.proofs.carried.Goals as goal
use Rattle.long_carrying.proofs.carried.Goals.{After-loop-level, After-parted-arg-1}

-- the level at hand
level-near : (c : After-parted-arg-1) → nat_abs (entry_of c.args.f.now (c.loop-level.level - 1)) ≤ 9000000000000000000
level-near c = c.requires.by_index (c.loop-level.level - 1) (omega (arith, c.loop-level.invariant.here, c.loop-level-test.true))

-- where the loop ends, what is left at the top
at_top : (c : After-loop-level) → Carrying c.args.levels (entry_of c.args.f.now) 0 (to_z w64 c.loop-level.carry-bits) c.loop-level.digits
at_top c = let e : c.loop-level.level ≡ 0 = omega (arith, c.loop-level-test.false) in
    subst (λ (i : ℕ). Carrying c.args.levels (entry_of c.args.f.now) i (to_z w64 c.loop-level.carry-bits) c.loop-level.digits) e c.loop-level.invariant

up : (c : After-loop-level) → pos 0 ≤ᶻ to_z w64 c.loop-level.carry-bits
up c = top_up _ _ (at_top c).up

pub loop-level-init : goal.loop-level-init
loop-level-init c = carry_start _ _ _ c.filled-digits.ensures.throughout c.requires.pos

pub offset_bounds-f-level : goal.offset_bounds-f-level
offset_bounds-f-level c = omega (arith, c.requires.levels_le_max_levels.1, c.loop-level.invariant.here, c.loop-level-test.true)

pub bounds-f-level : goal.bounds-f-level
bounds-f-level c = omega (arith, c.requires.levels_le_max_levels.1, c.loop-level.invariant.here, c.loop-level-test.true)

pub overflow_add-f : goal.overflow_add-f
overflow_add-f c = sum_fits (entry_of c.args.f.now (c.loop-level.level - 1)) (to_z w64 c.loop-level.carry-bits) (level-near c) c.loop-level.invariant.near

pub parted-part-requires : goal.parted-part-requires
parted-part-requires c = omega (arith, ap nat_abs (sum_is (entry_of c.args.f.now (c.loop-level.level - 1)) (to_z w64 c.loop-level.carry-bits) (level-near c) c.loop-level.invariant.near), sum_near (entry_of c.args.f.now (c.loop-level.level - 1)) (to_z w64 c.loop-level.carry-bits) (level-near c) c.loop-level.invariant.near)

pub overflow_add-digits : goal.overflow_add-digits
overflow_add-digits c = omega (arith, c.requires.levels_le_max_levels.0, c.loop-level.invariant.here, c.loop-level-test.true)

pub offset_bounds-digits-level : goal.offset_bounds-digits-level
offset_bounds-digits-level c = omega (arith, c.requires.levels_le_max_levels.0, c.loop-level.invariant.here, c.loop-level-test.true)

pub bounds-digits-level : goal.bounds-digits-level
bounds-digits-level c = omega (arith, c.requires.levels_le_max_levels.0, c.loop-level.invariant.here, c.loop-level-test.true)

pub loop-level-preserved : goal.loop-level-preserved
loop-level-preserved c = let l = c.loop-level in let r = c.parted-part.result in
    let p : Parted (entry_of c.args.f.now (l.level - 1) +ℤ to_z w64 l.carry-bits) r.over r.kept =
    subst (λ (z : ℤ). Parted z r.over r.kept) (sum_is (entry_of c.args.f.now (l.level - 1)) (to_z w64 l.carry-bits) (level-near c.before.before) l.invariant.near) c.parted-part.ensures in
    let e : l.level ≡ suc (l.level - 1) = omega (arith, c.loop-level-test.true) in
    subst (λ (z : ℤ). Carrying c.args.levels (entry_of c.args.f.now) (l.level - 1) z (set l.digits (l.level - 1 + 3) r.kept)) (sym (back r.over (omega (arith, p.near))))
    (carry_turn c.args.levels (entry_of c.args.f.now) (l.level - 1) (to_z w64 l.carry-bits) r.over r.kept l.digits (omega (arith, c.requires.levels_le_max_levels.0))
    (subst (λ (i : ℕ). Carrying c.args.levels (entry_of c.args.f.now) i (to_z w64 l.carry-bits) l.digits) e l.invariant) p)

pub overflow_cast-top : goal.overflow_cast-top
overflow_cast-top c = (up_cast _ (up c), record { fits = omega (arith, c.loop-level.invariant.near) })

pub overflow_cast-digits : goal.overflow_cast-digits
overflow_cast-digits c = record { fits = omega (arith, c.loop-level.invariant.near) }

pub overflow_cast-digits-2 : goal.overflow_cast-digits-2
overflow_cast-digits-2 c = record { fits = omega arith }

pub overflow_cast-digits-3 : goal.overflow_cast-digits-3
overflow_cast-digits-3 c = record { fits = omega arith }

pub returns : goal.returns
returns c = carry_end c.args.levels (entry_of c.args.f.now) (nat_abs (to_z w64 c.loop-level.carry-bits)) c.loop-level.digits
    (subst (λ (z : ℤ). Carrying c.args.levels (entry_of c.args.f.now) 0 z c.loop-level.digits) (up_is _ (up c)) (at_top c))
