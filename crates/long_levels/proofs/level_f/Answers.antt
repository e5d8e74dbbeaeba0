-- One edge a turn.
use mathlib.Core.Path.{sym, ◌∙◌, ap, subst}
use Prim.Native.Nat.{◌-◌}
use native.Mathlib.Omega.{arith}
use lib.IntN.{ℤ, pos, ◌*ℤ◌}
use mir.Syntax.{w64}
use mir.Val.{to_z, of_z}
use mir.Facts.{to_z-of_z}
use Rattle.exact.specs.Table.{entry_of}
use Rattle.long_levels.specs.Levels.{Splits, level_f}
use Rattle.long_levels.proofs.Levelling.{FSoFar, f-start, f-turn, f-end, first_fits, term_fits, next_fits, digit-fits}
use Rattle.long_levels.proofs.level_f.Goals as goal
use Rattle.long_levels.proofs.level_f.Goals.{Start}

-- the tables, beside the number as the code has it
lent : (c : Start) → Splits c.args.edges (to_z w64 (of_z w64 c.args.squares)) c.args.splits.now
lent c = subst (λ (q : ℤ). Splits c.args.edges q c.args.splits.now) (sym (to_z-of_z c.ranges.squares)) c.requires.splits

pub overflow_cast-f : goal.overflow_cast-f
overflow_cast-f c = digit-fits _ c.requires.d_lt_base.0

pub overflow_mul-f : goal.overflow_mul-f
overflow_mul-f c = first_fits c.requires.splits c.args.d c.requires.d_lt_base.0 (entry_of c.args.level.now)

pub loop-v-init : goal.loop-v-init
loop-v-init c = subst (λ (q : ℤ). FSoFar c.args.edges q (entry_of c.args.splits.now) (entry_of c.args.level.now) (pos c.args.d) 0 (to_z w64 (of_z w64 (to_z w64 c.args.d *ℤ to_z w64 (of_z w64 c.args.squares))))) (sym (to_z-of_z c.ranges.squares))
    (f-start c.requires.splits c.args.d c.requires.d_lt_base.0 (entry_of c.args.level.now))

pub bounds-level-v : goal.bounds-level-v
bounds-level-v c = omega (arith, c.requires.d_lt_base.1.room, c.loop-v-test.true)

pub bounds-splits-v : goal.bounds-splits-v
bounds-splits-v c = omega (arith, c.requires.splits.few, c.loop-v-test.true)

pub overflow_mul-f-in-loop-v : goal.overflow_mul-f-in-loop-v
overflow_mul-f-in-loop-v c = let l = c.loop-v in term_fits (lent (c.before.before.before.before)) c.args.d c.requires.d_lt_base.0 (entry_of c.args.level.now) c.requires.d_lt_base.1.digits l.v c.loop-v-test.true (to_z w64 l.f-bits) l.invariant

pub overflow_sub-f : goal.overflow_sub-f
overflow_sub-f c = let l = c.loop-v in next_fits (lent (c.before.before.before.before)) c.args.d c.requires.d_lt_base.0 (entry_of c.args.level.now) c.requires.d_lt_base.1.digits l.v c.loop-v-test.true (to_z w64 l.f-bits) l.invariant

pub loop-v-preserved : goal.loop-v-preserved
loop-v-preserved c = let l = c.loop-v in f-turn (lent (c.before.before.before.before)) c.args.d c.requires.d_lt_base.0 (entry_of c.args.level.now) c.requires.d_lt_base.1.digits l.v c.loop-v-test.true (to_z w64 l.f-bits) l.invariant

pub returns : goal.returns
returns c = let l = c.loop-v in
    let (e, h) = f-end l.v (to_z w64 l.f-bits) c.requires.splits.few c.loop-v-test.false l.invariant in
    (e ∙ ap (λ (q : ℤ). level_f c.args.edges q (entry_of c.args.splits.now) (pos c.args.d) (entry_of c.args.level.now)) (to_z-of_z c.ranges.squares), h)
