-- The name that is lent is asked its form, then looked for before its place.
use mathlib.Core.Path.{sym, ◌∙◌}
use Prim.Native.Nat.{◌+◌, ◌≤◌}
use native.Mathlib.Omega.{arith}
use lib.ListN.{length, get_or}
use Rattle.names.proofs.Walking.{name-within, lent_is, out_unformed, out-new, out_repeated}
use Rattle.names.proofs.name_out.Goals as goal
use Rattle.names.proofs.name_out.Goals.{Start}

-- the name ends within the bytes
room : (p : Start) → p.args.at + 1 + get_or p.args.s.now p.args.at 0 ≤ length p.args.s.now
room p = name-within p.args.s.now p.args.from p.args.i p.args.at p.requires.at_value.0 p.requires.at_value.1

pub overflow_add-start : goal.overflow_add-start
overflow_add-start c = record { fits = omega (arith, room c.before.before) }

pub bounds-s-at : goal.bounds-s-at
bounds-s-at c = omega (arith, room c.before.before.before)

pub overflow_add-end : goal.overflow_add-end
overflow_add-end c = record { fits = omega (arith, room c.before.before.before) }

pub slice_bounds-is_name-end : goal.slice_bounds-is_name-end
slice_bounds-is_name-end c = room c.before.before.before

pub returns-then-not-is_name : goal.returns-then-not-is_name
returns-then-not-is_name c = let a = c.args in
    out_unformed a.s.now a.from a.i _ (lent_is a.s.now a.from a.i a.at c.requires.at_value.0) (sym c.is_name.ensures ∙ c.if-not-is_name.true)

pub returns-then-not-known : goal.returns-then-not-known
returns-then-not-known c = let a = c.args in
    out-new a.s.now a.from a.i _ (lent_is a.s.now a.from a.i a.at c.requires.at_value.0) (sym c.is_name.ensures ∙ c.if-not-is_name.false) (c.requires.i_value (c.if-not-known.true))

pub slice_bounds-strain_of-end : goal.slice_bounds-strain_of-end
slice_bounds-strain_of-end c = room c.before.before.before.before.before.before.before

pub strain_of-requires : goal.strain_of-requires
strain_of-requires c = omega (arith, room c.before.before.before.before.before.before.before.before, c.requires.at_value.0)

pub returns : goal.returns
returns c = let a = c.args in
    out_repeated a.s.now a.from a.i _ (lent_is a.s.now a.from a.i a.at c.requires.at_value.0) (sym c.is_name.ensures ∙ c.if-not-is_name.false) _ c.strain_of.ensures
