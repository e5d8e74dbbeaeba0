-- Name after name: the entries at the keys of those before the one at hand are at most theirs.
use mathlib.Core.Path.{◌≡◌, sym, ap, ◌∙◌, subst}
use Prim.Native.Nat.{ℕ, ◌+◌, ◌≤◌}
use native.Mathlib.Omega.{arith}
use lib.ListN.{length, get_or}
use Rattle.names.specs.Name.{key_from}
use Rattle.names.specs.Record.{name_of}
use Rattle.names.proofs.Walking.{at_first_lem, at_next, at-within, lent_is}
use Rattle.name_keys.specs.Keyed.{Firsts}
use Rattle.name_keys.proofs.Keying.{first-none, first-kept, first-put}
use Rattle.name_keys.proofs.first_strains.Goals as goal
use Rattle.name_keys.proofs.first_strains.Goals.{After-key_of-key, In-loop-i, then-strain-firsts, else-strain-firsts}

-- name i ends within the bytes
room : (c : In-loop-i) → c.loop-i.at + 1 + get_or c.args.s.now c.loop-i.at 0 ≤ length c.args.s.now
room c =
    at-within c.args.s.now c.args.from c.args.n c.loop-i.invariant.0 c.requires.1 c.loop-i-test.true

-- the key is that of name i
told : (c : After-key_of-key) → c.key_of-key.result ≡ key_from 0 (name_of c.args.s.now c.args.from c.loop-i.i)
told c =
    c.key_of-key.ensures.0 ∙ ap (key_from 0) (lent_is c.args.s.now c.args.from c.loop-i.i c.loop-i.at c.loop-i.invariant.0.place)

pub loop-i-init : goal.loop-i-init
loop-i-init c = (at_first_lem c.args.s.now c.args.from c.args.n, first-none c.args.s.now c.args.from _ c.filled-firsts.ensures.size)

pub overflow_add-start : goal.overflow_add-start
overflow_add-start c = record { fits = omega (arith, room c) }

pub bounds-s-at : goal.bounds-s-at
bounds-s-at c = omega (arith, room (goal.at.bounds-s-at c).In-loop-i)

pub overflow_cast-end : goal.overflow_cast-end
overflow_cast-end c = record { fits = omega (arith, c.shared_slice_known-in-loop-i-1.given c.loop-i.at) }

pub overflow_add-end : goal.overflow_add-end
overflow_add-end c = record { fits = omega (arith, room (goal.at.overflow_add-end c).In-loop-i) }

pub slice_bounds-key_of-end : goal.slice_bounds-key_of-end
slice_bounds-key_of-end c = room (goal.at.slice_bounds-key_of-end c).In-loop-i

pub overflow_cast-strain : goal.overflow_cast-strain
overflow_cast-strain c = omega (arith, c.loop-i-test.true, c.requires.0)

pub bounds-firsts-key : goal.bounds-firsts-key
bounds-firsts-key c = c.key_of-key.ensures.1

pub bounds-firsts-key-then-strain-firsts : goal.bounds-firsts-key-then-strain-firsts
bounds-firsts-key-then-strain-firsts c = c.key_of-key.ensures.1

pub loop-i-preserved : goal.loop-i-preserved
loop-i-preserved c = let a = c.args in (
  at_next a.s.now a.from a.n c.loop-i.invariant.0 c.loop-i-test.true,
  elim c.if-strain-firsts.branch [
    | then-strain-firsts w ↦ subst (Firsts a.s.now a.from (c.loop-i.i + 1)) (sym w.firsts-is) (first-put a.s.now a.from c.loop-i.i c.loop-i.firsts c.loop-i.invariant.1 c.key_of-key.result (told (goal.at.loop-i-preserved c).After-key_of-key) c.key_of-key.ensures.1 w.if-strain-firsts.true)
    | else-strain-firsts w ↦ subst (Firsts a.s.now a.from (c.loop-i.i + 1)) (sym w.firsts-is) (first-kept a.s.now a.from c.loop-i.i c.loop-i.firsts c.loop-i.invariant.1 c.key_of-key.result (told (goal.at.loop-i-preserved c).After-key_of-key) w.if-strain-firsts.false)
  ],
)

pub returns : goal.returns
returns c = let e : c.loop-i.i ≡ c.args.n = omega (arith, c.loop-i.invariant.0.few, c.loop-i-test.false) in
    subst (λ (i : ℕ). Firsts c.args.s.now c.args.from i c.loop-i.firsts) e c.loop-i.invariant.1
