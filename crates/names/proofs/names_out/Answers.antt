-- Name after name, and none before the one at hand was out; the keys of those before it are known.
use mathlib.Core.Path.{◌≡◌, sym, ap, ◌∙◌}
use Prim.Native.Nat.{◌+◌, ◌≤◌}
use native.Mathlib.Omega.{arith}
use borrow.Author.Count.{below_none, below_more}
use lib.ListN.{length, get_or}
use Rattle.names.specs.Name.{key_from}
use Rattle.names.specs.Record.{name_of}
use Rattle.names.proofs.Keys.{key_none, key_new, key_marked}
use Rattle.names.proofs.Walking.{at_first_lem, at_next, at-within, lent_is, out-found, out_none}
use Rattle.names.proofs.names_out.Goals as goal
use Rattle.names.proofs.names_out.Goals.{After-key_of-key, In-loop-i}

-- name i ends within the bytes
room : (c : In-loop-i) → c.loop-i.at + 1 + get_or c.args.s.now c.loop-i.at 0 ≤ length c.args.s.now
room c =
    at-within c.args.s.now c.args.from c.args.n c.loop-i.invariant.0 c.requires c.loop-i-test.true

-- the key is that of name i
told : (c : After-key_of-key) → c.key_of-key.result ≡ key_from 0 (name_of c.args.s.now c.args.from c.loop-i.i)
told c =
    c.key_of-key.ensures.0 ∙ ap (key_from 0) (lent_is c.args.s.now c.args.from c.loop-i.i c.loop-i.at c.loop-i.invariant.0.place)

pub loop-i-init : goal.loop-i-init
loop-i-init c = (at_first_lem c.args.s.now c.args.from c.args.n, below_none _, key_none c.args.s.now c.args.from _ c.filled-known.ensures.size)

pub overflow_add-start : goal.overflow_add-start
overflow_add-start c = record { fits = omega (arith, room c) }

pub bounds-s-at : goal.bounds-s-at
bounds-s-at c = omega (arith, room (goal.at.bounds-s-at c).In-loop-i)

pub overflow_add-end : goal.overflow_add-end
overflow_add-end c = record { fits = omega (arith, room (goal.at.overflow_add-end c).In-loop-i) }

pub slice_bounds-key_of-end : goal.slice_bounds-key_of-end
slice_bounds-key_of-end c = room (goal.at.slice_bounds-key_of-end c).In-loop-i

pub bounds-known-key : goal.bounds-known-key
bounds-known-key c = c.key_of-key.ensures.1

pub name_out-requires : goal.name_out-requires
name_out-requires c = record {
  at_value = (c.loop-i.invariant.0.place, omega (arith, room (goal.at.name_out-requires c).In-loop-i, (at_next c.args.s.now c.args.from c.args.n c.loop-i.invariant.0 c.loop-i-test.true).place));
  i_value = key_new c.args.s.now c.args.from c.loop-i.i c.loop-i.known c.loop-i.invariant.2 c.key_of-key.result (told c);
}

pub returns-then-name_out : goal.returns-then-name_out
returns-then-name_out c = out-found c.args.s.now c.args.from c.args.n c.loop-i.i c.loop-i-test.true (sym c.name_out.ensures ∙ c.if-name_out.true)

pub bounds-known-key-in-loop-i : goal.bounds-known-key-in-loop-i
bounds-known-key-in-loop-i c = c.key_of-key.ensures.1

pub loop-i-preserved : goal.loop-i-preserved
loop-i-preserved c = (at_next c.args.s.now c.args.from c.args.n c.loop-i.invariant.0 c.loop-i-test.true, below_more _ _ c.loop-i.invariant.1 (sym c.name_out.ensures ∙ c.if-name_out.false), key_marked c.args.s.now c.args.from c.loop-i.i c.loop-i.known c.loop-i.invariant.2 c.key_of-key.result (told (goal.at.loop-i-preserved c).After-key_of-key) c.key_of-key.ensures.1)

pub returns : goal.returns
returns c = out_none c.args.s.now c.args.from c.args.n (λ k h. c.loop-i.invariant.1 k (omega (arith, c.loop-i.invariant.0.few)))
