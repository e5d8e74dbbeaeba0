-- Name after name of the right length is compared, and none before the one at hand was the same.
use mathlib.Core.Path.{◌≡◌, sym, ap, ◌∙◌}
use mathlib.Core.Bool.{Bool, false}
use mathlib.Core.List.{List}
use Prim.Native.Nat.{ℕ, ◌+◌, ◌-◌, ◌≤◌, ◌<◌}
use native.Mathlib.Omega.{arith}
use borrow.Author.Count.{below_none, below_more}
use lib.ListN.{length, get_or, take, drop}
use Rattle.digits.specs.Digits.{same}
use Rattle.names.specs.Record.{name_of}
use Rattle.names.proofs.Walking.{At, at_first_lem, at_next, at-within, lent_is, size-apart, place_found, place_none}
use Rattle.names.proofs.strain_of.Goals as goal
use Rattle.names.proofs.strain_of.Goals.{In-loop-i, then-size-name+else-same, else-size-name}

-- name i ends within the bytes
room : (c : In-loop-i) → c.loop-i.at + 1 + get_or c.args.s.now c.loop-i.at 0 ≤ length c.args.s.now
room c =
    at-within c.args.s.now c.args.from c.args.n c.loop-i.invariant.0 c.requires c.loop-i-test.true

-- what was compared is name i
told : (c : In-loop-i) {b : Bool} → b ≡ same (take (c.loop-i.at + 1 + get_or c.args.s.now c.loop-i.at 0 - (c.loop-i.at + 1)) (drop (c.loop-i.at + 1) c.args.s.now)) c.args.name.now
    → b ≡ same (name_of c.args.s.now c.args.from c.loop-i.i) c.args.name.now
told c e =
    e ∙ ap (λ (x : List ℕ). same x c.args.name.now) (lent_is c.args.s.now c.args.from c.loop-i.i c.loop-i.at c.loop-i.invariant.0.place)

-- name i is not the same, and the walk goes on
again : (c : In-loop-i) → same (name_of c.args.s.now c.args.from c.loop-i.i) c.args.name.now ≡ false
    → (At c.args.s.now c.args.from c.args.n (c.loop-i.at + 1 + get_or c.args.s.now c.loop-i.at 0) (c.loop-i.i + 1)) × ((k : ℕ) → k < c.loop-i.i + 1 → same (name_of c.args.s.now c.args.from k) c.args.name.now ≡ false)
again c e =
    (at_next c.args.s.now c.args.from c.args.n c.loop-i.invariant.0 c.loop-i-test.true, below_more _ _ c.loop-i.invariant.1 e)

pub loop-i-init : goal.loop-i-init
loop-i-init c = (at_first_lem c.args.s.now c.args.from c.args.n, below_none _)

pub bounds-s-at : goal.bounds-s-at
bounds-s-at c = omega (arith, room (goal.at.bounds-s-at c).In-loop-i)

pub overflow_add-start : goal.overflow_add-start
overflow_add-start c = record { fits = omega (arith, room (goal.at.overflow_add-start c).In-loop-i) }

pub overflow_add-at : goal.overflow_add-at
overflow_add-at c = record { fits = omega (arith, room (goal.at.overflow_add-at c).In-loop-i) }

pub slice_bounds-same-end : goal.slice_bounds-same-end
slice_bounds-same-end c = room (goal.at.slice_bounds-same-end c).In-loop-i

pub returns-then-same : goal.returns-then-same
returns-then-same c = place_found c.args.s.now c.args.from c.args.n c.args.name.now c.loop-i.i c.loop-i-test.true (sym (told (goal.at.returns-then-same c).In-loop-i c.same.ensures) ∙ c.if-same.true) c.loop-i.invariant.1

pub loop-i-preserved : goal.loop-i-preserved
loop-i-preserved c = let l = (goal.at.loop-i-preserved c).In-loop-i in
    elim c.if-size-name.branch [
      | then-size-name+else-same w ↦ again l (sym (told l w.same.ensures) ∙ w.if-same.false)
      | else-size-name w ↦ again l (size-apart c.args.s.now c.args.from c.loop-i.i c.loop-i.at c.loop-i.invariant.0.place (room l) c.args.name.now w.if-size-name.false)
    ]

pub returns : goal.returns
returns c = place_none c.args.s.now c.args.from c.args.n c.args.name.now (λ k h. c.loop-i.invariant.1 k (omega (arith, c.loop-i.invariant.0.few)))
