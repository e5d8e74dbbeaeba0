-- The strain at the key of the name has it, and then it is the first that does; or all names are gone through.
use mathlib.Core.Path.{sym, ap, ◌∙◌}
use mathlib.Core.List.{List}
use Prim.Native.Nat.{ℕ, ◌+◌, ◌≤◌}
use native.Mathlib.Omega.{arith}
use lib.ListN.{length, get_or}
use Rattle.digits.specs.Digits.{same}
use Rattle.names.proofs.Walking.{lent_is}
use Rattle.name_keys.proofs.Keying.{key_found, name-room}
use Rattle.name_keys.proofs.find_strain.Goals as goal
use Rattle.name_keys.proofs.find_strain.Goals.{Start, Then-i-n}

-- the strain at the key
module _ (c : Then-i-n) where
  abbrev start : Start
  start = c.before.before.before.before.before.before.before.before

  abbrev i : ℕ
  i = c.from-i.result

  abbrev at : ℕ
  at = get_or start.args.starts.now i 0

  room : at + 1 + get_or start.args.s.now at 0 ≤ length start.args.s.now
  room = name-room start.args.s.now start.args.from start.args.n start.args.firsts.now start.args.starts.now start.requires i c.if-i-n.true

pub overflow_add-start : goal.overflow_add-start
overflow_add-start c = record { fits = omega (arith, room (goal.at.overflow_add-start c).Then-i-n) }

pub bounds-s-at : goal.bounds-s-at
bounds-s-at c = omega (arith, room (goal.at.bounds-s-at c).Then-i-n)

pub overflow_cast-end : goal.overflow_cast-end
overflow_cast-end c = record { fits = omega (arith, c.shared_slice_known-then-i-n-1.given (at (goal.at.overflow_cast-end c).Then-i-n)) }

pub overflow_add-end : goal.overflow_add-end
overflow_add-end c = record { fits = omega (arith, room (goal.at.overflow_add-end c).Then-i-n) }

pub slice_bounds-same-end : goal.slice_bounds-same-end
slice_bounds-same-end c = room (goal.at.slice_bounds-same-end c).Then-i-n

pub returns-then-same : goal.returns-then-same
returns-then-same c = let p = start (goal.at.returns-then-same c).Then-i-n in let a = p.args in
    key_found a.s.now a.from a.n a.firsts.now p.requires.first a.name.now (i (goal.at.returns-then-same c).Then-i-n) (c.from-i.ensures ∙ ap (λ (x : ℕ). get_or a.firsts.now x 0) c.key_of-key.ensures.0) c.if-i-n.true
    (sym (ap (λ (x : List ℕ). same x a.name.now) (lent_is a.s.now a.from (i (goal.at.returns-then-same c).Then-i-n) (at (goal.at.returns-then-same c).Then-i-n) (p.requires.begins (i (goal.at.returns-then-same c).Then-i-n) c.if-i-n.true))) ∙ sym c.same.ensures ∙ c.if-same.true)
