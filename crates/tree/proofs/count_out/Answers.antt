-- `count_out`: the difference is asked only where the count is not below what is needed.
use mathlib.Core.Path.{◌≡◌, sym, ◌∙◌}
use mathlib.Core.Bool.{◌||◌}
use Prim.Native.Nat.{ℕ, ◌+◌, ◌-◌, ◌≤◌}
use native.Mathlib.Decide.{dec_lt}
use native.Mathlib.Omega.{arith}
use borrow.Author.Tests.{lt-ltb, le-ltb}
use lib.Dec.{ltb}
use Rattle.exact.proofs.Decide.{by_cases}
use Rattle.tree.proofs.count_out.Goals as goal

above : (count needed spare : ℕ) → needed ≤ count → ltb spare (count - needed) ≡ (ltb count needed || ltb (needed + spare) count)
above count needed spare h = rw (le-ltb count needed h) (by_cases (dec_lt spare (count - needed))
    (λ l. lt-ltb spare (count - needed) l ∙ sym (lt-ltb (needed + spare) count (omega arith)))
    (λ l. le-ltb spare (count - needed) (omega arith) ∙ sym (le-ltb (needed + spare) count (omega arith))))

pub returns-then-count-needed : goal.returns-then-count-needed
returns-then-count-needed c = rw (lt-ltb c.args.count c.args.needed c.if-count-needed.true)

pub returns : goal.returns
returns c = let a = c.args in above a.count a.needed a.spare c.if-count-needed.false
