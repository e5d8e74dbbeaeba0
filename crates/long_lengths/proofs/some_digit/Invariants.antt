-- No digit so far is what is looked for.
use mathlib.Core.Path.{◌≡◌}
use mathlib.Core.Bool.{Bool, false}
use Prim.Native.Nat.{ℕ, ◌<◌, ◌≤◌}
use lib.IntN.{ℤ}
use Rattle.long_theory.specs.Long.{digit_of}
use Rattle.long_lengths.proofs.some_digit.Given as goal

abbrev pub invariant-loop-k : goal.invariant-loop-k
invariant-loop-k g l =
    (l.k ≤ l.levels)
    × ((rule : ℤ → Bool) → ((x : ℤ) (b : Bool) → goal.F-post g l.is_found x b → b ≡ rule x) → (i : ℕ) → i < l.k → rule (digit_of l.edges l.digits i l.v) ≡ false)
