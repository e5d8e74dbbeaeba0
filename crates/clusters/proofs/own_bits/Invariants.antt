-- `own_bits`: the loop fills the table from the front, and past n there is nothing to fill.
use mathlib.Core.Path.{◌≡◌}
use mathlib.Core.Bool.{cond}
use Prim.Native.Nat.{ℕ, ◌≤◌, ◌-◌, ◌^◌}
use lib.Dec.{ltb}
use lib.ListN.{length}
use Rattle.exact.proofs.Fill.{Filled}
use Rattle.clusters.proofs.own_bits.Given as goal

-- the mask that w starts with
abbrev pub own : ℕ → ℕ → ℕ
own n w = cond (ltb w n) (2 ^ w) 0

abbrev pub invariant-loop-i : goal.invariant-loop-i
invariant-loop-i l = (l.i ≤ l.n) × (length l.masks ≡ 126) × Filled 0 (own l.n) (λ _. 0) l.i l.masks
