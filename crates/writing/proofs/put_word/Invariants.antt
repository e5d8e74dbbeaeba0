-- After k turns the buffer is the one that the word's first k bytes leave, and a turn writes one byte behind them.
use mathlib.Core.List.{List}
use Prim.Native.Nat.{ℕ, ◌+◌, ◌-◌, ◌≤◌}
use lib.ListN.{length, take}
use Rattle.writing.specs.Text.{Wrote}
use Rattle.writing.proofs.put_word.Given as goal

-- the first k bytes of w have been written over b, which left c
pub record Spelt (b w : List ℕ) (at k : ℕ) (c : List ℕ) : Type 0 where
  pub few : k ≤ length w
  pub wrote : Wrote b c at (take k w) (at + k)

abbrev pub invariant-loop-k : goal.invariant-loop-k
invariant-loop-k l = Spelt l.initial.text l.word l.at l.k l.text
