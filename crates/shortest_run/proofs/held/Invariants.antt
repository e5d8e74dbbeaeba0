-- The loop fills the table from the front with the bytes of the sheet.
use Prim.Native.Nat.{ℕ}
use lib.ListN.{length, get_or}
use Rattle.records.specs.Form.{max_sheet}
use Rattle.records.proofs.Decoding.{Decoding}
use Rattle.shortest_run.proofs.held.Given as goal

abbrev pub invariant-loop-k : goal.invariant-loop-k
invariant-loop-k l = Decoding 0 max_sheet (length l.sheet) (λ (i : ℕ). get_or l.sheet i 0) l.k l.bytes
