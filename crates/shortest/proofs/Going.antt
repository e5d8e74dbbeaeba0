-- What a turn leaves: a line within its room, and a run that is held, with one sheet more.
use mathlib.Core.Path.{◌≡◌, sym, ◌∙◌, ap}
use Rattle.std.specs.Prelude.{Some}
use mathlib.Core.List.{List}
use Prim.Native.Nat.{ℕ, ◌+◌, ◌≤◌}
use native.Mathlib.Omega.{arith}
use lib.ListN.{length, take}
use lib.Seq.{length-take-le}
use Rattle.exact.specs.Table.{table}
use Rattle.exact.proofs.Fill.{length-table}
use Rattle.writing.proofs.Writing.{wrote-within}
use Rattle.records.specs.Form.{max_sheet}
use Rattle.shortest_run.specs.declared.Run.{Run}
use Rattle.shortest_run.specs.declared.Answered.{Answered}
use Rattle.shortest_run.specs.Kept.{Held, Turned}
use Rattle.shortest.specs.Goes.{Goes}

-- the front of the room for a sheet
pub front-room : (n : ℕ) (space : List ℕ) → n ≤ max_sheet → space ≡ table (max_sheet + 1) (λ _. 0) → n ≡ length (take n space)
front-room n space h e = sym (length-take-le n space (omega (arith, h, ap length e ∙ length-table (max_sheet + 1) (λ (_ : ℕ). 0))))

module _ (a : Run) (t before after : List ℕ) (r : Answered) where
  pub ends-within : Held a → Turned a t before after r → r.end ≤ length after
  ends-within h turn = wrote-within (turn h.state h.keeps).line

  pub goes_on : Held a → Turned a t before after r → Goes a (Some r.run)
  goes_on h turn = let s = turn h.state h.keeps in record {
    held = record { state = _; keeps = s.run };
    more = omega (arith, s.run.count, h.keeps.count);
  }
