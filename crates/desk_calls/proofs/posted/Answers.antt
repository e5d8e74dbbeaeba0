-- A posting that passes gives a held desk, whatever desk it is asked of: here of an empty one.
use Rattle.std.specs.Prelude.{None, Result, Ok, Err, IfOk}
use Rattle.verdict.specs.declared.Refusal.{Refusal}
use Rattle.desk_theory.specs.Desk.{Call}
use Rattle.desk.specs.declared.Desk.{Desk}
use Rattle.desk.specs.Held.{Held, Steps}
use Rattle.desk_calls.proofs.posted.Goals as goal

gave : (c : Call) (r : Result Desk Refusal) → ((d : Desk) → Held d → Steps d c r) → IfOk r (λ d. Held d)
gave c (Ok e) s = (s (record { posted = None }) tt).held
gave c (Err q) s = tt

pub returns : goal.returns
returns c = gave _ _ c.post.ensures
