-- Each choice is the step that the definitions make.
use Rattle.shortest_run.proofs.Stepping.{fits-beside, refused, keeps-first, takes_second}
use Rattle.shortest_run.proofs.compared.Goals as goal

pub taken_up-requires : goal.taken_up-requires
taken_up-requires c = fits-beside c.args.count c.args.sheet.now c.args.best (rw c.in-Ok-Second.field-0-is at c.in-Ok-Second.ensures)

pub returns-in-Err : goal.returns-in-Err
returns-in-Err c = refused c.args.count c.args.sheet.now c.args.best c.in-Err.refusal c.in-Err.ensures

pub returns-in-Ok-First : goal.returns-in-Ok-First
returns-in-Ok-First c = keeps-first c.args.count c.args.sheet.now c.args.best (rw c.in-Ok-First.field-0-is at c.in-Ok-First.ensures)

pub returns-in-Ok-Second : goal.returns-in-Ok-Second
returns-in-Ok-Second c = takes_second c.args.count c.args.sheet.now c.args.best c.taken_up.result (rw c.in-Ok-Second.field-0-is at c.in-Ok-Second.ensures) c.taken_up.ensures
