-- By the choice that the match told.
use Rattle.planner.proofs.Parts.{first-handed, second-handed}
use Rattle.planner.proofs.record_of.Goals as goal

pub returns-in-Ok-First : goal.returns-in-Ok-First
returns-in-Ok-First c h = first-handed _ _ _ c.args.choice h c.in-Ok-First.field-0 c.in-Ok-First.is (rw c.in-Ok-First.is at c.in-Ok-First.field-0-is) c.third.ensures

pub returns-in-Ok-Second : goal.returns-in-Ok-Second
returns-in-Ok-Second c h = second-handed _ _ _ c.args.choice h c.in-Ok-Second.field-0 c.in-Ok-Second.is (rw c.in-Ok-Second.is at c.in-Ok-Second.field-0-is) c.third-in-Ok-Second.ensures
