-- How a run goes on: where another sheet is to be read, with what it then holds and with one sheet more.
use Rattle.std.specs.Prelude.{◌≡◌, ◌+◌, Option, IfSome}
use Rattle.shortest_run.specs.declared.Run.{Run}
use Rattle.shortest_run.specs.Kept.{Held}

pub record OneMore (a r : Run) : Type 0 where
  pub held : Held r
  pub more : r.count ≡ a.count + 1

abbrev pub Goes : Run → Option Run → Type 0
Goes a r = IfSome r (λ b. OneMore a b)
