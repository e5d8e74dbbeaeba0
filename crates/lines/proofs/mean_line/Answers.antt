-- Each case is a line.
use borrow.Author.Rules.{rules}
use mir.Facts.{to_z-of_z}
use mir.Syntax.{w64}
use Rattle.lines.proofs.Pieces.{wrote-mean}
use Rattle.lines.proofs.mean_line.Goals as goal

pub returns-in-None : goal.returns-in-None
returns-in-None c = wrote-mean _ _ c.in-None.is c.line.ensures

pub returns-in-Some : goal.returns-in-Some
returns-in-Some c = wrote-mean _ _ c.in-Some.is (simp (to_z-of_z {w = w64} {z = c.in-Some.divisor} (search rules), to_z-of_z {w = w64} {z = c.args.f} (search rules)) at c.line-in-Some.ensures)
