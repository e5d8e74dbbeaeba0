-- The report by its parts.
use borrow.Author.Rules.{rules}
use mir.Facts.{to_z-of_z}
use mir.Syntax.{w64}
use Rattle.long_fit_lines.proofs.long_fit_text.Goals as goal

pub returns : goal.returns
returns c = let x = c.args.report in simp (to_z-of_z {w = w64} {z = x.r} (search rules), to_z-of_z {w = w64} {z = x.h} (search rules)) at c.print_numbers.ensures
