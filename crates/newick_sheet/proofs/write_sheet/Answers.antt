-- The form and the names, then the fit, then the buffer; what passes is written.
use mathlib.Core.Path.{sym}
use borrow.Author.Tests.{eqb-true, not-false}
use Rattle.verdict.proofs.Answers.{test-pass}
use Rattle.newick_sheet.proofs.Told.{tell}
use Rattle.newick_sheet.proofs.write_sheet.Goals as goal

pub put_named-requires : goal.put_named-requires
put_named-requires c = tell c.args.s.now c.args.text.now c.in_ok-from.ensures c.in_ok-fit.ensures (eqb-true _ _ (not-false _ (test-pass 15 _ (sym c.in_ok-test.ensures))))
