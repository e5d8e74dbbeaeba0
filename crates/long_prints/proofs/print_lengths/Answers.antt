-- The verdict says which text is due.
use mathlib.Core.Path.{sym, subst}
use Prim.Native.Nat.{ℕ}
use native.Mathlib.Omega.{arith}
use Rattle.long_theory.specs.Long.{LongProper}
use Rattle.long_fit_lines.proofs.Texts.{printable}
use Rattle.long_prints.proofs.Sheets.{lengths-refused, lengths-accepted, lengths_stand}
use Rattle.long_prints.proofs.print_lengths.Goals as goal

pub long_numbered-report-requires : goal.long_numbered-report-requires
long_numbered-report-requires c = let a = c.args in lengths_stand a.rule a.n a.distances.now a.parents.now a.d.now a.digits.now c.in-Ok.ensures c.requires.posted

pub long_fit_text-requires : goal.long_fit_text-requires
long_fit_text-requires c = let p = c.long_numbered-report.ensures in
    record {
      long_proper = subst (λ (k : ℕ). LongProper k c.args.d.now c.args.digits.now) (sym p.edges) p.stands.lengths;
      printable = printable _ _ _ _ _ _ _ p;
      room = omega (arith, c.requires.long_page_size_in_bounds);
    }

pub returns-in-Err : goal.returns-in-Err
returns-in-Err c = let a = c.args in lengths-refused a.rule a.n a.distances.now a.parents.now a.d.now a.digits.now c.in-Err.refusal _ c.in-Err.ensures c.from.ensures c.refused_line.ensures

pub returns-in-Ok : goal.returns-in-Ok
returns-in-Ok c = let a = c.args in lengths-accepted a.rule a.n a.distances.now a.parents.now a.d.now a.digits.now c.long_numbered-report.result c.in-Ok.ensures c.long_numbered-report.ensures c.long_fit_text.ensures
