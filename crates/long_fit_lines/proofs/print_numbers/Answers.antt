-- The print is five pieces, one behind another; by their sizes there is room for each.
use native.Mathlib.Omega.{arith}
use mir.Facts.{to_z-of_z}
use lib.ListN.{length}
use Rattle.long_theory.specs.Long.{long_denominator}
use Rattle.long_fit_lines.specs.LongTexts.{number_of}
use Rattle.long_lines.proofs.Lines.{digits-length, wide-length}
use Rattle.long_lines.specs.LongLines.{Digits, wide_of, mean_by}
use lib.IntN.{pos}
use Prim.Native.Nat.{◌+◌, ◌≤◌}
use Rattle.long_lines.specs.LongLines.{widest_line}
use Rattle.writing.specs.Text.{Wrote}
use mathlib.Core.List.{List, [], ◌∷◌}
use mathlib.Core.Path.{sym, subst}
use Prim.Native.Nat.{ℕ}
use Rattle.std.specs.Prelude.{Option, IfSome}
use Rattle.lines.specs.Lines.{line_by, square_word, mean_line_by}
use Rattle.long_writing.specs.Decimals.{long_signed}
use Rattle.long_fit_lines.proofs.Joined.{denominator-digits, first-end, length-end, square-end, joined}
use Rattle.long_fit_lines.proofs.print_numbers.Goals as goal
use Rattle.long_fit_lines.proofs.print_numbers.Goals.{After-fit_line-next, After-length_line-next, After-square_line-next, In-Some}

-- where each piece ends, at the latest
first : (c : After-fit_line-next) → c.fit_line-next.result ≤ widest_line
first c = first-end c.args.rule c.args.n c.args.edges (long_denominator (length c.args.d.now) c.args.d.now) (omega (arith, c.ranges.n)) (omega (arith, c.requires.long_proper.few)) (digits-length (denominator-digits c.requires.long_proper)) c.fit_line-next.ensures

third : (c : After-length_line-next) → c.length_line-next.result ≤ c.edge_lines-next.result + widest_line
third c = length-end (wide_of c.args.negative (number_of (length c.args.d.now) c.args.total.now)) (wide-length c.args.negative c.requires.printed.length_digits c.requires.printed.sign) c.length_line-next.ensures

squared : (c : After-square_line-next) → Wrote c.length_line-next.new.text c.square_line-next.new.text c.length_line-next.result (line_by long_signed square_word (pos (number_of (length c.args.d.now) c.args.f.now) ∷ c.args.r ∷ c.args.h ∷ [])) c.square_line-next.result
squared c = simp (to_z-of_z c.ranges.r, to_z-of_z c.ranges.h) at c.square_line-next.ensures

fourth : (c : After-square_line-next) → c.square_line-next.result ≤ c.length_line-next.result + widest_line
fourth c = square-end (pos (number_of (length c.args.d.now) c.args.f.now)) c.args.r c.args.h (digits-length c.requires.printed.f-digits) c.ranges.r c.ranges.h (squared c)

pub fit_line-next-requires : goal.fit_line-next-requires
fit_line-next-requires c = record {
  k_le_max_edges = (c.requires.long_proper.few, denominator-digits c.requires.long_proper);
  room = omega (arith, c.requires.room);
}

pub edge_lines-next-requires : goal.edge_lines-next-requires
edge_lines-next-requires c = record {
  long_proper = c.requires.long_proper;
  room = omega (arith, c.requires.room, c.requires.long_proper.few, first (goal.at.edge_lines-next-requires c).After-fit_line-next);
}

pub length_line-next-requires : goal.length_line-next-requires
length_line-next-requires c = record {
  digits = (c.requires.printed.length_digits, c.requires.printed.sign);
  room = omega (arith, c.requires.room, c.requires.long_proper.few, first (goal.at.length_line-next-requires c).After-fit_line-next, c.edge_lines-next.ensures.upper_bound);
}

pub square_line-next-requires : goal.square_line-next-requires
square_line-next-requires c = record {
  digits = c.requires.printed.f-digits;
  room = omega (arith, c.requires.room, c.requires.long_proper.few, first (goal.at.square_line-next-requires c).After-fit_line-next, c.edge_lines-next.ensures.upper_bound, third (goal.at.square_line-next-requires c).After-length_line-next);
}

-- what the mean square is over, where there is something, is in digits too
over : (c : In-Some) → Digits (length c.args.d.now + 3) c.in-Some.digits
over c = subst (λ (o : Option (List ℕ)). IfSome o (λ ds. Digits (length c.args.d.now + 3) ds)) c.in-Some.is c.requires.printed.mean-digits

pub mean_line-requires : goal.mean_line-requires
mean_line-requires c = record {
  digits = (c.requires.printed.f-digits, tt);
  room = omega (arith, c.requires.room, c.requires.long_proper.few, first (goal.at.mean_line-requires c).After-fit_line-next, c.edge_lines-next.ensures.upper_bound, third (goal.at.mean_line-requires c).After-length_line-next, fourth (goal.at.mean_line-requires c).After-square_line-next);
}

pub mean_line-requires-in-Some : goal.mean_line-requires-in-Some
mean_line-requires-in-Some c = record {
  digits = (c.requires.printed.f-digits, over (goal.at.mean_line-requires-in-Some c).In-Some);
  room = omega (arith, c.requires.room, c.requires.long_proper.few, first (goal.at.mean_line-requires-in-Some c).After-fit_line-next, c.edge_lines-next.ensures.upper_bound, third (goal.at.mean_line-requires-in-Some c).After-length_line-next, fourth (goal.at.mean_line-requires-in-Some c).After-square_line-next);
}

pub returns-in-None : goal.returns-in-None
returns-in-None c = joined c.args.rule c.args.n c.args.edges _ _ _ _ _ c.args.r c.args.h _ c.requires.room c.requires.long_proper.few c.fit_line-next.ensures (first (goal.at.returns-in-None c).After-fit_line-next) c.edge_lines-next.ensures.wrote c.edge_lines-next.ensures.upper_bound c.length_line-next.ensures (third (goal.at.returns-in-None c).After-length_line-next) (squared (goal.at.returns-in-None c).After-square_line-next) (fourth (goal.at.returns-in-None c).After-square_line-next)
    (subst (λ (o : Option (List ℕ)). Wrote c.square_line-next.new.text c.mean_line.new.text c.square_line-next.result (mean_line_by long_signed (pos (number_of (length c.args.d.now) c.args.f.now)) (mean_by (length c.args.d.now + 3) o)) c.mean_line.result) (sym c.in-None.is) c.mean_line.ensures)

pub returns-in-Some : goal.returns-in-Some
returns-in-Some c = joined c.args.rule c.args.n c.args.edges _ _ _ _ _ c.args.r c.args.h _ c.requires.room c.requires.long_proper.few c.fit_line-next.ensures (first (goal.at.returns-in-Some c).After-fit_line-next) c.edge_lines-next.ensures.wrote c.edge_lines-next.ensures.upper_bound c.length_line-next.ensures (third (goal.at.returns-in-Some c).After-length_line-next) (squared (goal.at.returns-in-Some c).After-square_line-next) (fourth (goal.at.returns-in-Some c).After-square_line-next)
    (subst (λ (o : Option (List ℕ)). Wrote c.square_line-next.new.text c.mean_line-in-Some.new.text c.square_line-next.result (mean_line_by long_signed (pos (number_of (length c.args.d.now) c.args.f.now)) (mean_by (length c.args.d.now + 3) o)) c.mean_line-in-Some.result) (sym c.in-Some.is) c.mean_line-in-Some.ensures)
