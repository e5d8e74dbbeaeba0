-- The print is five pieces, one behind another; by their sizes there is room for each. `third` and those behind it say what each call
-- wrote, with its numbers as they are.
use borrow.Author.Rules.{rules}
use mathlib.Core.List.{[], ◌∷◌}
use Prim.Native.Nat.{◌+◌, ◌*◌, ◌≤◌}
use native.Mathlib.Omega.{arith}
use mir.Facts.{to_z-of_z}
use lib.IntN.{pos}
use Rattle.exact.specs.Table.{entry_of}
use Rattle.writing.specs.Text.{Wrote}
use Rattle.lines.specs.Lines.{line, fit_word, length_word, square_word, mean_line, fit_text_by}
use Rattle.lines.specs.Page.{widest}
use Rattle.lines.proofs.Pieces.{and_then}
use Rattle.lines.proofs.Sizes.{line-length, edges-end, word-length, text-length}
use Rattle.fit_lines.proofs.fit_text.Goals as goal
use Rattle.fit_lines.proofs.fit_text.Goals.{After-edge_lines-next, After-fit_line-next, After-line-next, After-line-next-2, After-mean_line}

third : (c : After-line-next) → let a = c.args in
    Wrote c.edge_lines-next.new.text c.line-next.new.text c.edge_lines-next.result (line length_word (a.total ∷ [])) c.line-next.result
third c = simp (to_z-of_z c.ranges.total) at c.line-next.ensures

fourth : (c : After-line-next-2) → let a = c.args in
    Wrote c.line-next.new.text c.line-next-2.new.text c.line-next.result (line square_word (a.f ∷ a.r ∷ a.h ∷ [])) c.line-next-2.result
fourth c = simp (to_z-of_z c.ranges.f, to_z-of_z c.ranges.r, to_z-of_z c.ranges.h) at c.line-next-2.ensures

fifth : (c : After-mean_line) → let a = c.args in
    Wrote c.line-next-2.new.text c.mean_line.new.text c.line-next-2.result (mean_line a.f a.mean) c.mean_line.result
fifth c = simp (to_z-of_z c.ranges.f) at c.mean_line.ensures

-- where each piece ends, at the latest
first-end : (c : After-fit_line-next) → c.fit_line-next.result ≤ widest
first-end c = let a = c.args in omega (arith, c.fit_line-next.ensures.place, word-length a.rule, line-length (fit_word a.rule) (pos a.n ∷ pos a.k ∷ pos a.d ∷ []))

second-end : (c : After-edge_lines-next) → c.edge_lines-next.result ≤ widest + widest * c.args.k
second-end c = let a = c.args in
    omega (arith, first-end (goal.at.After-edge_lines-next c).After-fit_line-next, edges-end _ _ c.fit_line-next.result c.edge_lines-next.result a.k (λ v. entry_of a.numerators.now v ∷ entry_of a.rounded.now v ∷ []) (λ v. omega arith) c.edge_lines-next.ensures)

third-end : (c : After-line-next) → c.line-next.result ≤ 2 * widest + widest * c.args.k
third-end c = omega (arith, second-end (goal.at.After-line-next c).After-edge_lines-next, (third c).place, line-length length_word (c.args.total ∷ []))

fourth-end : (c : After-line-next-2) → c.line-next-2.result ≤ 3 * widest + widest * c.args.k
fourth-end c = let a = c.args in omega (arith, third-end (goal.at.After-line-next-2 c).After-line-next, (fourth c).place, line-length square_word (a.f ∷ a.r ∷ a.h ∷ []))

pub edge_lines-next-requires : goal.edge_lines-next-requires
edge_lines-next-requires c = record {
  k_le_max_edges = search rules;
  room = omega (arith, first-end (goal.at.edge_lines-next-requires c).After-fit_line-next);
}

pub line-next-requires : goal.line-next-requires
line-next-requires c = omega (arith, second-end (goal.at.line-next-requires c).After-edge_lines-next)

pub line-next-requires-2 : goal.line-next-requires-2
line-next-requires-2 c = omega (arith, third-end (goal.at.line-next-requires-2 c).After-line-next)

pub mean_line-requires : goal.mean_line-requires
mean_line-requires c = omega (arith, fourth-end (goal.at.mean_line-requires c).After-line-next-2)

pub returns : goal.returns
unfolding fit_text_by
returns c = let a = c.args in
    and_then (omega (arith, text-length a.rule a.n a.k a.d (entry_of a.numerators.now) (entry_of a.rounded.now) a.total a.f a.r a.h a.mean c.requires.k_le_max_edges, c.requires.room))
    c.fit_line-next.ensures (λ r. and_then r c.edge_lines-next.ensures (λ r. and_then r (third (goal.at.returns c).After-line-next) (λ r. and_then r (fourth (goal.at.returns c).After-line-next-2) (λ _. fifth (goal.at.returns c).After-mean_line))))
