-- The print is three pieces, one behind another; by their sizes there is room for each. `first` and `third` say what each line wrote,
-- with its numbers as they are.
use borrow.Author.Rules.{rules}
use mathlib.Core.List.{[], ◌∷◌}
use Prim.Native.Nat.{◌+◌, ◌*◌, ◌≤◌}
use native.Mathlib.Omega.{arith}
use mir.Facts.{to_z-of_z}
use lib.IntN.{pos}
use lib.ListN.{get_or}
use Rattle.exact.specs.Table.{entry_of}
use Rattle.exact.proofs.Sign.{back-pos}
use Rattle.writing.specs.Text.{Wrote}
use Rattle.lines.specs.Lines.{line, resolved_word, square_word, resolved_text}
use Rattle.lines.specs.Page.{widest}
use Rattle.lines.proofs.Pieces.{and_then}
use Rattle.lines.proofs.Sizes.{line-length, edges-end, resolved-text-length}
use Rattle.fit_lines.proofs.resolved_text.Goals as goal
use Rattle.fit_lines.proofs.resolved_text.Goals.{After-fraction_lines-next, After-line, After-line-next}

first : (c : After-line-next) → let a = c.args in Wrote a.text.now c.line-next.new.text 0 (line resolved_word (pos a.n ∷ pos a.k ∷ [])) c.line-next.result
first c = let a = c.args in simp (back-pos a.n (omega arith), back-pos a.k (omega arith)) at c.line-next.ensures

third : (c : After-line) → let a = c.args in
    Wrote c.fraction_lines-next.new.text c.line.new.text c.fraction_lines-next.result (line square_word (a.r ∷ a.h ∷ [])) c.line.result
third c = simp (to_z-of_z c.ranges.r, to_z-of_z c.ranges.h) at c.line.ensures

-- where each piece ends, at the latest
first-end : (c : After-line-next) → c.line-next.result ≤ widest
first-end c = let a = c.args in omega (arith, (first c).place, line-length resolved_word (pos a.n ∷ pos a.k ∷ []))

second-end : (c : After-fraction_lines-next) → c.fraction_lines-next.result ≤ widest + widest * c.args.k
second-end c = let a = c.args in
    omega (arith, first-end (goal.at.After-fraction_lines-next c).After-line-next, edges-end _ _ c.line-next.result c.fraction_lines-next.result a.k (λ v. entry_of a.tops.now v ∷ pos (get_or a.bottoms.now v 0) ∷ entry_of a.rounded.now v ∷ []) (λ v. omega arith) c.fraction_lines-next.ensures)

pub fraction_lines-next-requires : goal.fraction_lines-next-requires
fraction_lines-next-requires c = record {
  k_le_max_edges = search rules;
  room = omega (arith, first-end (goal.at.fraction_lines-next-requires c).After-line-next);
}

pub line-requires : goal.line-requires
line-requires c = omega (arith, second-end (goal.at.line-requires c).After-fraction_lines-next)

pub returns : goal.returns
unfolding resolved_text
returns c = let a = c.args in
    and_then (omega (arith, resolved-text-length a.n a.k (entry_of a.tops.now) (λ v. get_or a.bottoms.now v 0) (entry_of a.rounded.now) a.r a.h c.requires.k_le_max_edges, c.requires.room))
    (first (goal.at.returns c).After-line-next) (λ r. and_then r c.fraction_lines-next.ensures (λ _. third (goal.at.returns c).After-line))
