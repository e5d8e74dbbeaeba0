-- The answer to matrix and tree, then to K, then to L; where all pass, what was read is what the records hold.
use mathlib.Core.Path.{◌≡◌, refl, sym, ap, ap₂, ◌∙◌}
use mathlib.Core.List.{List}
use Prim.Native.Nat.{ℕ, ◌+◌, ◌-◌, ◌*◌}
use native.Mathlib.Omega.{arith}
use lib.ListN.{length}
use Rattle.verdict.specs.Answer.{pass}
use Rattle.verdict.proofs.Answers.{handed_on}
use Rattle.endian.specs.Bytes.{number}
use Rattle.records.specs.Form.{start_of}
use Rattle.front.specs.Holds.{vertices_of}
use Rattle.front.specs.Tests.{pair_tests}
use Rattle.front.specs.Reads.{FrontHeld}
use Rattle.front.proofs.Formed.{Fronted, fronted, parents-start, parents-count}
use Rattle.long_records.proofs.Formed.{long-pair, digits-there}
use Rattle.long_reading.specs.LongHolds.{levels_of, long_edges_of}
use Rattle.long_reading.specs.LongReads.{LongAnswer}
use Rattle.long_reading.proofs.Answered.{pair-refused, edges-refused, none-refused, many-refused, all_held}
use Rattle.long_reading.proofs.held.Goals as goal
use Rattle.long_reading.proofs.held.Goals.{After-read_front, After-u16_at-edges, After-u16_at-levels, In_ok-front}

abbrev bytes : After-read_front → List ℕ
bytes c = c.args.s.now

here : (c : After-read_front) → Fronted (bytes c) (start_of (bytes c) 1) (start_of (bytes c) 2)
here c = fronted 2 (bytes c) (omega arith) (long-pair (bytes c) c.requires.0) _ _ refl refl

-- the table that was lent, as it is back
abbrev filled : After-read_front → List ℕ
filled c = c.read_front.new.distances

passed : (c : In_ok-front) → pair_tests 3 (bytes (goal.at.In_ok-front c).After-read_front) ≡ pass
passed c = sym c.in_ok-front.ensures.answer

front : (c : In_ok-front) → FrontHeld (bytes (goal.at.In_ok-front c).After-read_front) (filled (goal.at.In_ok-front c).After-read_front) c.in_ok-front.front
front c = c.in_ok-front.ensures.held

parents : (c : In_ok-front) → c.args.end - c.in_ok-front.front.parents ≡ vertices_of (bytes (goal.at.In_ok-front c).After-read_front) - 1
parents c = ap₂ ◌-◌ c.requires.2 (front c).parents ∙ parents-count (here (goal.at.In_ok-front c).After-read_front)

-- all digits are there
digits : (c : In_ok-front) → let s = bytes (goal.at.In_ok-front c).After-read_front in
    let end = c.args.end in
    end + 10 + 4 * number 2 s (end + 6) + 4 * (number 2 s (end + 6) * number 2 s (end + 6 + 2)) ≡ length s
digits c = digits-there c.args.s.now c.requires.0 c.args.end c.requires.2

-- L and K are those of the third record
levels : (c : After-u16_at-levels) → c.u16_at-levels.result ≡ levels_of (bytes (goal.at.After-u16_at-levels c).After-read_front)
levels c = c.u16_at-levels.ensures ∙ ap (λ (a : ℕ). number 2 c.args.s.now (a + 6)) c.requires.2

edges : (c : After-u16_at-edges) → c.u16_at-edges.result ≡ long_edges_of (bytes (goal.at.After-u16_at-edges c).After-read_front)
edges c = c.u16_at-edges.ensures ∙ ap (λ (a : ℕ). number 2 c.args.s.now (a + 6 + 2)) c.requires.2

pub read_front-requires : goal.read_front-requires
read_front-requires c = let pre = c.requires in record {
  s_value = (long-pair _ pre.0, pre.1, pre.2);
  distances_value = c.filled-distances.ensures.throughout;
}

pub returns-in_err-front : goal.returns-in_err-front
returns-in_err-front c = handed_on (LongAnswer c.args.s.now) _ _ c.from_residual.ensures (pair-refused _ c.requires.0 _ c.in_err-front.ensures.answer)

pub overflow_add-body : goal.overflow_add-body
overflow_add-body c = omega (arith, digits c)

pub u16_at-levels-requires : goal.u16_at-levels-requires
u16_at-levels-requires c = omega (arith, digits c)

pub overflow_add-body-2 : goal.overflow_add-body-2
overflow_add-body-2 c = omega (arith, digits (goal.at.overflow_add-body-2 c).In_ok-front)

pub u16_at-edges-requires : goal.u16_at-edges-requires
u16_at-edges-requires c = omega (arith, digits (goal.at.u16_at-edges-requires c).In_ok-front)

pub overflow_sub-end : goal.overflow_sub-end
overflow_sub-end c = omega (arith, (front (goal.at.overflow_sub-end c).In_ok-front).parents, parents-start (here (goal.at.overflow_sub-end c).After-read_front), c.requires.2)

pub returns-then-edges-end : goal.returns-then-edges-end
returns-then-edges-end c = let g = goal.at.returns-then-edges-end c in
    edges-refused _ c.requires.0 (passed g.In_ok-front) _ _ _ (levels g.After-u16_at-levels) (edges g.After-u16_at-edges) (parents g.In_ok-front) c.if-edges-end.true

pub returns-then-levels-eq0 : goal.returns-then-levels-eq0
returns-then-levels-eq0 c = let g = goal.at.returns-then-levels-eq0 c in
    none-refused _ c.requires.0 (passed g.In_ok-front) _ _ _ (levels g.After-u16_at-levels) (edges g.After-u16_at-edges) (parents g.In_ok-front) c.if-edges-end.false c.if-levels-eq0.true

pub returns-then-levels-gt-MAX_LEVELS : goal.returns-then-levels-gt-MAX_LEVELS
returns-then-levels-gt-MAX_LEVELS c = let g = goal.at.returns-then-levels-gt-MAX_LEVELS c in
    many-refused _ c.requires.0 (passed g.In_ok-front) _ _ _ (levels g.After-u16_at-levels) (edges g.After-u16_at-edges) (parents g.In_ok-front) c.if-edges-end.false c.if-levels-eq0.false c.if-levels-gt-MAX_LEVELS.true

pub overflow_add-denominator : goal.overflow_add-denominator
overflow_add-denominator c = omega (arith, digits (goal.at.overflow_add-denominator c).In_ok-front)

pub overflow_add-result : goal.overflow_add-result
overflow_add-result c = omega (arith, digits (goal.at.overflow_add-result c).In_ok-front, c.u16_at-levels.ensures)

pub returns : goal.returns
returns c = let g = goal.at.returns c in
    let pre = c.requires in
    all_held _ pre.0 (passed g.In_ok-front) _ _ _ (levels g.After-u16_at-levels) (edges g.After-u16_at-edges) (parents g.In_ok-front) c.if-edges-end.false c.if-levels-eq0.false c.if-levels-gt-MAX_LEVELS.false _
    (record {
      strains = (front g.In_ok-front).strains;
      pairs = (front g.In_ok-front).pairs;
      distances = (front g.In_ok-front).distances;
      parents = (front g.In_ok-front).parents;
      end = pre.2;
      levels = levels g.After-u16_at-levels;
      edges = edges g.After-u16_at-edges;
      denominator = ap (λ (a : ℕ). a + 6 + 4) pre.2;
      numerators = ap₂ (λ (a l : ℕ). a + 6 + 4 + 4 * l) pre.2 (levels g.After-u16_at-levels);
    })
