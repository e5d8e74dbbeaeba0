-- The answer to matrix and tree, then to the count of the lengths; where both pass, what was read is what the records hold.
use mathlib.Core.Path.{◌≡◌, refl, sym, ap, ap₂, ◌∙◌}
use mathlib.Core.List.{List}
use Prim.Native.Nat.{ℕ, ◌-◌}
use native.Mathlib.Omega.{arith}
use Rattle.verdict.specs.Answer.{pass}
use Rattle.verdict.proofs.Answers.{handed_on}
use Rattle.records.specs.Form.{start_of}
use Rattle.records.proofs.InTurn.{fewer-pass}
use Rattle.records.proofs.Formed.{form_records}
use Rattle.front.specs.Reads.{FrontHeld}
use Rattle.front.proofs.Answered.{parents-few}
use Rattle.reading.specs.Holds.{vertices_of}
use Rattle.reading.specs.Tests.{pair_tests}
use Rattle.reading.specs.Reads.{OutlineAnswer}
use Rattle.reading.proofs.Formed.{Fronted, fronted, parents-start, parents-count}
use Rattle.reading.proofs.Answered.{pair-refused, past-pair}
use Rattle.reading.proofs.held.Goals as goal
use Rattle.reading.proofs.held.Goals.{After-read_front, In_ok-front}

abbrev bytes : After-read_front → List ℕ
bytes c = c.args.s.now

abbrev counted : After-read_front → ℕ
counted c = c.args.count

here : (c : After-read_front) → Fronted (bytes c) (start_of (bytes c) 1) (start_of (bytes c) 2)
here c = fronted (counted c) (bytes c) c.requires.le_count.2 c.requires.le_count.0 _ _ refl refl

-- the table that was lent, as it is back
abbrev filled : After-read_front → List ℕ
filled c = c.read_front.new.distances

passed : (c : In_ok-front) → pair_tests (counted (goal.at.In_ok-front c).After-read_front) (bytes (goal.at.In_ok-front c).After-read_front) ≡ pass
passed c = sym c.in_ok-front.ensures.answer

front : (c : In_ok-front) → FrontHeld (bytes (goal.at.In_ok-front c).After-read_front) (filled (goal.at.In_ok-front c).After-read_front) c.in_ok-front.front
front c = c.in_ok-front.ensures.held

edges : (c : In_ok-front) → c.args.end - c.in_ok-front.front.parents ≡ vertices_of (bytes (goal.at.In_ok-front c).After-read_front) - 1
edges c = ap₂ ◌-◌ c.requires.le_count.4 (front c).parents ∙ parents-count (here (goal.at.In_ok-front c).After-read_front)

pub read_front-requires : goal.read_front-requires
read_front-requires c =
    record {
      s_value = (fewer-pass _ c.args.count 2 c.requires.le_count.0 (form_records _ _ c.requires.le_count.2), c.requires.le_count.3, c.requires.le_count.4);
      distances_value = c.requires.distances_value;
    }

pub returns-in_err-front : goal.returns-in_err-front
returns-in_err-front c = let a = c.args in
    handed_on (OutlineAnswer a.count a.s.now c.read_front.new.distances a.numerators.now) _ _ c.from_residual.ensures
    (record { answer = pair-refused a.count a.s.now c.requires.le_count.2 _ c.in_err-front.ensures.answer; held = tt })

pub overflow_sub-end : goal.overflow_sub-end
overflow_sub-end c = omega (arith, (front (goal.at.overflow_sub-end c).In_ok-front).parents, parents-start (here (goal.at.overflow_sub-end c).After-read_front), c.requires.le_count.4)

pub proposed_lengths-requires : goal.proposed_lengths-requires
proposed_lengths-requires c =
    record {
      le_count = (c.requires.le_count.0, c.requires.le_count.1, c.requires.le_count.2, c.requires.le_count.4);
      edges_value = (edges (goal.at.proposed_lengths-requires c).In_ok-front, omega (arith, edges (goal.at.proposed_lengths-requires c).In_ok-front, parents-few (counted (goal.at.proposed_lengths-requires c).After-read_front) (bytes (goal.at.proposed_lengths-requires c).After-read_front) (passed (goal.at.proposed_lengths-requires c).In_ok-front)));
      numerators_value = c.requires.numerators_value;
    }

pub returns-in_err-proposed : goal.returns-in_err-proposed
returns-in_err-proposed c = let a = c.args in
    handed_on (OutlineAnswer a.count a.s.now c.read_front.new.distances c.proposed_lengths.new.numerators) _ _ c.from_residual-in_err-proposed.ensures
    (record { answer = c.in_err-proposed.ensures.answer ∙ past-pair a.count a.s.now c.requires.le_count.2 (c.in_ok-front.ensures.answer); held = tt })

pub returns : goal.returns
returns c = let a = c.args in
    let front = c.in_ok-front.ensures.held in
    let proposed = c.in_ok-proposed.ensures.held in
    record {
      answer = c.in_ok-proposed.ensures.answer ∙ past-pair a.count a.s.now c.requires.le_count.2 (c.in_ok-front.ensures.answer);
      held = record {
        strains = front.strains;
        pairs = front.pairs;
        distances = front.distances;
        parents = front.parents;
        end = c.requires.le_count.4;
        denominator = proposed.denominator;
        edges = proposed.edges;
        numerators = proposed.numerators;
      };
    }
