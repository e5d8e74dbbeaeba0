-- A square a turn.
use Rattle.std.proofs.Common.{◌≡◌, ℕ, ◌-◌, ◌≤◌, get_or, ap, ◌∙◌, arith}
use Rattle.exact.specs.Sum.{sum}
use Rattle.matrix.specs.Limits.{max_distance}
use Rattle.edge_numbers.specs.Squares.{square_at}
use Rattle.edge_numbers.proofs.Weights.{squaring_none, squaring_more, square-low}
use Rattle.edge_numbers.proofs.squares.Goals as goal
use Rattle.edge_numbers.proofs.squares.Goals.{After-shared_slice_known-1}

-- the number that is read
near : (c : After-shared_slice_known-1) → get_or c.args.distances.now c.loop-k.k 0 ≤ max_distance
near c = c.requires.by_index c.loop-k.k

pub loop-k-init : goal.loop-k-init
loop-k-init c = squaring_none _ _

pub overflow_cast-far : goal.overflow_cast-far
overflow_cast-far c = record { fits = omega (arith, near c) }

pub overflow_mul-sum : goal.overflow_mul-sum
overflow_mul-sum c = record { fits = omega (arith, square-low _ (near c)) }

pub overflow_add-sum : goal.overflow_add-sum
overflow_add-sum c = record { fits = omega (arith, square-low _ (near c), c.loop-k.invariant.low) }

pub loop-k-preserved : goal.loop-k-preserved
loop-k-preserved c = squaring_more _ _ _ _ (near c) (omega arith) c.loop-k.invariant

pub returns : goal.returns
returns c = let e : c.loop-k.k ≡ c.args.count = omega (arith, c.loop-k.invariant.here) in
    (c.loop-k.invariant.is ∙ ap (λ (n : ℕ). sum n (square_at c.args.distances.now)) e, omega (arith, c.loop-k.invariant.low, c.requires.count_in_bounds.1))
