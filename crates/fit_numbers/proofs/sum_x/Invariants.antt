-- The sum is that of the squares before the pair at hand.
use mathlib.Core.Path.{◌≡◌}
use Rattle.exact.specs.Sum.{sweep}
use Rattle.pairs.specs.Ready.{remainder_at}
use Rattle.fit_numbers.proofs.Squares.{square_of}
use Rattle.fit_numbers.proofs.sum_x.Given as goal

abbrev pub invariant-loop-j : goal.invariant-loop-j
invariant-loop-j l = l.sum ≡ sweep (square_of (remainder_at l.edges l.d l.distances l.parents l.x)) l.j 0

abbrev pub invariant-loop-i : goal.invariant-loop-i
invariant-loop-i l = l.sum ≡ sweep (square_of (remainder_at l.edges l.d l.distances l.parents l.x)) l.j l.i
