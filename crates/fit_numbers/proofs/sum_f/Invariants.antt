-- The accumulator stands for the sum of the terms before the pair at hand, modulo 2^64.
use Prim.Native.Nat.{ℕ}
use Rattle.exact.specs.Sum.{sweep}
use Rattle.exact.specs.Modulo.{Modulo}
use Rattle.fit_numbers.specs.Terms.{term_of}
use Rattle.fit_numbers.proofs.sum_f.Given as goal

abbrev pub invariant-loop-j : goal.invariant-loop-j
invariant-loop-j l = Modulo l.acc (sweep (term_of l.edges l.d l.distances l.parents l.numerators) l.j 0)

abbrev pub invariant-loop-i : goal.invariant-loop-i
invariant-loop-i l = Modulo l.acc (sweep (term_of l.edges l.d l.distances l.parents l.numerators) l.j l.i)
