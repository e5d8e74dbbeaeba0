-- The accumulator stands for the sum of the terms before the pair at hand, modulo 2^64; F is small, so at the end it is F.
use mathlib.Core.Path.{◌≡◌, ◌∙◌, ap, sym, subst}
use Prim.Native.Nat.{ℕ, ◌≤◌}
use native.Mathlib.Numerals.{add-one}
use native.Mathlib.Omega.{arith}
use lib.IntN.{ℤ, pos}
use mir.Syntax.{w64}
use mir.Val.{to_z, of_z}
use Rattle.exact.specs.LeastSquares.{sum_f}
use Rattle.exact.specs.Sum.{pairs, sweep}
use Rattle.exact.specs.Table.{entry_of}
use Rattle.exact.specs.Modulo.{Modulo}
use Rattle.exact.proofs.Modular.{modulo_zero}
use Rattle.exact.proofs.Sign.{fits_abs, back-pos}
use Rattle.matrix.specs.Place.{distance}
use Rattle.fit_theory.specs.Quantities.{parts_in}
use Rattle.exact.proofs.Sweep.{sweep-column, sweep-end}
use Rattle.fit_numbers.proofs.Terms.{swept_start}
use Rattle.edge_numbers.proofs.Totals.{gathered-is, gathered-high}
use Rattle.fit_numbers.proofs.Back.{ready_of}
use Rattle.fit_numbers.proofs.Terms.{term-whole, gathered_next}
use Rattle.fit_numbers.specs.Terms.{term_of}
use Rattle.fit_numbers.proofs.sum_f.Goals as goal
use Rattle.fit_numbers.proofs.sum_f.Goals.{After-loop-j}

-- F at the end
gathered : (c : After-loop-j) → let a = c.args in
    pos c.loop-j.acc ≡ sum_f (pairs a.n) a.edges (parts_in a.distances.now a.parents.now) (distance a.distances.now) (pos a.d) (entry_of a.numerators.now)
gathered c = let a = c.args in
    let f = term_of a.edges a.d a.distances.now a.parents.now a.numerators.now in
    let all : c.loop-j.j ≡ a.n = omega (arith, c.requires.summable.lengthened.allowed.three, c.loop-j-test.false) in
    gathered-is _ _ (omega arith) c.requires.fits63 (subst (Modulo c.loop-j.acc) (ap (λ (k : ℕ). sweep f k 0) all ∙ sweep-end f a.n) c.loop-j.invariant)

high : (c : After-loop-j) → c.loop-j.acc ≤ 9223372036854775807
high c = gathered-high _ _ c.requires.fits63 (gathered c)

pub inner_paths-between-requires : goal.inner_paths-between-requires
inner_paths-between-requires c = c.requires.summable.lengthened

pub loop-j-init : goal.loop-j-init
loop-j-init c = rw swept_start modulo_zero

pub product-term-requires : goal.product-term-requires
product-term-requires c =
    record {
      summable = c.requires.summable;
      in_range = c.requires.in_range;
      between = c.inner_paths-between.ensures;
      i_lt_j = (omega arith, omega arith);
    }

pub loop-i-preserved : goal.loop-i-preserved
loop-i-preserved c = let a = c.args in
    let f = term_of a.edges a.d a.distances.now a.parents.now a.numerators.now in
    gathered_next f _ _ _ _ _ c.loop-i.invariant c.accumulate-acc.ensures
    (ap (λ (z : ℤ). to_z w64 (of_z w64 z)) c.product-term.ensures ∙ term-whole (ready_of c.requires.summable) c.requires.in_range (c.loop-i.i, c.loop-j.j))

pub loop-j-preserved : goal.loop-j-preserved
loop-j-preserved c = let a = c.args in
    let f = term_of a.edges a.d a.distances.now a.parents.now a.numerators.now in
    let all : c.loop-i.i ≡ c.loop-j.j = omega arith in
    subst (Modulo c.loop-i.acc) (ap (sweep f c.loop-j.j) all ∙ sym (sweep-column f c.loop-j.j) ∙ ap (λ (k : ℕ). sweep f k 0) (sym (add-one c.loop-j.j))) c.loop-i.invariant

pub overflow_cast-result : goal.overflow_cast-result
overflow_cast-result c = fits_abs _ (omega (arith, high c))

pub returns : goal.returns
returns c = back-pos c.loop-j.acc (omega (arith, high c)) ∙ gathered c
