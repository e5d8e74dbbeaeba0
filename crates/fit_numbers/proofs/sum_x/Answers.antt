-- The sum is that of the squares before the pair at hand; it fits because the whole does.
use mathlib.Core.Path.{◌≡◌, sym, ap, ◌∙◌}
use Prim.Native.Nat.{ℕ, ◌<◌}
use native.Mathlib.Omega.{arith}
use lib.IntN.{ℤ}
use mir.Syntax.{w64}
use mir.Val.{to_z, of_z}
use native.Mathlib.Numerals.{add-one}
use Rattle.exact.specs.Sum.{sweep}
use Rattle.exact.proofs.Sweep.{sweep-column, sweep-end}
use Rattle.pairs.specs.Ready.{remainder_at}
use Rattle.fit_numbers.proofs.Terms.{swept_start}
use Rattle.fit_numbers.proofs.Squares.{square_of, square-fits, squares-fit, squares-next}
use Rattle.fit_numbers.proofs.Back.{ready_of, remainder-back}
use Rattle.fit_numbers.proofs.sum_x.Goals as goal
use Rattle.fit_numbers.proofs.sum_x.Goals.{After-remainder-off}

-- the remainder of the pair at hand, as the code reads it
module _ (c : After-remainder-off) where
  abbrev off : ℕ × ℕ → ℤ
  off = let a = c.args in remainder_at a.edges a.d a.distances.now a.parents.now a.x.now

  read : to_z w64 (of_z w64 c.remainder-off.result) ≡ off (c.loop-i.i, c.loop-j.j)
  read = remainder-back (ready_of c.requires.summable) _ _ (omega arith) (omega arith) _ c.remainder-off.ensures

pub inner_paths-between-requires : goal.inner_paths-between-requires
inner_paths-between-requires c = c.requires.summable.lengthened

pub loop-j-init : goal.loop-j-init
loop-j-init c = sym (swept_start _)

pub remainder-off-requires : goal.remainder-off-requires
remainder-off-requires c = record {
  summable = c.requires.summable;
  between = c.inner_paths-between.ensures;
  i_lt_j = (omega arith, omega arith);
}

pub overflow_mul-sum : goal.overflow_mul-sum
overflow_mul-sum c = square-fits _ (off c) c.requires.fits63 _ _ (omega arith) (omega arith) _ (read c)

pub overflow_add-sum : goal.overflow_add-sum
overflow_add-sum c = squares-fit _ (off c) c.requires.fits63 _ _ (omega arith) (omega arith) _ (read c) (to_z w64 c.loop-i.sum-bits) c.loop-i.invariant

pub loop-i-preserved : goal.loop-i-preserved
loop-i-preserved c = let p = (goal.at.loop-i-preserved c).After-remainder-off in
    squares-next _ (off p) c.requires.fits63 _ _ (omega arith) (omega arith) _ (read p) (to_z w64 c.loop-i.sum-bits) c.loop-i.invariant

pub loop-j-preserved : goal.loop-j-preserved
loop-j-preserved c = let a = c.args in
    let f = square_of (remainder_at a.edges a.d a.distances.now a.parents.now a.x.now) in
    let all : c.loop-i.i ≡ c.loop-j.j = omega arith in
    c.loop-i.invariant ∙ ap (sweep f c.loop-j.j) all ∙ sym (sweep-column f c.loop-j.j) ∙ ap (λ (k : ℕ). sweep f k 0) (sym (add-one c.loop-j.j))

pub returns : goal.returns
returns c = let a = c.args in
    let f = square_of (remainder_at a.edges a.d a.distances.now a.parents.now a.x.now) in
    let all : c.loop-j.j ≡ a.n = omega (arith, c.requires.summable.lengthened.allowed.three, c.loop-j-test.false) in
    c.loop-j.invariant ∙ ap (λ (k : ℕ). sweep f k 0) all ∙ sweep-end f a.n
