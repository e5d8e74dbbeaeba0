-- So many levels fit, and the next does not.
use mathlib.Core.Path.{◌≡◌, sym, ◌∙◌, ap}
use mathlib.Core.Bool.{not}
use Prim.Native.Nat.{ℕ, suc, ◌*◌}
use native.Mathlib.Nat.{mul-le-mul_right}
use native.Mathlib.Omega.{arith}
use borrow.Author.Tests.{ne_eqb}
use lib.Dec.{eqb}
use Rattle.exact.proofs.Decide.{eqb-sym}
use Rattle.long_lengths.proofs.table_out.Goals as goal

pub loop-k-init : goal.loop-k-init
loop-k-init c = (omega arith, omega arith, omega arith)

pub overflow_sub-size : goal.overflow_sub-size
overflow_sub-size c = omega (arith, c.loop-k.invariant.2)

pub returns-then-size-at : goal.returns-then-size-at
returns-then-size-at c = let l = c.loop-k in
    sym (ap not (ne_eqb c.args.size (c.args.levels * c.args.edges) (λ e. absurd (omega (arith, e, c.if-size-at.true, l.invariant.1, l.invariant.2, mul-le-mul_right {m = suc l.k} {n = c.args.levels} c.args.edges c.loop-k-test.true)))))

pub overflow_add-at : goal.overflow_add-at
overflow_add-at c = omega (arith, c.if-size-at.false, c.loop-k.invariant.2)

pub loop-k-preserved : goal.loop-k-preserved
loop-k-preserved c = let l = c.loop-k in (omega (arith, c.loop-k-test.true), omega (arith, l.invariant.1), omega (arith, c.if-size-at.false, l.invariant.2))

pub returns : goal.returns
returns c = let l = c.loop-k in
    let e : l.k ≡ c.args.levels = omega (arith, c.loop-k-test.false, l.invariant.0) in
    ap not (ap (λ (x : ℕ). eqb x c.args.size) (l.invariant.1 ∙ ap (λ (k : ℕ). k * c.args.edges) e) ∙ eqb-sym (c.args.levels * c.args.edges) c.args.size)
