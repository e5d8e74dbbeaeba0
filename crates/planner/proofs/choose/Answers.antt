-- Each answer by the tree lengths of the two sheets, told by the branches that led there.
use mathlib.Core.Path.{sym, ◌∙◌, ap}
use native.Mathlib.Omega.{arith}
use lib.IntN.{nat_abs}
use Rattle.sheet.proofs.Laws.{handed_on}
use Rattle.sheet.proofs.Laws.{back}
use Rattle.planner.specs.Compared.{Chosen}
use Rattle.planner.proofs.Choosing.{first-refused, second-refused, other-matrix, second-shorter, first-shorter}
use Rattle.planner.proofs.choose.Goals as goal

pub returns-in_err-a : goal.returns-in_err-a
returns-in_err-a c = handed_on (Chosen c.args.s.now c.args.t.now) _ _ c.from_residual.ensures (first-refused _ c.args.t.now _ c.in_err-a.ensures.answer)

pub returns-in_err-b : goal.returns-in_err-b
returns-in_err-b c = handed_on (Chosen c.args.s.now c.args.t.now) _ _ c.from_residual-in_err-b.ensures
    (second-refused _ _ c.in_ok-a.ensures.answer _ c.in_err-b.ensures.answer)

pub same_matrix-requires : goal.same_matrix-requires
same_matrix-requires c = (sym c.in_ok-a.ensures.answer, sym c.in_ok-b.ensures.answer)

pub returns-then-not-same_matrix : goal.returns-then-not-same_matrix
returns-then-not-same_matrix c = other-matrix _ _ c.in_ok-a.ensures.answer c.in_ok-b.ensures.answer (sym c.if-not-same_matrix.true ∙ c.same_matrix.ensures)

pub less-requires : goal.less-requires
less-requires c = let x = c.in_ok-a.ensures.length in
    let y = c.in_ok-b.ensures.length in
    let u = back c.in_ok-a.a.numerator (omega (arith, x.near)) in
    let v = back c.in_ok-b.b.numerator (omega (arith, y.near)) in (
      omega (arith, x.near, y.near, ap nat_abs u, ap nat_abs v),
      omega (arith, x.near, y.near, ap nat_abs u, ap nat_abs v),
      omega (arith, x.most, y.most),
      omega (arith, x.one, y.one),
      omega (arith, x.most, y.most),
    )

pub returns-then-less : goal.returns-then-less
returns-then-less c = let x = c.in_ok-a.ensures.length in
    let y = c.in_ok-b.ensures.length in
    let u = back c.in_ok-a.a.numerator (omega (arith, x.near)) in
    let v = back c.in_ok-b.b.numerator (omega (arith, y.near)) in
    second-shorter _ _ c.in_ok-a.ensures.answer c.in_ok-b.ensures.answer c.in_ok-a.a c.in_ok-b.b x y
    (sym c.if-not-same_matrix.false ∙ c.same_matrix.ensures) (sym c.if-less.true ∙ (simp (u, v) at c.less.ensures))

pub returns : goal.returns
returns c = let x = c.in_ok-a.ensures.length in
    let y = c.in_ok-b.ensures.length in
    let u = back c.in_ok-a.a.numerator (omega (arith, x.near)) in
    let v = back c.in_ok-b.b.numerator (omega (arith, y.near)) in
    first-shorter _ _ c.in_ok-a.ensures.answer c.in_ok-b.ensures.answer c.in_ok-a.a c.in_ok-b.b x y
    (sym c.if-not-same_matrix.false ∙ c.same_matrix.ensures) (sym c.if-less.false ∙ (simp (u, v) at c.less.ensures))
