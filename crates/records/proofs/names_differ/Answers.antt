-- A sheet without names is not asked.
use mathlib.Core.Path.{sym, ap, ap₂, ◌∙◌}
use mathlib.Core.Bool.{Bool, not, ◌&&◌}
use Prim.Native.Nat.{ℕ}
use borrow.Author.Tests.{lt-ltb, le-ltb}
use lib.Dec.{eqb}
use Rattle.endian.specs.Bytes.{number}
use Rattle.records.specs.Form.{names_at}
use Rattle.records.proofs.names_differ.Goals as goal

pub returns-then-count-le3 : goal.returns-then-count-le3
returns-then-count-le3 c = simp (le-ltb 3 c.args.count c.if-count-le3.true)

pub names_at-names-requires : goal.names_at-names-requires
names_at-names-requires c = (c.requires c.if-count-le3.false).0

pub u16_at-requires : goal.u16_at-requires
u16_at-requires c = (c.requires c.if-count-le3.false).1

pub returns : goal.returns
returns c = let a = c.args in
    let names = eqb (names_at a.s.now a.at) (number 2 a.s.now 6) in
    ap₂ (λ (x y : ℕ). not (eqb x y)) c.names_at-names.ensures.0 c.u16_at.ensures
    ∙ ap (λ (b : Bool). b && not names) (sym (lt-ltb 3 a.count c.if-count-le3.false))
