-- `records` says where the third record of an accepted sheet starts, and of a sheet of the form a place in it.
use borrow.Author.Rules.{rules}
use mathlib.Core.Path.{refl, ap}
use Prim.Native.Nat.{ℕ, ◌+◌, ◌-◌}
use lib.ListN.{length, take, drop}
use Rattle.verdict.specs.declared.Rule.TheVariants.{Plain}
use Rattle.sheet.proofs.Laws.{third-record}
use Rattle.planner.proofs.third.Goals as goal

pub slice_bounds-result-count : goal.slice_bounds-result-count
slice_bounds-result-count c = (third-record Plain _ c.in-Ok.laid c.in-Ok.ensures).within

pub slice_bounds-result-start : goal.slice_bounds-result-start
slice_bounds-result-start c = search (rules, (third-record Plain _ c.in-Ok.laid c.in-Ok.ensures).within)

pub returns-in-Ok : goal.returns-in-Ok
returns-in-Ok c z = let s = c.args.s in
    let e = (third-record Plain s.now c.in-Ok.laid c.in-Ok.ensures).start z in
    record {
      block = refl;
      start = ap (λ (i : ℕ). i + s.ref_ptr.1) e;
      bytes = ap (λ (i : ℕ). take (length s.now - i) (drop i s.now)) e;
    }
