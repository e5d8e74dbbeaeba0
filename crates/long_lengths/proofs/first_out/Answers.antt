-- No numerator so far is out of its range.
use mathlib.Core.Path.{◌≡◌, sym, ◌∙◌}
use native.Mathlib.Omega.{arith}
use borrow.Author.Count.{below_none, below_more}
use Rattle.verdict.proofs.Table.{first-is, past_first}
use Rattle.long_theory.specs.Tests.{long_numerator_out}
use Rattle.long_lengths.proofs.first_out.Goals as goal

pub loop-v-init : goal.loop-v-init
loop-v-init c = (omega arith, below_none _)

pub numerator_out-requires : goal.numerator_out-requires
numerator_out-requires c = record {
  long_row = record { table = c.requires.edges_in_bounds; edge = c.loop-v-test.true };
  by_index = c.requires.by_index;
}

pub returns-then-numerator_out : goal.returns-then-numerator_out
returns-then-numerator_out c = sym (first-is _ _ c.loop-v.v (omega (arith, c.loop-v-test.true)) (sym c.numerator_out.ensures ∙ c.if-numerator_out.true) c.loop-v.invariant.1)

pub loop-v-preserved : goal.loop-v-preserved
loop-v-preserved c = (omega (arith, c.loop-v-test.true), below_more _ _ c.loop-v.invariant.1 (sym c.numerator_out.ensures ∙ c.if-numerator_out.false))

pub returns : goal.returns
returns c = let l = c.loop-v in
    let e : l.v ≡ c.args.edges = omega (arith, c.loop-v-test.false, l.invariant.0) in
    sym (past_first c.args.edges (long_numerator_out c.args.edges c.args.d.now c.args.digits.now) (λ i h. l.invariant.1 i (omega (arith, h, e))))
