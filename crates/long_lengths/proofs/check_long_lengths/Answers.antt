-- `check_long_lengths`: each test's outcome is what its number asks.
use mathlib.Core.Path.{sym, ◌∙◌}
use Prim.Native.Nat.{◌*◌}
use native.Mathlib.Omega.{arith}
use borrow.Author.Tests.{eqb-true, not-false}
use lib.Dec.{eqb}
use lib.ListN.{length}
use Rattle.long_theory.proofs.Checked.{denominator-digits}
use Rattle.long_lengths.proofs.Answered.{is-11, is-11-many, is-12, is-13, is-0}
use Rattle.long_lengths.proofs.check_long_lengths.Goals as goal

pub returns-then-table_out : goal.returns-then-table_out
returns-then-table_out c = is-11 c.args.edges c.args.d.now c.args.digits.now (sym c.table_out.ensures ∙ c.if-table_out.true)

pub returns-then-edges-gt-MAX_EDGES : goal.returns-then-edges-gt-MAX_EDGES
returns-then-edges-gt-MAX_EDGES c = is-11-many c.args.edges c.args.d.now c.args.digits.now (sym c.table_out.ensures ∙ c.if-table_out.false) c.if-edges-gt-MAX_EDGES.true

pub returns-then-denominator_out : goal.returns-then-denominator_out
returns-then-denominator_out c = is-12 c.args.edges c.args.d.now c.args.digits.now (sym c.table_out.ensures ∙ c.if-table_out.false)
    c.if-edges-gt-MAX_EDGES.false (sym c.denominator_out.ensures ∙ c.if-denominator_out.true)

pub first_out-v-requires : goal.first_out-v-requires
first_out-v-requires c = record {
  edges_in_bounds = omega (
    arith,
    eqb-true (length c.args.digits.now) (length c.args.d.now * c.args.edges)
        (not-false (eqb (length c.args.digits.now) (length c.args.d.now * c.args.edges)) (sym c.table_out.ensures ∙ c.if-table_out.false)),
  );
  by_index = denominator-digits c.args.d.now (sym c.denominator_out.ensures ∙ c.if-denominator_out.false);
}

pub returns-then-v-edges : goal.returns-then-v-edges
returns-then-v-edges c = is-13 c.args.edges c.args.d.now c.args.digits.now (sym c.table_out.ensures ∙ c.if-table_out.false)
    c.if-edges-gt-MAX_EDGES.false (sym c.denominator_out.ensures ∙ c.if-denominator_out.false) c.first_out-v.result c.first_out-v.ensures c.if-v-edges.true

pub returns : goal.returns
returns c = is-0 c.args.edges c.args.d.now c.args.digits.now (sym c.table_out.ensures ∙ c.if-table_out.false)
    c.if-edges-gt-MAX_EDGES.false (sym c.denominator_out.ensures ∙ c.if-denominator_out.false) c.first_out-v.result c.first_out-v.ensures c.if-v-edges.false
