-- The digits, then the length.
use mathlib.Core.Path.{sym, ◌∙◌}
use mathlib.Core.Bool.{Bool, ◌&&◌}
use Prim.Native.Nat.{ℕ}
use native.Mathlib.Omega.{arith}
use borrow.Author.Tests.{ltb-false}
use lib.Dec.{ltb}
use lib.IntN.{pos, nat_abs}
use lib.ListN.{length}
use lib.Signed.{lt_z}
use Rattle.verdict.specs.Table.{some}
use Rattle.verdict.proofs.Answers.{or_none}
use Rattle.verdict.proofs.Table.{some-none}
use Rattle.long_theory.specs.Long.{digit_of}
use Rattle.long_lengths.proofs.Ranges.{or_met, or_past}
use Rattle.long_lengths.proofs.numerator_out.Goals as goal

pub returns-then-digits_out : goal.returns-then-digits_out
returns-then-digits_out c = or_met _ _ (sym c.digits_out.ensures ∙ c.if-digits_out.true)

pub beyond-requires : goal.beyond-requires
beyond-requires c = let far : ℕ → Bool = λ k. ltb 999999 (nat_abs (digit_of c.args.edges c.args.digits.now k c.args.v)) in
    let none = (or_none (some (length c.args.d.now) far)
    (some (length c.args.d.now) (λ k. lt_z (digit_of c.args.edges c.args.digits.now k c.args.v) (pos 0)) && some (length c.args.d.now) (λ k. lt_z (pos 0) (digit_of c.args.edges c.args.digits.now k c.args.v)))
    (sym c.digits_out.ensures ∙ c.if-digits_out.false)).0 in
    record {
      row = c.requires.long_row;
      levels = omega arith;
      digits = c.requires.by_index;
      tops = λ k l. omega (arith, ltb-false 999999 (nat_abs (digit_of c.args.edges c.args.digits.now k c.args.v)) (some-none (length c.args.d.now) far none k l));
    }

pub returns : goal.returns
returns c = or_past _ _ _ (sym c.digits_out.ensures ∙ c.if-digits_out.false) c.beyond.ensures
