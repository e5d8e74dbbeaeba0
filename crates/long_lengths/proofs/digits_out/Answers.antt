-- The three passes.
use mathlib.Core.Path.{◌≡◌, sym, ◌∙◌}
use borrow.Author.Rules.{rules}
use lib.Dec.{ltb}
use lib.IntN.{pos, nat_abs}
use lib.Signed.{lt_z}
use Rattle.verdict.specs.Table.{some}
use Rattle.long_theory.specs.Long.{digit_of}
use Rattle.long_lengths.proofs.Ranges.{or_met, or_past, and_none, and-past}
use Rattle.long_lengths.proofs.digits_out.Goals as goal
use Rattle.long_lengths.proofs.digits_out.Goals.{After-some_digit, After-some_digit-2, After-some_digit-then-some_digit-2}

far : (c : After-some_digit) → c.some_digit.result ≡ some c.args.levels (λ k. ltb 999999 (nat_abs (digit_of c.args.edges c.args.digits.now k c.args.v)))
far c = c.some_digit.ensures (λ x. ltb 999999 (nat_abs x)) (λ x b e. search rules)

below : (c : After-some_digit-2) → c.some_digit-2.result ≡ some c.args.levels (λ k. lt_z (digit_of c.args.edges c.args.digits.now k c.args.v) (pos 0))
below c = c.some_digit-2.ensures (λ x. lt_z x (pos 0)) (λ x b e. search rules)

above : (c : After-some_digit-then-some_digit-2) → c.some_digit-then-some_digit-2.result ≡ some c.args.levels (λ k. lt_z (pos 0) (digit_of c.args.edges c.args.digits.now k c.args.v))
above c = c.some_digit-then-some_digit-2.ensures (λ x. lt_z (pos 0) x) (λ x b e. search rules)

pub returns-then-some_digit : goal.returns-then-some_digit
returns-then-some_digit c = or_met _ _ (sym (far (goal.at.returns-then-some_digit c).After-some_digit) ∙ c.if-some_digit.true)

pub returns-then-some_digit-2 : goal.returns-then-some_digit-2
returns-then-some_digit-2 c = let g = goal.at.returns-then-some_digit-2 c in
    or_past _ _ _ (sym (far g.After-some_digit) ∙ c.if-some_digit.false) (and-past _ _ _ (sym (below g.After-some_digit-2) ∙ c.if-some_digit-2.true) (above c))

pub returns-else-some_digit-2 : goal.returns-else-some_digit-2
returns-else-some_digit-2 c = let g = goal.at.returns-else-some_digit-2 c in
    or_past _ _ _ (sym (far g.After-some_digit) ∙ c.if-some_digit.false) (c.if-some_digit-2.false ∙ and_none _ _ (sym (below g.After-some_digit-2) ∙ c.if-some_digit-2.false))
