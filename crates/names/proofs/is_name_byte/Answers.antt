-- A digit, a letter, or else the last test.
use mathlib.Core.Path.{sym, ap, ap₂, ◌∙◌}
use mathlib.Core.Bool.{Bool, ◌||◌}
use lib.Dec.{eqb}
use Rattle.names.specs.Name.{is_letter, is_name_byte}
use Rattle.names.proofs.is_name_byte.Goals as goal

pub returns-then-is_digit : goal.returns-then-is_digit
unfolding is_name_byte
returns-then-is_digit c = let x = c.args.byte in
    sym (ap (λ (b : Bool). b || (is_letter x || eqb x 95)) (sym c.is_digit.ensures ∙ c.if-is_digit.true))

pub returns-then-is_letter : goal.returns-then-is_letter
unfolding is_name_byte
returns-then-is_letter c = let x = c.args.byte in
    sym (ap₂ (λ (a b : Bool). a || (b || eqb x 95)) (sym c.is_digit.ensures ∙ c.if-is_digit.false) (sym c.is_letter.ensures ∙ c.if-is_letter.true))

pub returns : goal.returns
unfolding is_name_byte
returns c = let x = c.args.byte in
    sym (ap₂ (λ (a b : Bool). a || (b || eqb x 95)) (sym c.is_digit.ensures ∙ c.if-is_digit.false) (sym c.is_letter.ensures ∙ c.if-is_letter.false))
