-- No digit so far is what is looked for.
use mathlib.Core.Path.{◌≡◌, sym, ap, ◌∙◌}
use mathlib.Core.Bool.{Bool}
use native.Mathlib.Omega.{arith}
use borrow.Author.Count.{below_none, below_more}
use lib.IntN.{ℤ}
use mir.Syntax.{w64}
use mir.Facts.{to_z-of_z}
use Rattle.verdict.proofs.Table.{some-yes, some-no}
use Rattle.long_theory.specs.Long.{digit_of}
use Rattle.long_lengths.proofs.some_digit.Given as given
use Rattle.long_lengths.proofs.some_digit.Goals as goal
use Rattle.long_lengths.proofs.some_digit.Goals.{After-is_found}

-- what the test says of the digit at hand, by a rule that tells its answers
tested : (g : given.Over) (c : After-is_found g) (rule : ℤ → Bool) → ((x : ℤ) (b : Bool) → given.F-post g c.args.is_found x b → b ≡ rule x)
    → c.is_found.result ≡ rule (digit_of c.args.edges c.args.digits.now c.loop-k.k c.args.v)
tested g c rule told =
    told _ _ c.is_found.ensures
    ∙ ap rule (to_z-of_z {w = w64} (record { sfits = c.is_found-arg-1.given }))

pub loop-k-init : goal.loop-k-init
loop-k-init g c = (omega arith, λ rule told. below_none _)

pub returns-then-is_found : goal.returns-then-is_found
returns-then-is_found g c = λ rule told. sym (some-yes c.args.levels (λ k. rule (digit_of c.args.edges c.args.digits.now k c.args.v)) c.loop-k.k c.loop-k-test.true
    (sym (tested g (goal.at.returns-then-is_found g c).After-is_found rule told) ∙ c.if-is_found.true))

pub loop-k-preserved : goal.loop-k-preserved
loop-k-preserved g c = (omega arith, λ rule told. below_more _ _ (c.loop-k.invariant.1 rule told) (sym (tested g (goal.at.loop-k-preserved g c).After-is_found rule told) ∙ c.if-is_found.false))

pub returns : goal.returns
returns g c = λ rule told. sym (some-no c.args.levels (λ k. rule (digit_of c.args.edges c.args.digits.now k c.args.v)) (λ i h. c.loop-k.invariant.1 rule told i (omega (arith, h, c.loop-k-test.false))))
