-- A matrix that passes has at most the pairs of the most strains; no more is left than the pairs of the most strains.
use mathlib.Core.Path.{sym, ◌∙◌, ap}
use Prim.Native.Nat.{ℕ, ◌-◌}
use native.Mathlib.Omega.{arith}
use Rattle.matrix.proofs.Places.{pairs-few}
use Rattle.mean.specs.Mean.{times}
use Rattle.mean.proofs.Divisor.{missing-none, complete-times}
use Rattle.mean.proofs.mean_over.Goals as goal

pub returns-then-some_missing : goal.returns-then-some_missing
returns-then-some_missing c = let a = c.args in
    sym (missing-none a.n a.distances.now a.edges a.d (sym c.some_missing.ensures ∙ c.if-some_missing.true))

pub times-requires : goal.times-requires
times-requires c = omega (arith, c.saturating_sub.ensures, c.pair_count-pairs.ensures, pairs-few c.args.n c.requires.few)

pub returns : goal.returns
returns c = let a = c.args in
    c.times.ensures ∙ ap (times a.d) (c.saturating_sub.ensures ∙ ap (λ (k : ℕ). k - a.edges) c.pair_count-pairs.ensures)
    ∙ sym (complete-times a.n a.distances.now a.edges a.d (sym c.some_missing.ensures ∙ c.if-some_missing.false))
