-- The mask is the cluster, and its ones are the strains below v.
use mathlib.Core.Path.{◌≡◌, sym, ◌∙◌, ap}
use native.Mathlib.Omega.{arith}
use lib.Count.{ones}
use mir.Syntax.{w64}
use mir.Val.{to_z}
use Rattle.exact.proofs.Sign.{back-pos}
use Rattle.verdict.specs.Table.{count}
use Rattle.verdict.proofs.Table.{count-le}
use Rattle.tree_theory.specs.Chain.{parent_of, below}
use Rattle.tree_theory.proofs.Masks.{cluster-size}
use Rattle.direct_theory.specs.Averages.{strains_below}
use Rattle.direct_theory.proofs.Sizes.{size-count}
use Rattle.neighbours.proofs.strains.Goals as goal

pub returns : goal.returns
returns c = let N = c.args.n in let par = parent_of c.args.parents.now in let v = c.args.v in
    let e : c.strains_below.result ≡ count N (λ i. below par i v) = c.strains_below.ensures ∙ ap ones (c.requires.standing.masks v c.requires.v_in_bounds) ∙ cluster-size N par v in
    ap (to_z w64) e ∙ back-pos (count N (λ i. below par i v)) (omega (arith, count-le N (λ i. below par i v), c.requires.standing.allowed.few)) ∙ sym (size-count N (strains_below par v))
