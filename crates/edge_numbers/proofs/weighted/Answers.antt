-- A product a turn.
use Rattle.std.proofs.Common.{◌≡◌, ℕ, ◌-◌, pos, ◌+ℤ◌, subst, arith, to_z-of_z}
use Rattle.exact.specs.Modulo.{Modulo}
use Rattle.edge_numbers.proofs.Weights.{weighted_to, weights_none, weights_more}
use mir.Syntax.{w64}
use Rattle.edge_numbers.proofs.weighted.Goals as goal

pub loop-v-init : goal.loop-v-init
loop-v-init c = (omega arith, weights_none c.args.acc c.args.x.now c.args.y.now)

pub loop-v-preserved : goal.loop-v-preserved
loop-v-preserved c = (
  omega arith,
  weights_more _ _ _ c.loop-v.v c.args.x.now c.args.y.now _ _ (to_z-of_z {w = w64} (record { sfits = c.gather-arg-1.given })) (to_z-of_z {w = w64} (record { sfits = c.gather-arg-in-loop-v-1.given })) c.loop-v.invariant.1 c.gather-held.ensures,
)

pub returns : goal.returns
returns c = let a = c.args in
    let e : c.loop-v.v ≡ a.edges = omega (arith, c.loop-v.invariant.0) in
    subst (λ (n : ℕ). Modulo c.loop-v.held (pos a.acc +ℤ weighted_to a.x.now a.y.now n)) e c.loop-v.invariant.1
