-- From the root down a vertex comes to the table at each turn.
use mathlib.Core.Path.{◌≡◌, subst}
use mathlib.Core.List.{List}
use Prim.Native.Nat.{ℕ, ◌-◌}
use native.Mathlib.Omega.{arith}
use lib.IntN.{ℤ}
use Rattle.inner_paths.specs.Between.{Between}
use Rattle.inner_paths.proofs.Reaching.{root-alone}
use Rattle.inner_paths.proofs.fill_paths.Goals as goal

as_many : {K : ℕ} {par : ℕ → ℕ} {X : ℕ → ℤ} {m n : ℕ} {t : List ℤ} → m ≡ n → Between K par X m t → Between K par X n t
as_many {K} {par} {X} {m} {n} {t} e b = subst (λ (k : ℕ). Between K par X k t) e b

pub loop-a-init : goal.loop-a-init
loop-a-init c = (omega (arith, c.requires.lengthened.allowed.edges), omega arith, as_many (omega arith) (root-alone c.requires.lengthened _ c.requires.between_len))

pub reach-requires : goal.reach-requires
reach-requires c = record {
  lengthened = c.requires.lengthened;
  n_le_a = (omega arith, omega (arith, c.loop-a.invariant.1));
  between = as_many (omega (arith, c.loop-a.invariant.1)) c.loop-a.invariant.2;
}

pub loop-a-preserved : goal.loop-a-preserved
loop-a-preserved c = (omega arith, omega (arith, c.loop-a.invariant.1), c.reach.ensures)

pub returns : goal.returns
returns c = let l = c.loop-a in as_many (omega (arith, l.invariant.0, l.invariant.1)) l.invariant.2
