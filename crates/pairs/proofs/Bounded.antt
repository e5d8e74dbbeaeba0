-- What is asked of the tables is what the ranges of a proposal ask.
use mathlib.Core.List.{List}
use Prim.Native.Nat.{ℕ}
use lib.IntN.{ℤ}
use Rattle.exact.specs.Table.{entry_of}
use Rattle.matrix.specs.Place.{distance, place}
use Rattle.fit_theory.proofs.Ranges.{Bounds}
use Rattle.paths.proofs.Bounds.{few-edges}
use Rattle.pairs.specs.Ready.{Ready, InRange}

pub in_bounds : {N K D : ℕ} {ds ps cs : List ℕ} {ns : List ℤ} → Ready N K D ds ps cs ns → InRange K ns → Bounds K (distance ds) D (entry_of ns)
in_bounds {N} w t = record {
  few = few-edges w.standing;
  most = w.most;
  distances = λ p. w.near (place p.0 p.1);
  numerators = t.near;
}
