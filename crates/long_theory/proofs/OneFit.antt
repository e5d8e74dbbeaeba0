-- RULES, One fit only: a long table and a short one that both stand agree, and so do two long ones.
use mathlib.Core.Path.{◌≡◌}
use mathlib.Core.List.{List}
use Prim.Native.Nat.{ℕ, ◌<◌}
use lib.IntN.{ℤ}
use lib.ListN.{length}
use Rattle.verdict.specs.declared.Rule.{Rule}
use Rattle.matrix.specs.Place.{Complete}
use Rattle.fit_theory.specs.Stands.{Fitted, Stands, scaled}
use Rattle.fit_theory.proofs.OneFit.{one-fit}
use Rattle.long_theory.specs.Long.{long_denominator, long_numerators, LongStands}

module _ (rule : Rule) (N : ℕ) (ds ps : List ℕ) (all : Complete ds) (Ds : List ℕ) (ns : List ℤ) (s : LongStands rule N ds ps Ds ns) where
  -- with any other fit
  long-agree : (D' : ℕ) (ns' : List ℤ) → Fitted rule N ds ps D' ns'
      → (v : ℕ) → v < length ps → scaled D' (long_numerators (length Ds) (length ps) ns) v ≡ scaled (long_denominator (length Ds) Ds) ns' v
  long-agree D' ns' t = (one-fit rule N ds ps (long_denominator (length Ds) Ds) (long_numerators (length Ds) (length ps) ns) all s.fitted).agree D' ns' t

  pub long-short : (D' : ℕ) (ns' : List ℤ) → Stands rule N ds ps D' ns'
      → (v : ℕ) → v < length ps → scaled D' (long_numerators (length Ds) (length ps) ns) v ≡ scaled (long_denominator (length Ds) Ds) ns' v
  long-short D' ns' t = long-agree D' ns' t.fitted

  pub long-long : (Ds' : List ℕ) (ns' : List ℤ) → LongStands rule N ds ps Ds' ns'
      → (v : ℕ) → v < length ps → scaled (long_denominator (length Ds') Ds') (long_numerators (length Ds) (length ps) ns) v ≡ scaled (long_denominator (length Ds) Ds) (long_numerators (length Ds') (length ps) ns') v
  long-long Ds' ns' t = long-agree (long_denominator (length Ds') Ds') (long_numerators (length Ds') (length ps) ns') t.fitted
