-- What a contract leaves open: nothing. Any two results that meet it, of the same input, are the same.
use mathlib.Core.Path.{◌≡◌, ap₂}
use mathlib.Core.List.{List}
use Prim.Native.Nat.{ℕ}
use lib.IntN.{ℤ}
use Rattle.correction_theory.specs.Kept.{Beside}
use Rattle.correction_theory.proofs.Settled.{one-beside}
use Rattle.keeping.specs.declared.Kept.{Kept}

pub one_fresh : {N : ℕ} {ds ps : List ℕ} {r r' : Kept} → Beside N ds ps r.sums r.counts → Beside N ds ps r'.sums r'.counts → r ≡ r'
one_fresh a b = let (s, t) = one-beside a b in ap₂ (λ (x y : List ℤ). record { sums = x; counts = y }) s t
