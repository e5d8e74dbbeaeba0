-- What the code reads back from its bits: a remainder, and a distance. The idea: each is small enough to come back as it went in.
use mathlib.Core.Path.{◌≡◌, ap, ◌∙◌}
use mathlib.Core.Bool.{true}
use mathlib.Core.List.{List}
use Prim.Native.Nat.{ℕ, ◌+◌, ◌<◌}
use native.Mathlib.Omega.{arith}
use lib.IntN.{ℤ, pos}
use lib.ListN.{get_or}
use mir.Syntax.{w64}
use mir.Val.{SFits, to_z, of_z}
use mir.Facts.{to_z-of_z}
use Rattle.exact.specs.Table.{table}
use Rattle.exact.proofs.Fill.{get_or_table}
use Rattle.exact.proofs.Sign.{fits_abs}
use Rattle.matrix.specs.Place.{place, measured}
use Rattle.tree_theory.specs.Chain.{parent_of}
use Rattle.tree_theory.specs.Cluster.{cluster}
use Rattle.pairs.specs.Ready.{Ready, remainder_at}
use Rattle.pairs.proofs.Remaining.{far-near, remainder-fits}
use Rattle.fit_numbers.specs.Terms.{Summable}

-- what the sums are lent is what the pairs ask, beside the clusters that nothing here reads
pub ready_of : {N K D : ℕ} {ds ps : List ℕ} {ns : List ℤ} → Summable N K D ds ps ns → Ready N K D ds ps (table (K + 1) (cluster N (parent_of ps))) ns
ready_of {N} {K} {D} {ds} {ps} w = record {
  standing = record {
    room = w.lengthened.room;
    allowed = w.lengthened.allowed;
    masks = λ v h. get_or_table (K + 1) (cluster N (parent_of ps)) 0 v (omega arith);
  };
  most = w.most;
  room = w.room;
  near = w.near;
  small = w.lengthened.small;
}

pub summable : {N K D : ℕ} {ds ps cs : List ℕ} {ns : List ℤ} → Ready N K D ds ps cs ns → Summable N K D ds ps ns
summable w = record {
  lengthened = record { room = w.standing.room; allowed = w.standing.allowed; small = w.small };
  most = w.most;
  room = w.room;
  near = w.near;
}

-- the remainder of a pair
pub remainder-back : {N K D : ℕ} {ds ps cs : List ℕ} {ns : List ℤ} → Ready N K D ds ps cs ns → (i j : ℕ) → i < j → j < N
    → (off : ℤ) → off ≡ remainder_at K D ds ps ns (i, j) → to_z w64 (of_z w64 off) ≡ remainder_at K D ds ps ns (i, j)
remainder-back w i j rising strain off e = ap (λ z. to_z w64 (of_z w64 z)) e ∙ to_z-of_z (remainder-fits w i j rising strain)

-- the distance of a measured pair, as it is cast
pub read_fits : {N K D : ℕ} {ds ps cs : List ℕ} {ns : List ℤ} → Ready N K D ds ps cs ns → (i j : ℕ) → i < j → j < N → (k : ℕ) → k ≡ place i j → measured ds (i, j) ≡ true → SFits w64 (pos (get_or ds k 0))
read_fits {N} {K} {D} {ds} w i j rising strain k e m = rw e (fits_abs (pos (get_or ds (place i j) 0)) (omega (arith, far-near w i j rising strain m)))
