-- The remainder of a pair, as the code works it: where its distance stands, and that every step fits.
use mathlib.Core.Path.{◌≡◌, refl, sym, ◌∙◌, ap, ap₂}
use mathlib.Core.Bool.{Bool, true, false}
use mathlib.Core.List.{List}
use mathlib.Core.Logic.{◌≢◌}
use Prim.Native.Nat.{ℕ, ◌+◌, ◌*◌, ◌<◌, ◌≤◌}
use native.Mathlib.Nat.{mul-le-mul}
use native.Mathlib.Omega.{arith}
use lib.IntN.{ℤ, pos, ◌-ℤ◌, ◌*ℤ◌, nat_abs}
use lib.ListN.{length, get_or}
use mir.Syntax.{w64}
use mir.Val.{SFits, to_z, of_z}
use mir.Facts.{to_z-of_z}
use Rattle.exact.specs.LeastSquares.{path}
use Rattle.exact.proofs.Sign.{nat_abs_sub, fits_abs, back-pos}
use Rattle.matrix.specs.Limits.{max_distance, missing}
use Rattle.matrix.specs.Place.{place, measured}
use Rattle.matrix.proofs.Looking.{known_of, read-measured, read-missing}
use Rattle.matrix.proofs.Places.{place-bound}
use Rattle.fit_theory.proofs.Measured.{measured-remainder, missing-remainder}
use Rattle.tree_theory.specs.Chain.{parent_of, parts_pair}
use Rattle.exact.specs.Table.{entry_of}
use Rattle.lengths.specs.Limits.{max_denominator}
use Rattle.paths.proofs.Bounds.{farthest_path, path-near}
use Rattle.pairs.specs.Ready.{Ready, remainder_at}

module _ {N K D : ℕ} {ds ps cs : List ℕ} {ns : List ℤ} (w : Ready N K D ds ps cs ns) (i j : ℕ) (rising : i < j) (strain : j < N) where
  pub slot : place i j < length ds
  slot = omega (arith, place-bound N i j rising strain, w.room)

  -- what stands there
  abbrev pub far : ℕ
  far = get_or ds (place i j) 0

  -- ---- a measured pair: its distance, and D times it, as it is cast and multiplied
  module _ (e : measured ds (i, j) ≡ true) where
    pub far-near : far ≤ max_distance
    far-near = omega (arith, w.near (place i j), known_of far e)

    product_small : D * far ≤ max_denominator * max_distance
    product_small = mul-le-mul {n₂ = max_denominator} {m₂ = max_distance} w.most far-near

    pub scaled : to_z w64 D *ℤ to_z w64 far ≡ pos D *ℤ pos far
    scaled = ap₂ ◌*ℤ◌ (back-pos D (omega (arith, w.most))) (back-pos far (omega (arith, far-near)))

    pub scaled_fits : SFits w64 (pos D *ℤ pos far)
    scaled_fits = fits_abs (pos D *ℤ pos far) (omega (arith, product_small))

  path-small : nat_abs (path K (parts_pair (parent_of ps)) (entry_of ns) (i, j)) ≤ farthest_path
  path-small = path-near w.small (omega (arith, w.standing.allowed.few, w.standing.allowed.most)) (parent_of ps) (i, j)

  pub path-fits : SFits w64 (path K (parts_pair (parent_of ps)) (entry_of ns) (i, j))
  path-fits = fits_abs (path K (parts_pair (parent_of ps)) (entry_of ns) (i, j)) (omega (arith, path-small))

  pub remainder-small : nat_abs (remainder_at K D ds ps ns (i, j)) ≤ farthest_path + max_denominator * max_distance
  remainder-small = go (measured ds (i, j)) refl
    where
      go : (m : Bool) → measured ds (i, j) ≡ m → nat_abs (remainder_at K D ds ps ns (i, j)) ≤ farthest_path + max_denominator * max_distance
      go true e = omega (
        arith,
        ap nat_abs (measured-remainder ds ps (i, j) e K (pos D) (entry_of ns)),
        nat_abs_sub (pos D *ℤ pos far) (path K (parts_pair (parent_of ps)) (entry_of ns) (i, j)),
        path-small,
        product_small e,
      )
      go false e = omega (arith, ap nat_abs (missing-remainder ds ps (i, j) e K (pos D) (entry_of ns)))

  pub remainder-fits : SFits w64 (remainder_at K D ds ps ns (i, j))
  remainder-fits = fits_abs (remainder_at K D ds ps ns (i, j)) (omega (arith, remainder-small))

  -- what the code reads at the pair's place says whether it is measured
  pub has : (slot' : ℕ) → slot' ≡ place i j → get_or ds slot' 0 ≢ missing → measured ds (i, j) ≡ true
  has slot' e n = read-measured ds slot' (place i j) e n

  pub has_not : (slot' : ℕ) → slot' ≡ place i j → get_or ds slot' 0 ≡ missing → remainder_at K D ds ps ns (i, j) ≡ pos 0
  has_not slot' e m = missing-remainder ds ps (i, j) (read-missing ds slot' (place i j) e m) K (pos D) (entry_of ns)

  -- the code's difference, step by step, is the remainder
  pub worked : (slot' : ℕ) (walked : ℤ) → slot' ≡ place i j → measured ds (i, j) ≡ true → walked ≡ path K (parts_pair (parent_of ps)) (entry_of ns) (i, j)
      → to_z w64 (of_z w64 (to_z w64 D *ℤ to_z w64 (get_or ds slot' 0))) -ℤ to_z w64 (of_z w64 walked) ≡ remainder_at K D ds ps ns (i, j)
  worked slot' walked e m f = rw (e, f, scaled m) (ap₂ ◌-ℤ◌ (to_z-of_z (scaled_fits m)) (to_z-of_z path-fits)) ∙ sym (measured-remainder ds ps (i, j) m K (pos D) (entry_of ns))
