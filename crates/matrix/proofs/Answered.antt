-- The answer of each outcome of the tests.
use mathlib.Core.Path.{◌≡◌, ◌∙◌}
use mathlib.Core.List.{List}
use Prim.Native.Nat.{ℕ, ◌<◌, ◌≤◌}
use borrow.Author.Tests.{lt-ltb, le-ltb, eq-eqb, ne_eqb}
use mathlib.Core.Bool.{true, false}
use mathlib.Core.Logic.{◌≢◌}
use lib.ListN.{length}
use Rattle.verdict.specs.Answer.{fault, pass}
use Rattle.verdict.specs.declared.Place.TheVariants.{Nowhere}
use Rattle.matrix.specs.Tests.{matrix_tests, distance_out}
use Rattle.matrix.specs.Limits.{min_strains, max_strains}
use Rattle.matrix.specs.Place.{pair_count}

module _ (N : ℕ) (ds : List ℕ) where
  pub is-4 : length ds ≢ pair_count N → fault 4 Nowhere ≡ matrix_tests N ds
  is-4 h = simp (ne_eqb (length ds) (pair_count N) h)

  module _ (whole : length ds ≡ pair_count N) where
    pub is-6-few : N < min_strains → fault 6 Nowhere ≡ matrix_tests N ds
    is-6-few h = simp (eq-eqb (length ds) (pair_count N) whole, lt-ltb N min_strains h)

    module _ (low : min_strains ≤ N) where
      pub is-6-many : max_strains < N → fault 6 Nowhere ≡ matrix_tests N ds
      is-6-many h = simp (eq-eqb (length ds) (pair_count N) whole, le-ltb N min_strains low, lt-ltb max_strains N h)

      module _ (high : N ≤ max_strains) where
        pub is-7 : distance_out ds ≡ true → fault 7 Nowhere ≡ matrix_tests N ds
        is-7 h = simp (eq-eqb (length ds) (pair_count N) whole, le-ltb N min_strains low, le-ltb max_strains N high, h)

        pub is-0 : distance_out ds ≡ false → pass ≡ matrix_tests N ds
        is-0 h = simp (eq-eqb (length ds) (pair_count N) whole, le-ltb N min_strains low, le-ltb max_strains N high, h)
