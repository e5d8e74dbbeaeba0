-- The answer of each outcome of the tests.
use mathlib.Core.Path.{◌≡◌, sym}
use mathlib.Core.List.{List}
use mathlib.Core.Logic.{◌≢◌}
use Prim.Native.Nat.{ℕ, ◌<◌, ◌≤◌}
use borrow.Author.Tests.{lt-ltb, le-ltb, eq-eqb, ne_eqb}
use lib.IntN.{ℤ}
use lib.ListN.{length}
use Rattle.verdict.specs.Answer.{fault, pass}
use Rattle.verdict.specs.declared.Place.TheVariants.{Nowhere, Edge}
use Rattle.verdict.specs.Table.{first}
use Rattle.verdict.specs.declared.Rule.{Rule}
use Rattle.verdict.specs.declared.Rule.TheVariants.{Drawable}
use Rattle.tree_theory.specs.Limits.{max_edges}
use Rattle.lengths.specs.Limits.{max_denominator}
use Rattle.lengths.specs.Tests.{lengths_tests, numerator_out, is_negative, sign_tests}

module _ (edges D : ℕ) (ns : List ℤ) where
  pub is-11 : length ns ≢ edges → fault 11 Nowhere ≡ lengths_tests edges D ns
  is-11 h = simp (ne_eqb (length ns) edges h)

  module _ (whole : length ns ≡ edges) where
    pub is-11-many : max_edges < edges → fault 11 Nowhere ≡ lengths_tests edges D ns
    is-11-many h = simp (eq-eqb (length ns) edges whole, lt-ltb max_edges edges h)

    module _ (few : edges ≤ max_edges) where
      pub is-12-low : D < 1 → fault 12 Nowhere ≡ lengths_tests edges D ns
      is-12-low h = simp (eq-eqb (length ns) edges whole, le-ltb max_edges edges few, lt-ltb D 1 h)

      module _ (one : 1 ≤ D) where
        pub is-12-high : max_denominator < D → fault 12 Nowhere ≡ lengths_tests edges D ns
        is-12-high h = simp (eq-eqb (length ns) edges whole, le-ltb max_edges edges few, le-ltb D 1 one, lt-ltb max_denominator D h)

        module _ (most : D ≤ max_denominator) where
          module _ (v : ℕ) (e : v ≡ first (length ns) (numerator_out ns)) where
            pub is-13 : v < length ns → fault 13 (Edge v) ≡ lengths_tests edges D ns
            is-13 h = simp (eq-eqb (length ns) edges whole, le-ltb max_edges edges few, le-ltb D 1 one, le-ltb max_denominator D most, sym e, lt-ltb v (length ns) h)

            pub is-0 : length ns ≤ v → pass ≡ lengths_tests edges D ns
            is-0 h = simp (eq-eqb (length ns) edges whole, le-ltb max_edges edges few, le-ltb D 1 one, le-ltb max_denominator D most, sym e, le-ltb v (length ns) h)

module _ (rule : Rule) (drawn : rule ≡ Drawable) (ns : List ℤ) (v : ℕ) (e : v ≡ first (length ns) (is_negative ns)) where
  pub is-22 : v < length ns → fault 22 (Edge v) ≡ sign_tests rule ns
  is-22 h = simp (drawn, sym e, lt-ltb v (length ns) h)

  pub none_negative : length ns ≤ v → pass ≡ sign_tests rule ns
  none_negative h = simp (drawn, sym e, le-ltb v (length ns) h)
