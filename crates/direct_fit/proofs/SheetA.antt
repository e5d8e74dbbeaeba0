-- The fit of sheet A's matrix and tree, computed from the definitions: 3/2 3/2 3/2 7/2 7/2, m 1500 1500 1500 3500 3500,
-- R = 1000000, H = 44, as the bench has them; and a star of four strains gets 25, at its root.
use mathlib.Core.Path.{◌≡◌, refl}
use mathlib.Core.Bool.{Bool, true, ◌&&◌}
use mathlib.Core.List.{List, [], ◌∷◌}
use Prim.Native.Nat.{ℕ}
use lib.Dec.{eqb}
use lib.IntN.{ℤ, pos}
use Rattle.exact.specs.Sum.{sum, pairs, ind}
use Rattle.exact.specs.Table.{table, table_from}
use Rattle.exact.specs.LeastSquares.{path, hops}
use Rattle.exact.specs.Nearest.{nearest}
use Rattle.verdict.specs.Answer.{number, fault}
use Rattle.verdict.specs.declared.Place.TheVariants.{Vertex}
use Rattle.verdict.specs.Table.{some, first, count}
use Rattle.matrix.specs.Place.{place, known}
use Rattle.tree_theory.specs.Chain.{lift, below, parts}
use Rattle.fit_theory.specs.Figures.{distances_a, parents_a, star_of, same, same_list}
use Rattle.fit_theory.specs.Quantities.{h_of}
use Rattle.exact.specs.Fraction.{divisor_in}
use Rattle.direct_theory.specs.Children.{child_to}
use Rattle.direct_theory.specs.Averages.{size, between}
use Rattle.direct_theory.specs.Tests.{resolved_tests}
use Rattle.direct_theory.specs.Lengths.{top_of, bottom_of, thousandth_of, square_of}

abbrev fits : Bool
fits =
    same_list (table 5 (top_of 4 distances_a parents_a)) (pos 3 ∷ pos 3 ∷ pos 3 ∷ pos 7 ∷ pos 7 ∷ [])
    && same_list (table 5 (λ v. pos (bottom_of 4 distances_a parents_a v))) (pos 2 ∷ pos 2 ∷ pos 2 ∷ pos 2 ∷ pos 2 ∷ [])
    && same_list (table 5 (thousandth_of 4 distances_a parents_a)) (pos 1500 ∷ pos 1500 ∷ pos 1500 ∷ pos 3500 ∷ pos 3500 ∷ [])
    && same (square_of 4 distances_a parents_a) (pos 1000000)
    && same (h_of 4 distances_a parents_a) (pos 44)
    && eqb (number (resolved_tests 4 distances_a parents_a)) 0

pub sheet-a : fits ≡ true
unfolding sum pairs ind table_from path hops nearest some first count place known lift below parts divisor_in child_to size between
sheet-a = refl

pub star : resolved_tests 4 distances_a (star_of 4) ≡ fault 25 (Vertex 4)
unfolding sum pairs ind table_from path hops nearest some first count place known lift below parts divisor_in child_to size between
star = refl
