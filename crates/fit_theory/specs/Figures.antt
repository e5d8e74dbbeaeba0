-- The starred figures of RULES, Bench figures, as one table, and the test that the definitions give every figure in it.
use Rattle.std.specs.Prelude.{◌≡◌, Bool, true, false, cond, not, ◌&&◌, List, [], ◌∷◌, ℕ, ◌*◌, eqb, ℤ, pos, negsuc, ◌+ℤ◌, ◌-ℤ◌, ◌*ℤ◌, length, get_or}
use Rattle.std.specs.Int.Signed.{le_z}
use Rattle.verdict.specs.Answer.{number}
use Rattle.verdict.specs.declared.Rule.TheVariants.{Plain}
use Rattle.exact.specs.LeastSquares.{sum_x, hops}
use Rattle.exact.specs.Nearest.{nearest}
use Rattle.exact.specs.Sum.{pairs}
use Rattle.exact.specs.Table.{table, entry_of}
use Rattle.matrix.specs.Place.{distance}
use Rattle.fit_theory.specs.Quantities.{parts_of, parts_in, f_of, r_of, h_of, rounded_of, path_of, remainder_of, split_sum}
use Rattle.fit_theory.specs.Tests.{judge_tests}
use Rattle.fit_theory.specs.Stands.{scaled}

-- a proposal, and what the bench expects of it; of a refused one only the number
pub record Figure : Type 0 where
  pub strains : ℕ
  pub distances : List ℕ
  pub parents : List ℕ
  pub denominator : ℕ
  pub numerators : List ℤ
  pub number : ℕ
  pub values : List ℤ

-- F, R, H and the rounded lengths
abbrev pub values_of : Figure → List ℤ
values_of g =
    f_of g.strains g.distances g.parents g.denominator g.numerators
    ∷ r_of g.strains g.distances g.parents g.denominator g.numerators
    ∷ h_of g.strains g.distances g.parents
    ∷ table (length g.parents) (rounded_of g.denominator g.numerators)

abbrev pub same : ℤ → ℤ → Bool
same a b = le_z a b && le_z b a

abbrev pub same_list : List ℤ → List ℤ → Bool
same_list [] [] = true
same_list [] (y ∷ ys) = false
same_list (x ∷ xs) [] = false
same_list (x ∷ xs) (y ∷ ys) = same x y && same_list xs ys

-- the definitions give the number, and of what is accepted the values
abbrev pub holds : Figure → Bool
holds g =
    eqb (number (judge_tests Plain g.strains g.distances g.parents g.denominator g.numerators)) g.number
    && cond (eqb g.number 0) (same_list (values_of g) g.values) true

abbrev pub all_hold : List Figure → Bool
all_hold [] = true
all_hold (g ∷ gs) = holds g && all_hold gs

-- the pairs of four strains in order
abbrev pub pairs_of_four : List (ℕ × ℕ)
pairs_of_four = (0, 1) ∷ (0, 2) ∷ (0, 3) ∷ (1, 2) ∷ (1, 3) ∷ (2, 3) ∷ []

abbrev pub over : (ℕ × ℕ → ℤ) → List (ℕ × ℕ) → List ℤ
over f [] = []
over f (p ∷ ps) = f p ∷ over f ps

-- sheet A
abbrev pub distances_a : List ℕ
distances_a = 3 ∷ 7 ∷ 6 ∷ 8 ∷ 9 ∷ 5 ∷ []

abbrev pub parents_a : List ℕ
parents_a = 4 ∷ 4 ∷ 5 ∷ 5 ∷ 5 ∷ []

abbrev pub numerators_a : List ℤ
numerators_a = pos 3 ∷ pos 3 ∷ pos 3 ∷ pos 7 ∷ pos 7 ∷ []

-- the same lengths over 4
abbrev pub double_a : List ℤ
double_a = pos 6 ∷ pos 6 ∷ pos 6 ∷ pos 14 ∷ pos 14 ∷ []

-- a star: every strain hangs under the root
abbrev pub star_of : ℕ → List ℕ
star_of N = table N (λ _. N)

abbrev pub figures : List Figure
figures =
    -- A: accepted, F = 2, m 1500 1500 1500 3500 3500, R = 1000000, H = 44
    record {
      strains = 4;
      distances = distances_a;
      parents = parents_a;
      denominator = 2;
      numerators = numerators_a;
      number = 0;
      values = pos 2 ∷ pos 1000000 ∷ pos 44 ∷ pos 1500 ∷ pos 1500 ∷ pos 1500 ∷ pos 3500 ∷ pos 3500 ∷ [];
    }
    -- A with the last numerator 6: 14
    ∷ record {
      strains = 4;
      distances = distances_a;
      parents = parents_a;
      denominator = 2;
      numerators = pos 3 ∷ pos 3 ∷ pos 3 ∷ pos 7 ∷ pos 6 ∷ [];
      number = 14;
      values = [];
    }
    -- A with D = 4, numerators 6 6 6 14 14: accepted, F = 4, same m, R, H
    ∷ record {
      strains = 4;
      distances = distances_a;
      parents = parents_a;
      denominator = 4;
      numerators = double_a;
      number = 0;
      values = pos 4 ∷ pos 1000000 ∷ pos 44 ∷ pos 1500 ∷ pos 1500 ∷ pos 1500 ∷ pos 3500 ∷ pos 3500 ∷ [];
    }
    -- N = 3 star, distances 1 1 4, D = 1, lengths -1 2 2: accepted, F = 0; whole lengths, so R = 0, and three paths of two edges
    ∷ record {
      strains = 3;
      distances = 1 ∷ 1 ∷ 4 ∷ [];
      parents = star_of 3;
      denominator = 1;
      numerators = negsuc 0 ∷ pos 2 ∷ pos 2 ∷ [];
      number = 0;
      values = pos 0 ∷ pos 0 ∷ pos 12 ∷ negsuc 999 ∷ pos 2000 ∷ pos 2000 ∷ [];
    }
    -- N = 4 star, distances 1 0 0 0 0 0, D = 6, numerators 2 2 -1 -1: accepted, F = 2, m 333 333 -167 -167, R = 333336, H = 24
    ∷ record {
      strains = 4;
      distances = 1 ∷ 0 ∷ 0 ∷ 0 ∷ 0 ∷ 0 ∷ [];
      parents = star_of 4;
      denominator = 6;
      numerators = pos 2 ∷ pos 2 ∷ negsuc 0 ∷ negsuc 0 ∷ [];
      number = 0;
      values = pos 2 ∷ pos 333336 ∷ pos 24 ∷ pos 333 ∷ pos 333 ∷ negsuc 166 ∷ negsuc 166 ∷ [];
    }
    -- N = 3 star, all zero, D = 1: accepted, F = 0, R = 0, H = 12
    ∷ record {
      strains = 3;
      distances = 0 ∷ 0 ∷ 0 ∷ [];
      parents = star_of 3;
      denominator = 1;
      numerators = pos 0 ∷ pos 0 ∷ pos 0 ∷ [];
      number = 0;
      values = pos 0 ∷ pos 0 ∷ pos 12 ∷ pos 0 ∷ pos 0 ∷ pos 0 ∷ [];
    }
    -- N = 4, parents 5 5 5 4 5: vertex 4 has one child, 10
    ∷ record {
      strains = 4;
      distances = distances_a;
      parents = 5 ∷ 5 ∷ 5 ∷ 4 ∷ 5 ∷ [];
      denominator = 2;
      numerators = numerators_a;
      number = 10;
      values = [];
    }
    -- N = 4, parents 4 4 5 5 4: 9
    ∷ record {
      strains = 4;
      distances = distances_a;
      parents = 4 ∷ 4 ∷ 5 ∷ 5 ∷ 4 ∷ [];
      denominator = 2;
      numerators = numerators_a;
      number = 9;
      values = [];
    }
    ∷ []

-- A's paths 6 13 17 13 17 10, remainders 0 1 -1 -1 1 0 and split sums 18 18 18 22 30
abbrev pub sheet_a : Bool
sheet_a =
    same_list (over (path_of parents_a numerators_a) pairs_of_four) (pos 6 ∷ pos 13 ∷ pos 17 ∷ pos 13 ∷ pos 17 ∷ pos 10 ∷ [])
    && same_list (over (remainder_of distances_a parents_a 2 numerators_a) pairs_of_four) (pos 0 ∷ pos 1 ∷ negsuc 0 ∷ negsuc 0 ∷ pos 1 ∷ pos 0 ∷ [])
    && same_list (table 5 (split_sum 4 distances_a parents_a)) (pos 18 ∷ pos 18 ∷ pos 18 ∷ pos 22 ∷ pos 30 ∷ [])

-- a length n/D and its thousandths
pub record Rounded : Type 0 where
  pub denominator : ℕ
  pub numerator : ℤ
  pub thousandths : ℤ

abbrev pub all_round : List Rounded → Bool
all_round [] = true
all_round (g ∷ gs) = same (nearest g.denominator g.numerator) g.thousandths && all_round gs

-- 15/16 rounds to 938, -15/16 to -938, 13/16 to 812, -13/16 to -812, 163/24 to 6792
abbrev pub roundings : List Rounded
roundings =
    record { denominator = 16; numerator = pos 15; thousandths = pos 938 }
    ∷ record { denominator = 16; numerator = negsuc 14; thousandths = negsuc 937 }
    ∷ record { denominator = 16; numerator = pos 13; thousandths = pos 812 }
    ∷ record { denominator = 16; numerator = negsuc 12; thousandths = negsuc 811 }
    ∷ record { denominator = 24; numerator = pos 163; thousandths = pos 6792 }
    ∷ []

-- ---- RULES, Least squares and One fit only, at fits where their inequalities leave no room, so that another bound
-- would be false there
-- X of the table xs over Q
abbrev pub x_of : ℕ → List ℕ → List ℕ → ℕ → List ℤ → ℤ
x_of N ds ps Q xs = sum_x (pairs N) (length ps) (parts_in ds ps) (distance ds) (pos Q) (entry_of xs)

-- A's own lengths: Q²·D·F is D²·X
abbrev pub least_there : Bool
least_there = le_z (pos (2 * 2 * 2) *ℤ f_of 4 distances_a parents_a 2 numerators_a) (pos (2 * 2) *ℤ x_of 4 distances_a parents_a 2 numerators_a)

-- and other lengths have more
abbrev pub strict_there : Bool
strict_there = not (le_z (pos (2 * 2) *ℤ x_of 4 distances_a parents_a 2 (pos 3 ∷ pos 3 ∷ pos 3 ∷ pos 7 ∷ pos 6 ∷ [])) (pos (2 * 2 * 2) *ℤ f_of 4 distances_a parents_a 2 numerators_a))

-- a thousand times A, whose lengths are whole thousandths: 4·Q²·R is 4,000,000·X, and nothing less than 4,000,000 would do
abbrev pub thousandfold : List ℕ
thousandfold = table 6 (λ k. 1000 * get_or distances_a k 0)

abbrev pub thousand_a : List ℤ
thousand_a = table 5 (λ v. pos 1000 *ℤ entry_of numerators_a v)

abbrev pub millions_there : Bool
millions_there = le_z (pos (4 * (2 * 2)) *ℤ r_of 4 thousandfold parents_a 2 thousand_a) (pos 4000000 *ℤ x_of 4 thousandfold parents_a 2 thousand_a +ℤ pos (2 * 2) *ℤ h_of 4 thousandfold parents_a)

-- the star of four strains, whose lengths are not whole thousandths: without Q²·H the rounding would not be close
abbrev pub star_numerators : List ℤ
star_numerators = pos 2 ∷ pos 2 ∷ negsuc 0 ∷ negsuc 0 ∷ []

abbrev pub star_distances : List ℕ
star_distances = 1 ∷ 0 ∷ 0 ∷ 0 ∷ 0 ∷ 0 ∷ []

abbrev pub rounding_there : Bool
rounding_there = le_z (pos (4 * (6 * 6)) *ℤ r_of 4 star_distances (star_of 4) 6 star_numerators)
    (pos 4000000 *ℤ x_of 4 star_distances (star_of 4) 6 star_numerators +ℤ pos (6 * 6) *ℤ h_of 4 star_distances (star_of 4))

-- 2000·p less 2·D·path(m), which is at most h·D
abbrev pub stray_of : List ℕ → ℕ → List ℤ → ℕ × ℕ → ℤ
stray_of ps D ns p = pos 2000 *ℤ path_of ps ns p -ℤ pos 2 *ℤ (pos D *ℤ path_of ps (table (length ps) (rounded_of D ns)) p)

abbrev pub leeway_of : List ℕ → ℕ → ℕ × ℕ → ℤ
leeway_of ps D p = hops (length ps) (parts_of ps) p *ℤ pos D

-- the path 02 there: 8, within 12
abbrev pub paths_there : Bool
paths_there = le_z (stray_of (star_of 4) 6 star_numerators (0, 2)) (leeway_of (star_of 4) 6 (0, 2))

-- one fit only: two tables of K edges are the same lengths, D'·n = D·n' at every edge
abbrev pub agree_at : ℕ → ℕ → List ℤ → ℕ → List ℤ → Bool
agree_at K D ns D' ns' = same_list (table K (scaled D' ns)) (table K (scaled D ns'))

-- A over 2 and over 4 are one fit
abbrev pub agree_there : Bool
agree_there = agree_at 5 2 numerators_a 4 double_a

-- one fit only: the table 1 0 0 of three strains has a path that is not zero, and it is one of the first strain's
abbrev pub kernel_there : Bool
kernel_there = same (path_of (star_of 3) (pos 1 ∷ pos 0 ∷ pos 0 ∷ []) (0, 1)) (pos 1)

-- every starred figure
abbrev pub bench_holds : Bool
bench_holds = all_hold figures && sheet_a && all_round roundings

-- every bound where it is tight, at tables that are accepted
pub record Tight : Type 0 where
  pub accepted : number (judge_tests Plain 4 thousandfold parents_a 2 thousand_a) ≡ 0
  pub least : least_there ≡ true
  pub strict : strict_there ≡ true
  pub millions : millions_there ≡ true
  pub rounding : rounding_there ≡ true
  pub paths : paths_there ≡ true
  pub agree : agree_there ≡ true
  pub kernel : kernel_there ≡ true
