-- The lengths of a resolved tree, in lowest terms and in thousandths, and what holds of them (RULES, Resolved trees).
use Rattle.std.specs.Prelude.{◌≡◌, List, ℕ, ◌≤◌, ◌<◌, ℤ, pos, ◌*ℤ◌, length}
use Rattle.exact.specs.Order.{◌<ᶻ◌}
use Rattle.exact.specs.Sum.{pairs}
use Rattle.exact.specs.Nearest.{nearest}
use Rattle.exact.specs.LeastSquares.{Equations, Minimum, Rounding, Any, sum_r}
use Rattle.exact.specs.Fraction.{Fraction, lowest_top, lowest_bottom, Lowest}
use Rattle.matrix.specs.Place.{distance}
use Rattle.tree_theory.specs.Chain.{parent_of}
use Rattle.fit_theory.specs.Quantities.{parts_in}
use Rattle.direct_theory.specs.Formula.{edge_length}

-- the length of edge v of a matrix ds of N strains and a tree ps
abbrev pub length_of : ℕ → List ℕ → List ℕ → ℕ → Fraction
length_of N ds ps v = edge_length N (length ps) (parent_of ps) (distance ds) v

-- its numerator and its denominator in lowest terms
abbrev pub top_of : ℕ → List ℕ → List ℕ → ℕ → ℤ
top_of N ds ps v = lowest_top (length_of N ds ps v)

abbrev pub bottom_of : ℕ → List ℕ → List ℕ → ℕ → ℕ
bottom_of N ds ps v = lowest_bottom (length_of N ds ps v)

-- m: the length in thousandths, rounded as in RULES, The numbers of a fit
abbrev pub thousandth_of : ℕ → List ℕ → List ℕ → ℕ → ℤ
thousandth_of N ds ps v = nearest (bottom_of N ds ps v) (top_of N ds ps v)

-- R
abbrev pub square_of : ℕ → List ℕ → List ℕ → ℤ
square_of N ds ps = sum_r (pairs N) (length ps) (parts_in ds ps) (distance ds) (thousandth_of N ds ps)

-- n over D are the fractions num over den of K edges, over one denominator
pub record Over (K : ℕ) (num : ℕ → ℤ) (den : ℕ → ℕ) (D : ℤ) (n : ℕ → ℤ) : Type 0 where
  pub positive : pos 0 <ᶻ D
  pub same : (v : ℕ) → v < K → n v *ℤ pos (den v) ≡ D *ℤ num v

-- RULES, The verdict and Least squares, of lengths over one denominator: every edge's sum of remainders is zero, the
-- fit is a minimum, and the rounding to thousandths is close to it
pub record Fits (N : ℕ) (ds ps : List ℕ) (D : ℤ) (n : ℕ → ℤ) : Type 0 where
  pub equations : Equations (pairs N) (length ps) (parts_in ds ps) (distance ds) D n
  pub minimum : Minimum (pairs N) (length ps) (parts_in ds ps) (distance ds) D n Any
  pub rounding : Rounding (pairs N) (length ps) (parts_in ds ps) (distance ds) D n (thousandth_of N ds ps) Any

-- no denominator is larger
abbrev pub max_bottom : ℕ
max_bottom = 134217728

-- what holds of a resolved tree's lengths: they are in lowest terms, over at most 134,217,728, and they fit
-- over any common denominator
pub record Direct (N : ℕ) (ds ps : List ℕ) : Type 0 where
  pub lowest : (v : ℕ) → v < length ps → Lowest (length_of N ds ps v) (top_of N ds ps v) (bottom_of N ds ps v)
  pub most : (v : ℕ) → v < length ps → bottom_of N ds ps v ≤ max_bottom
  pub fits : (D : ℤ) (n : ℕ → ℤ) → Over (length ps) (top_of N ds ps) (bottom_of N ds ps) D n → Fits N ds ps D n
