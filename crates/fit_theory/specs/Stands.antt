-- RULES, The verdict, Lengths that may not be negative, Least squares and One fit only, in its words.
use Rattle.std.specs.Prelude.{◌≡◌, true, List, ℕ, ◌≤◌, ◌<◌, ℤ, pos, ◌*ℤ◌, length}
use Rattle.exact.specs.Sum.{pairs}
use Rattle.exact.specs.Order.{◌≤ᶻ◌, ◌<ᶻ◌}
use Rattle.exact.specs.LeastSquares.{Equations, Conditions, sum_x, Minimum, Rounding, ClosePaths, Any, NotNegative}
use Rattle.matrix.specs.Place.{distance}
use Rattle.matrix.specs.Proper as matrix
use Rattle.tree_theory.specs.Chain.{parent_of}
use Rattle.tree_theory.specs.Allowed.{Allowed}
use Rattle.lengths.specs.Proper as lengths
use Rattle.exact.specs.Table.{entry_of}
use Rattle.verdict.specs.declared.Rule.{Rule}
use Rattle.verdict.specs.declared.Rule.TheVariants.{Plain, Drawable}
use Rattle.fit_theory.specs.Quantities.{parts_of, parts_in, rounded_of, f_of}

-- A matrix and a tree that pass, each by itself.
pub record Shaped (N : ℕ) (ds ps : List ℕ) : Type 0 where
  pub matrix : matrix.Proper N ds
  pub tree : Allowed N (length ps) (parent_of ps)

-- Edge v parts a measured pair.
pub record Seen (N : ℕ) (ds ps : List ℕ) (v : ℕ) : Type 0 where
  pub i : ℕ
  pub j : ℕ
  pub rising : i < j
  pub strain : j < N
  pub parted : parts_in ds ps v (i, j) ≡ true

-- A matrix and a tree that pass together: the tree is allowed beside this matrix, each of its edges parting a measured pair.
pub record Posted (N : ℕ) (ds ps : List ℕ) : Type 0 where
  pub matrix : matrix.Proper N ds
  pub tree : Allowed N (length ps) (parent_of ps)
  pub seen : (v : ℕ) → v < length ps → Seen N ds ps v

-- What makes a table the fit: for every edge observed minus tree distance adds to zero over the measured pairs that the edge parts;
-- where no length may be negative, none is, a positive edge has the sum zero and a zero edge zero or less.
abbrev pub FitBy : Rule → ℕ → List ℕ → List ℕ → ℕ → List ℤ → Type 0
FitBy Plain N ds ps D ns = Equations (pairs N) (length ps) (parts_in ds ps) (distance ds) (pos D) (entry_of ns)
FitBy Drawable N ds ps D ns = Conditions (pairs N) (length ps) (parts_in ds ps) (distance ds) (pos D) (entry_of ns)

-- The tables of K lengths that a fit is compared with.
abbrev pub Against : Rule → ℕ → ℤ → (ℕ → ℤ) → Type 0
Against Plain K = Any
Against Drawable K = NotNegative K

-- A fit over a denominator of any size: the matrix and the tree pass together, each edge has a numerator, and the table is the fit.
pub record Fitted (rule : Rule) (N : ℕ) (ds ps : List ℕ) (D : ℕ) (ns : List ℤ) : Type 0 where
  pub posted : Posted N ds ps
  pub whole : length ns ≡ length ps
  pub one : 1 ≤ D
  pub fit : FitBy rule N ds ps D ns

-- The verdict: counts and ranges pass, the tree is allowed, each of its edges parting a measured pair, and the table is the fit.
pub record Stands (rule : Rule) (N : ℕ) (ds ps : List ℕ) (D : ℕ) (ns : List ℤ) : Type 0 where
  pub lengths : lengths.Proper (length ps) D ns
  pub fitted : Fitted rule N ds ps D ns

-- Least squares: the fit is a minimum, and its rounding to thousandths is within H/4,000,000 of it, over the measured pairs; the
-- rounding's paths are within h/2000 of the fit's, for every pair. The sum of squares F/D is between 0 and that of lengths of 0, which is at most
-- 2,016 · 50,000².
pub record Least (rule : Rule) (N : ℕ) (ds ps : List ℕ) (D : ℕ) (ns : List ℤ) : Type 0 where
  pub minimum : Minimum (pairs N) (length ps) (parts_in ds ps) (distance ds) (pos D) (entry_of ns) (Against rule (length ps))
  pub rounding : Rounding (pairs N) (length ps) (parts_in ds ps) (distance ds) (pos D) (entry_of ns) (rounded_of D ns) (Against rule (length ps))
  pub paths : ClosePaths (length ps) (parts_of ps) (pos D) (entry_of ns) (rounded_of D ns)
  pub f-low : pos 0 ≤ᶻ f_of N ds ps D ns
  pub f-high : f_of N ds ps D ns ≤ᶻ pos D *ℤ pos 5040000000000

-- D'·n: a numerator as it is compared with one over D'.
abbrev pub scaled : ℕ → List ℤ → ℕ → ℤ
scaled D' ns v = pos D' *ℤ entry_of ns v

-- One fit only, where every pair is measured. F is the fit's, X the sum of squares of the table x over Q.
pub record OneFit (rule : Rule) (N : ℕ) (ds ps : List ℕ) (D : ℕ) (ns : List ℤ) : Type 0 where
  -- on one matrix and one tree, two fits (D, n) and (D', n') have D'·n = D·n' at every edge
  pub agree : (D' : ℕ) (ns' : List ℤ) → Fitted rule N ds ps D' ns' → (v : ℕ) → v < length ps → scaled D' ns v ≡ scaled D ns' v
  -- every table x over Q that is compared with and differs from the fit as fractions at some edge has a strictly larger sum of squares: Q²·D·F is less than D²·X
  pub strict : (Q : ℤ) (x : ℕ → ℤ) → Against rule (length ps) Q x → (v : ℕ) → v < length ps → (Q *ℤ entry_of ns v ≡ pos D *ℤ x v → ⊥)
      → Q *ℤ Q *ℤ pos D *ℤ f_of N ds ps D ns <ᶻ pos D *ℤ pos D *ℤ sum_x (pairs N) (length ps) (parts_in ds ps) (distance ds) Q x
