-- What the report of a fit in digits hands back.
use Rattle.std.specs.Prelude.{◌≡◌, List, ℕ, ℤ, pos, nat_abs, Option, Some, None, IsSomeAnd, length}
use Rattle.exact.specs.Order.{◌≤ᶻ◌}
use Rattle.verdict.specs.declared.Rule.{Rule}
use Rattle.mean.specs.Mean.{Mean, mean_of}
use Rattle.tree_theory.specs.EdgeTable.{EdgeTable}
use Rattle.fit_theory.specs.Quantities.{rounded_of, tree_length, f_of, r_of, h_of}
use Rattle.fit_theory.specs.Stands.{Least}
use Rattle.long_theory.specs.Long.{long_denominator, long_numerators, LongStands}
use Rattle.long_numbers.specs.Wides.{Natural, Wides}
use Rattle.long_reporting.specs.declared.LongReport.{LongReport}

-- what the mean square is over, in digits, or none
abbrev pub Means : ℕ → Mean → Option (List ℕ) → Type 0
Means L None over = over ≡ None
Means L (Some z) over = (pos 0 ≤ᶻ z) × IsSomeAnd over (λ digits. Natural L (nat_abs z) digits)

-- the numbers of an accepted fit, that it stands, and what RULES, Least squares says of it
pub record LongReported (rule : Rule) (N : ℕ) (ds ps Ds : List ℕ) (ns : List ℤ) (x : LongReport) : Type 0 where
  pub strains : x.strains ≡ N
  pub edges : x.edges ≡ length ps
  pub rounded : EdgeTable (length ps) (rounded_of (long_denominator (length Ds) Ds) (long_numerators (length Ds) (length ps) ns)) x.rounded
  pub total : Wides (length Ds) (tree_length (long_numerators (length Ds) (length ps) ns)) x.length.negative x.length.digits
  pub f : Natural (length Ds) (nat_abs (f_of N ds ps (long_denominator (length Ds) Ds) (long_numerators (length Ds) (length ps) ns))) x.f
  pub r : x.r ≡ r_of N ds ps (long_denominator (length Ds) Ds) (long_numerators (length Ds) (length ps) ns)
  pub h : x.h ≡ h_of N ds ps
  pub mean : Means (length Ds) (mean_of N ds (length ps) (long_denominator (length Ds) Ds)) x.mean
  pub stands : LongStands rule N ds ps Ds ns
  pub least : Least rule N ds ps (long_denominator (length Ds) Ds) (long_numerators (length Ds) (length ps) ns)
