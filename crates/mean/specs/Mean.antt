-- The mean square's divisor (RULES, The numbers of a fit): D times the pairs less the edges; where nothing is left of the pairs
-- there is none, and none where a pair is missing.
use Rattle.std.specs.Prelude.{cond, List, ℕ, zero, suc, ◌-◌, ◌*◌, ℤ, pos, Option, Some, None}
use Rattle.matrix.specs.Place.{pair_count, some_missing}

-- the second number of the mean square, where it has one; the first is F
abbrev pub Mean : Type 0
Mean = Option ℤ

-- D times what is left
abbrev pub times : ℕ → ℕ → Mean
times D zero = None
times D (suc k) = Some (pos (D * suc k))

-- of N strains with the distances ds and K edges, over the denominator D; none where a pair is missing
abbrev pub mean_of : ℕ → List ℕ → ℕ → ℕ → Mean
mean_of N ds K D = cond (some_missing ds) None (times D (pair_count N - K))
