-- How far a split sum may be from 0: at most 2,016 pairs, of at most 50,000 each.
use Rattle.std.proofs.Common.{ℕ, ◌≤◌, List, ◌*ℤ◌, nat_abs, arith}
use Rattle.exact.specs.Sum.{ind}
use Rattle.exact.proofs.Sweep.{ind_abs, pairs_abs}
use Rattle.matrix.specs.Limits.{max_distance}
use Rattle.matrix.specs.Place.{place}
use Rattle.tree_theory.specs.Chain.{parent_of, parts_pair}
use Rattle.splits.specs.Sums.{entry_at, split_of, Splittable}

pub split-low : {N K : ℕ} {ds ps : List ℕ} → Splittable N K ds ps → (v : ℕ) → nat_abs (split_of N ds (parent_of ps) v) ≤ 100800000
split-low {N} {K} {ds} {ps} w v = pairs_abs N max_distance (λ p. ind (parts_pair (parent_of ps) v p) *ℤ entry_at ds p) w.allowed.few
    (λ p. omega (arith, ind_abs (parts_pair (parent_of ps) v p) (entry_at ds p), w.near (place p.0 p.1)))
