-- The sums of the edges, as tables with zeros behind the last edge.
use Rattle.std.specs.Prelude.{List, ℕ, ℤ, pos, ◌*ℤ◌}
use Rattle.exact.specs.Sum.{pairs, ind}
use Rattle.exact.specs.LeastSquares.{edge_sum}
use Rattle.exact.specs.Table.{entry_of}
use Rattle.matrix.specs.Place.{distance}
use Rattle.tree_theory.specs.EdgeTable.{EdgeTable}
use Rattle.tree_theory.specs.Chain.{parent_of, parts_pair}
use Rattle.fit_theory.specs.Quantities.{parts_in}
use Rattle.pairs.specs.Ready.{remainder_at}
use Rattle.meeting.specs.Shares.{under}

-- what the pair p adds to the sum of edge v
abbrev pub share : ℕ → ℕ → List ℕ → List ℕ → List ℤ → ℕ → ℕ × ℕ → ℤ
share K D ds ps ns v p = ind (parts_pair (parent_of ps) v p) *ℤ remainder_at K D ds ps ns p

-- each edge has the shares below it
abbrev pub HandedUp : ℕ → List ℕ → List ℤ → List ℤ → Type 0
HandedUp K ps own r = EdgeTable K (under (parent_of ps) own) r

-- each edge has the remainders of the measured pairs that it parts
abbrev pub EdgeSums : (N K D : ℕ) → (ds ps : List ℕ) → (ns r : List ℤ) → Type 0
EdgeSums N K D ds ps ns r = EdgeTable K (edge_sum (pairs N) K (parts_in ds ps) (distance ds) (pos D) (entry_of ns)) r
