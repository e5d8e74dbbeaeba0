-- With whom a strain is measured, among the strains before it, and whether a cluster parts it from one of them.
use Rattle.std.specs.Prelude.{Bool, cond, not, List, ℕ, eqb}
use Rattle.std.specs.Int.Bits.{bit_and}
use Rattle.matrix.specs.Place.{measured}
use Rattle.tree_theory.specs.Cluster.{mask, bit_at}

abbrev pub column_of : List ℕ → ℕ → ℕ
column_of ds j = mask j (λ i. measured ds (i, j))

-- a cluster that has j and not all of the mask, or not j and some of the mask
abbrev pub parts_column : ℕ → ℕ → ℕ → Bool
parts_column c j m = cond (bit_at c j) (not (eqb (bit_and m c) m)) (not (eqb (bit_and m c) 0))
