-- The numbers of strains as names (RULES, The pairs of a fit): a length byte and the decimal of each, one behind the other.
use Rattle.std.specs.Prelude.{List, ◌∷◌, ℕ, length}
use Rattle.matrix.specs.Limits.{max_strains}
use Rattle.writing.specs.Text.{decimal}
use Rattle.pieces.specs.Pieces.{pieces}

-- a name with its length byte before it
abbrev pub with_length : List ℕ → List ℕ
with_length l = length l ∷ l

-- the numbers 0 to 63, each a name
unfoldable pub number_names : List ℕ
number_names = pieces max_strains (λ i. with_length (decimal i))
