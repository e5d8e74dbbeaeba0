-- The line of a pair (RULES, The pairs of a fit): `pair`, what the two strains are called, and four numbers.
use Rattle.std.specs.Prelude.{Bool, cond, List, [], ◌∷◌, ◌++◌, ℕ, ◌+◌, ◌*◌, ◌≤◌, ℤ, length, get_or, take, drop}
use Rattle.tree_theory.specs.Limits.{max_edges}
use Rattle.paths.specs.Standing.{max_thousandths}
use Rattle.lines.specs.Lines.{end, fields}
use Rattle.records.specs.Names.{max_name}

-- "pair", and a dash behind a space
abbrev pub pair_word : List ℕ
pair_word = 112 ∷ 97 ∷ 105 ∷ 114 ∷ []

abbrev pub dash : List ℕ
dash = 32 ∷ 45 ∷ []

-- "pair" and what the two strains are called
unfoldable pub pair_head : List ℕ → List ℕ → List ℕ
pair_head a b = pair_word ++ (32 ∷ (a ++ (32 ∷ b)))

-- behind it the distance, the path, the path over the rounded lengths, the remainder; dashes where the pair was not measured
unfoldable pub pair_line : (a b : List ℕ) → Bool → (d p q r : ℤ) → List ℕ
pair_line a b known d p q r =
    pair_head a b
    ++ cond known
    (fields (d ∷ p ∷ q ∷ r ∷ []) ++ end)
    (dash ++ (fields (p ∷ q ∷ []) ++ (dash ++ end)))

-- the most bytes of a line: "pair", two names of at most 10 bytes and four numbers of at most 21, each behind a space, and LF
abbrev pub widest_pair : ℕ
widest_pair = 115

-- the name that begins with its length byte at a place: it lies within the bytes, and has at most 10
abbrev pub name_at : List ℕ → ℕ → List ℕ
name_at names start = take (get_or names start 0) (drop (start + 1) names)

pub record NameThere (names : List ℕ) (start : ℕ) : Type 0 where
  pub within : start + 1 + get_or names start 0 ≤ length names
  pub short : get_or names start 0 ≤ max_name

-- how far a path over thousandths goes at most: every edge, each as long as can be
abbrev pub farthest : ℕ
farthest = max_edges * max_thousandths
