-- Sets of strains, how many strains they have, and the average of the distances between two of them.
use Rattle.std.specs.Prelude.{Bool, cond, not, ◌&&◌, ℕ, ltb, ℤ, ◌*ℤ◌}
use Rattle.exact.specs.Sum.{sum, ind}
use Rattle.tree_theory.specs.Chain.{below}
use Rattle.exact.specs.Fraction.{Fraction, ◌over◌}

-- the strains below v
abbrev pub strains_below : (ℕ → ℕ) → ℕ → ℕ → Bool
strains_below par v i = below par i v

-- the strains below neither of two vertices
abbrev pub neither : (ℕ → ℕ) → ℕ → ℕ → ℕ → Bool
neither par u v i = not (below par i u) && not (below par i v)

-- how many of the N strains a set has
unfoldable pub size : ℕ → (ℕ → Bool) → ℤ
size N A = sum N (λ i. ind (A i))

-- the distance of two strains in either order, from a table over the pairs whose first is below its second
abbrev pub either : (ℕ × ℕ → ℤ) → ℕ → ℕ → ℤ
either d i j = cond (ltb i j) (d (i, j)) (d (j, i))

-- the distances between two sets, added up
unfoldable pub between : ℕ → (ℕ × ℕ → ℤ) → (ℕ → Bool) → (ℕ → Bool) → ℤ
between N d A B = sum N (λ i. sum N (λ j. ind (A i) *ℤ ind (B j) *ℤ either d i j))

-- avg(AB): their average
abbrev pub average : ℕ → (ℕ × ℕ → ℤ) → (ℕ → Bool) → (ℕ → Bool) → Fraction
average N d A B = between N d A B over (size N A *ℤ size N B)
