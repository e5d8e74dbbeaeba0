-- The length of an edge where every inner vertex has degree three, from averages of distances between subtrees.
use Rattle.std.specs.Prelude.{Bool, cond, ℕ, ltb, ℤ, pos, ◌+ℤ◌, ◌*ℤ◌}
use Rattle.exact.specs.Fraction.{Fraction, ◌over◌, ◌⊕◌, ◌⊖◌, ◌⊗◌, half}
use Rattle.direct_theory.specs.Averages.{strains_below, neither, size, average}
use Rattle.direct_theory.specs.Children.{child_of, sibling}

-- an outer edge to strain i (the set I has it alone), with subtrees A, B at its other end:
-- half of avg(iA) + avg(iB) - avg(AB)
abbrev pub outer_length : ℕ → (ℕ × ℕ → ℤ) → (I A B : ℕ → Bool) → Fraction
outer_length N d I A B = half (average N d I A ⊕ average N d I B ⊖ average N d A B)

-- L = (ad + bc)/((a + b)(c + d)), for sets of sizes a, b, c, d
abbrev pub weight : (a b c d : ℤ) → Fraction
weight a b c d = (a *ℤ d +ℤ b *ℤ c) over ((a +ℤ b) *ℤ (c +ℤ d))

-- an inner edge with A, B at one end and C, D at the other:
-- half of L(avg(AC) + avg(BD)) + (1 - L)(avg(AD) + avg(BC)) - avg(AB) - avg(CD)
abbrev pub inner_with : ℕ → (ℕ × ℕ → ℤ) → Fraction → (A B C D : ℕ → Bool) → Fraction
inner_with N d L A B C D =
    half (
    L ⊗ (average N d A C ⊕ average N d B D)
    ⊕ (pos 1 over pos 1 ⊖ L) ⊗ (average N d A D ⊕ average N d B C)
    ⊖ average N d A B
    ⊖ average N d C D
    )

abbrev pub inner_length : ℕ → (ℕ × ℕ → ℤ) → (A B C D : ℕ → Bool) → Fraction
inner_length N d A B C D = inner_with N d (weight (size N A) (size N B) (size N C) (size N D)) A B C D

-- the length of edge c. Beyond it stand the sibling's strains and those below neither; below an inner c its two children's.
abbrev pub outer_at : ℕ → ℕ → (ℕ → ℕ) → (ℕ × ℕ → ℤ) → ℕ → Fraction
outer_at N K par d c = outer_length N d (strains_below par c) (strains_below par (sibling K par c)) (neither par c (sibling K par c))

abbrev pub inner_at : ℕ → ℕ → (ℕ → ℕ) → (ℕ × ℕ → ℤ) → ℕ → Fraction
inner_at N K par d c =
    inner_length N d (strains_below par (child_of K par c 0)) (strains_below par (child_of K par c 1)) (strains_below par (sibling K par c)) (neither par c (sibling K par c))

abbrev pub edge_length : ℕ → ℕ → (ℕ → ℕ) → (ℕ × ℕ → ℤ) → ℕ → Fraction
edge_length N K par d c = cond (ltb c N) (outer_at N K par d c) (inner_at N K par d c)
