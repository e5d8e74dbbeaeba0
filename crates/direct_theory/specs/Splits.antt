-- The lengths of RULES, Resolved trees by split sums. At a vertex of degree three the distances between two of its
-- directions are half of their split sums together less the third's, and the weight L makes the lengths depend on such
-- sums alone: those between A and B, between either of them and all that is beyond the edge, and the same at the other
-- end.
use Rattle.std.specs.Prelude.{◌≡◌, cond, List, ℕ, ◌≤◌, ◌<◌, ltb, ℤ, pos, nat_abs, ◌+ℤ◌, ◌-ℤ◌, ◌*ℤ◌}
use Rattle.exact.specs.Order.{◌≤ᶻ◌}
use Rattle.exact.specs.Sum.{pairs, ind}
use Rattle.exact.specs.Table.{entry_of}
use Rattle.exact.specs.Fraction.{Fraction, ◌over◌}
use Rattle.tree_theory.specs.Chain.{parts_pair}
use Rattle.direct_theory.specs.Averages.{strains_below, neither, size}
use Rattle.direct_theory.specs.Children.{child_of, sibling, farther}

-- the split sum of edge v: the distances of the pairs that it parts
abbrev pub split_at : ℕ → (ℕ → ℕ) → (ℕ × ℕ → ℤ) → ℕ → ℤ
split_at N par d v = pairs N (λ p. ind (parts_pair par v p) *ℤ d p)

-- twice the distances between two directions at a vertex, by the split sums of the two and of the third
abbrev pub twice : (x y z : ℤ) → ℤ
twice x y z = x +ℤ y -ℤ z

-- one end of an inner edge: b²·S(A, beyond) + a²·S(B, beyond) - g·S(A, B), each sum taken twice; u, v, w are the split sums of
-- A, of B and of the edge, and g is (a + b)(c + d)
abbrev pub end_of : (a b g u v w : ℤ) → ℤ
end_of a b g u v w = b *ℤ b *ℤ twice u w v +ℤ a *ℤ a *ℤ twice v w u -ℤ g *ℤ twice u v w

-- an inner edge, over 4abcd(a + b)(c + d): t, u, v, x, y are the split sums of the edge, of A, B, C, D
abbrev pub inner_top : (a b c d t u v x y : ℤ) → ℤ
inner_top a b c d t u v x y =
    c *ℤ d *ℤ end_of a b ((a +ℤ b) *ℤ (c +ℤ d)) u v t +ℤ a *ℤ b *ℤ end_of c d ((a +ℤ b) *ℤ (c +ℤ d)) x y t

abbrev pub inner_bottom : (a b c d : ℤ) → ℤ
inner_bottom a b c d = pos 4 *ℤ (a *ℤ b *ℤ (c *ℤ d)) *ℤ ((a +ℤ b) *ℤ (c +ℤ d))

-- an outer edge, over 4ab: t, u, v are the split sums of the edge, of A and of B
abbrev pub outer_top : (a b t u v : ℤ) → ℤ
outer_top a b t u v = b *ℤ twice t u v +ℤ a *ℤ twice t v u -ℤ twice u v t

abbrev pub outer_bottom : (a b : ℤ) → ℤ
outer_bottom a b = pos 4 *ℤ (a *ℤ b)

-- the largest split sum: an edge parts at most 32 strains from 32, so 1,024 distances of at most 50,000
abbrev pub max_split : ℕ
max_split = 51200000

-- the most that `twice` of three split sums is
abbrev pub max_twice : ℕ
max_twice = 153600000

-- and `end_of`, for sizes of at most 64
abbrev pub max_end : ℕ
max_end = 4000000000000

-- no split sum is farther from 0 than the largest
pub record Gathered (K : ℕ) (sums : List ℤ) : Type 0 where
  pub near : (v : ℕ) → v < K → nat_abs (entry_of sums v) ≤ max_split

-- the sums are the split sums of some distances in range
pub record SplitSums (N K : ℕ) (par : ℕ → ℕ) (sums : List ℤ) : Type 0 where
  pub distances : ℕ × ℕ → ℤ
  pub range : (p : ℕ × ℕ) → (pos 0 ≤ᶻ distances p) × (distances p ≤ᶻ pos 50000)
  pub is : (v : ℕ) → v < K → entry_of sums v ≡ split_at N par distances v

-- a size: of 1 to 64 strains
pub record Sized (a : ℤ) : Type 0 where
  pub count : ℕ
  pub is : a ≡ pos count
  pub some : 1 ≤ count
  pub few : count ≤ 64

-- the length of edge c by split sums, not reduced
abbrev pub outer_by : ℕ → ℕ → (ℕ → ℕ) → (ℕ → ℤ) → ℕ → Fraction
outer_by N K par sums c =
    let a = size N (strains_below par (sibling K par c)) in
    let b = size N (neither par c (sibling K par c)) in
    outer_top a b (sums c) (sums (sibling K par c)) (sums (farther K par c)) over outer_bottom a b

abbrev pub inner_by : ℕ → ℕ → (ℕ → ℕ) → (ℕ → ℤ) → ℕ → Fraction
inner_by N K par sums c =
    let a = size N (strains_below par (child_of K par c 0)) in
    let b = size N (strains_below par (child_of K par c 1)) in
    let x = size N (strains_below par (sibling K par c)) in
    let y = size N (neither par c (sibling K par c)) in
    inner_top a b x y (sums c) (sums (child_of K par c 0)) (sums (child_of K par c 1)) (sums (sibling K par c)) (sums (farther K par c))
    over inner_bottom a b x y

abbrev pub length_by : ℕ → ℕ → (ℕ → ℕ) → (ℕ → ℤ) → ℕ → Fraction
length_by N K par sums c = cond (ltb c N) (outer_by N K par sums c) (inner_by N K par sums c)
