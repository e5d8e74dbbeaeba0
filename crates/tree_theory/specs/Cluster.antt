-- Clusters as masks of strains: bit i stands for strain i.
use Rattle.std.specs.Prelude.{Bool, cond, ℕ, zero, suc, ◌+◌, ◌/◌, ◌%◌, ◌^◌, eqb}
use Rattle.tree_theory.specs.Chain.{below}

-- the number whose bit i, for i below n, is set exactly where b holds
unfoldable pub mask : ℕ → (ℕ → Bool) → ℕ
mask zero b = 0
mask (suc n) b = mask n b + cond (b n) (2 ^ n) 0

-- bit i of m
abbrev pub bit_at : ℕ → ℕ → Bool
bit_at m i = eqb (m / 2 ^ i % 2) 1

-- the cluster of vertex v: the strains below it
abbrev pub cluster : ℕ → (ℕ → ℕ) → ℕ → ℕ
cluster N par v = mask N (λ i. below par i v)
