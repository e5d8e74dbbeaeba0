-- What a pass over the edges leaves in the buffers.
use Rattle.std.specs.Prelude.{◌≡◌, cond, List, ℕ, ltb, ℤ, pos}
use Rattle.exact.specs.Table.{table}
use Rattle.exact.specs.Nearest.{nearest}
use Rattle.exact.specs.Fraction.{Fraction, lowest_top, lowest_bottom}
use Rattle.tree_theory.specs.Limits.{max_edges}

-- the fractions f in lowest terms in two buffers of K, and their rounding in a table, zeros behind the edges
pub record Lowered (K : ℕ) (f : ℕ → Fraction) (ns : List ℤ) (es : List ℕ) (ms : List ℤ) : Type 0 where
  pub tops : ns ≡ table K (λ v. lowest_top (f v))
  pub bottoms : es ≡ table K (λ v. lowest_bottom (f v))
  pub rounded : ms ≡ table max_edges (λ v. cond (ltb v K) (nearest (lowest_bottom (f v)) (lowest_top (f v))) (pos 0))
