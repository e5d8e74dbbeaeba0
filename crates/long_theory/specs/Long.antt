-- RULES, Long sheets: a denominator and numerators of L digits of base 1,000,000 each, the highest digit first. The numerators' digits stand level by level:
-- the highest digit of every edge, then the next of every edge, and so on.
use Rattle.std.specs.Prelude.{◌≡◌, List, ◌⊎◌, ℕ, ◌+◌, ◌*◌, ◌≤◌, ◌<◌, ℤ, pos, nat_abs, length, get_or}
use Rattle.exact.specs.Order.{◌≤ᶻ◌}
use Rattle.exact.specs.Table.{table, entry_of}
use Rattle.long_digits.specs.Digits.{base, value, natural}
use Rattle.verdict.specs.declared.Rule.{Rule}
use Rattle.tree_theory.specs.Limits.{max_edges}
use Rattle.fit_theory.specs.Stands.{Fitted}

-- 52 digits of base 1,000,000. Where a fit is the only one, its D goes into the determinant of its equations, which is at most the product of
-- the pairs that each edge parts, below 10^299 for 64 strains; and no numerator is more than 10^8 times D
abbrev pub max_levels : ℕ
max_levels = 52

-- no length is farther from 0, so that its thousandths are at most 10^11
abbrev pub max_length : ℕ
max_length = 100000000

-- digit k of the numerator of edge v
abbrev pub digit_of : ℕ → List ℤ → ℕ → ℕ → ℤ
digit_of K ns k v = entry_of ns (k * K + v)

-- D
abbrev pub long_denominator : ℕ → List ℕ → ℕ
long_denominator L Ds = natural L (λ k. get_or Ds k 0)

-- n_v
abbrev pub long_numerator : ℕ → ℕ → List ℤ → ℕ → ℤ
long_numerator L K ns v = value L (λ k. digit_of K ns k v)

abbrev pub long_numerators : ℕ → ℕ → List ℤ → List ℤ
long_numerators L K ns = table K (long_numerator L K ns)

-- the digits of one numerator are all zero or more, or all zero or less
abbrev pub OneSign : ℕ → ℕ → List ℤ → ℕ → Type 0
OneSign L K ns v = ((k : ℕ) → k < L → pos 0 ≤ᶻ digit_of K ns k v) ⊎ ((k : ℕ) → k < L → digit_of K ns k v ≤ᶻ pos 0)

-- counts and ranges, beside a tree with K edges
pub record LongProper (K : ℕ) (Ds : List ℕ) (ns : List ℤ) : Type 0 where
  pub few : K ≤ max_edges
  pub whole : length ns ≡ length Ds * K
  pub most : length Ds ≤ max_levels
  pub digits : (k : ℕ) → get_or Ds k 0 < base
  pub one : 1 ≤ long_denominator (length Ds) Ds
  pub tops : (i : ℕ) → nat_abs (entry_of ns i) < base
  pub signs : (v : ℕ) → v < K → OneSign (length Ds) K ns v
  pub near : (v : ℕ) → v < K → nat_abs (long_numerator (length Ds) K ns v) ≤ max_length * long_denominator (length Ds) Ds

-- the verdict on long lengths: counts and ranges pass, and the numbers that the digits write are the fit
pub record LongStands (rule : Rule) (N : ℕ) (ds ps Ds : List ℕ) (ns : List ℤ) : Type 0 where
  pub lengths : LongProper (length ps) Ds ns
  pub fitted : Fitted rule N ds ps (long_denominator (length Ds) Ds) (long_numerators (length Ds) (length ps) ns)
