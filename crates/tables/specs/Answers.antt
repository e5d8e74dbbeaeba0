-- What split sums and path lengths hand back.
use Rattle.std.specs.Prelude.{◌≡◌, List, ℕ, ◌<◌, ℤ, length}
use Rattle.exact.specs.Table.{table, entry_of}
use Rattle.verdict.specs.Answer.{pass, answer_of}
use Rattle.verdict.specs.Answer.{Verdict}
use Rattle.matrix.specs.Place.{row_place}
use Rattle.tree_theory.specs.EdgeTable.{EdgeTable}
use Rattle.fit_theory.specs.Quantities.{split_sum, path_of}
use Rattle.fit_theory.specs.Tests.{split_tests, paths_tests}

-- a table of every edge's split sum, zeros behind the last edge
abbrev pub SplitTable : ℕ → List ℕ → List ℕ → List ℤ → Type 0
SplitTable N ds ps r = EdgeTable (length ps) (split_sum N ds ps) r

-- split sums: the buffer holds one for each edge, or is as it was
pub record SplitAnswer (N : ℕ) (ds ps : List ℕ) (before after : List ℤ) (r : Verdict) : Type 0 where
  pub answer : answer_of r ≡ split_tests N ds ps (length before)
  pub filled : split_tests N ds ps (length before) ≡ pass → after ≡ table (length ps) (split_sum N ds ps)
  pub kept : (split_tests N ds ps (length before) ≡ pass → ⊥) → after ≡ before

-- path lengths: the buffer holds each pair's at its place, or is as it was
pub record PathsAnswer (N : ℕ) (ps : List ℕ) (D : ℕ) (ns : List ℤ) (before after : List ℤ) (r : Verdict) : Type 0 where
  pub answer : answer_of r ≡ paths_tests N ps D ns (length before)
  pub size : length after ≡ length before
  pub filled : paths_tests N ps D ns (length before) ≡ pass → (i j : ℕ) → i < j → j < N → entry_of after (row_place N i j) ≡ path_of ps ns (i, j)
  pub kept : (paths_tests N ps D ns (length before) ≡ pass → ⊥) → after ≡ before
