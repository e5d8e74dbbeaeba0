-- A table of lengths, as it is held: its numerators, then zeros.
use Rattle.std.specs.Prelude.{◌≡◌, List, ℕ, ℤ, pos, get_or}
use Rattle.exact.specs.Table.{table}
use Rattle.tree_theory.specs.Limits.{max_edges}
use Rattle.desk.specs.declared.Table.{Table}

pub record IsTable (D : ℕ) (ns : List ℤ) (t : Table) : Type 0 where
  pub d : t.d ≡ D
  pub numerators : t.numerators ≡ table max_edges (λ v. get_or ns v (pos 0))
