-- A table of ones has an entry for each edge, as small as can be.
use Rattle.std.proofs.Common.{◌≡◌, ℕ, ◌<◌, ◌≤◌, List, length, ℤ, pos, nat_abs, ap, ◌∙◌, arith}
use Rattle.exact.specs.Table.{table, entry_of}
use Rattle.exact.proofs.Fill.{length-table, get_or_table}
use Rattle.tree_theory.specs.Limits.{max_edges}
use Rattle.tree_theory.specs.Chain.{parent_of}
use Rattle.tree_theory.specs.Allowed.{Allowed}
use Rattle.inner_paths.specs.Between.{Lengthened}

module _ (xs : List ℤ) (e : xs ≡ table max_edges (λ _. pos 1)) {N K : ℕ} {par : ℕ → ℕ} (a : Allowed N K par) where
  few : K ≤ max_edges
  few = omega (arith, a.few, a.most)

  pub one : (v : ℕ) → v < K → entry_of xs v ≡ pos 1
  one v h = ap (λ (y : List ℤ). entry_of y v) e ∙ get_or_table max_edges (λ _. pos 1) (pos 0) v (omega (arith, few))

pub ones-lengthened : (xs : List ℤ) → xs ≡ table max_edges (λ _. pos 1) → {N K : ℕ} {ps : List ℕ} → K ≤ length ps → Allowed N K (parent_of ps) → Lengthened N K ps xs
ones-lengthened xs e room a = record {
  room = room;
  allowed = a;
  small = record { room = omega (arith, ap length e, length-table max_edges (λ _. pos 1), few xs e a); near = λ v h. omega (arith, ap nat_abs (one xs e a v h)) };
}
