-- The sum of the numerators, edge by edge. The idea: numerators, no more than a tree has edges, in their range never leave an i64, so each turn adds
-- one exactly.
use mathlib.Core.Path.{◌≡◌, sym, ap, ap₂, ◌∙◌}
use mathlib.Core.List.{List}
use Prim.Native.Nat.{ℕ, ◌+◌, ◌≤◌, ◌<◌, ◌^◌}
use native.Mathlib.Numerals.{add-one}
use native.Mathlib.Omega.{arith}
use lib.IntN.{ℤ, nat_abs, ◌+ℤ◌}
use mir.Syntax.{w64}
use mir.Val.{SFits, to_z, of_z}
use Rattle.exact.specs.Sum.{sum}
use Rattle.exact.proofs.Sum.{sum-suc}
use Rattle.exact.proofs.Sweep.{sum_abs}
use Rattle.exact.proofs.Sign.{fits_abs, back}
use Rattle.exact.specs.Table.{entry_of}
use Rattle.tree_theory.specs.Limits.{max_edges}
use Rattle.lengths.specs.Limits.{max_numerator}
use Rattle.pairs.specs.Ready.{InRange}

module _ {K : ℕ} {ns : List ℤ} (w : InRange K ns) (few : K ≤ max_edges) (v : ℕ) (s : ℤ) (l : v < K) (e : s ≡ sum v (entry_of ns)) where
  -- the entry comes back from its bits
  more : s +ℤ to_z w64 (of_z w64 (entry_of ns v)) ≡ sum (v + 1) (entry_of ns)
  more = ap₂ ◌+ℤ◌ e (back (entry_of ns v) (omega (arith, w.near v l))) ∙ sym (sum-suc v (entry_of ns)) ∙ ap (λ k. sum k (entry_of ns)) (sym (add-one v))

  near : nat_abs (s +ℤ to_z w64 (of_z w64 (entry_of ns v))) < 2 ^ 63
  near = omega (
    arith,
    ap nat_abs more,
    sum_abs (v + 1) max_numerator (entry_of ns) (λ k h. w.near k (omega arith)),
  )

  pub total-fits : SFits w64 (s +ℤ to_z w64 (of_z w64 (entry_of ns v)))
  total-fits = fits_abs (s +ℤ to_z w64 (of_z w64 (entry_of ns v))) near

  pub total-next : to_z w64 (of_z w64 (s +ℤ to_z w64 (of_z w64 (entry_of ns v)))) ≡ sum (v + 1) (entry_of ns)
  total-next = back (s +ℤ to_z w64 (of_z w64 (entry_of ns v))) near ∙ more
