-- Two tables mixed from the front: below v the first is mixed, and from v on it is as it was.
use Rattle.std.proofs.Common.{◌≡◌, ℕ, ◌+◌, ◌<◌, ◌≤◌, List, length, set, ℤ, pos, ◌+ℤ◌, ◌*ℤ◌, sym, refl, ap, ◌∙◌, arith, length-set, get_or-set_other, get_or-set_same}
use native.Mathlib.Decide.{ℕ_discrete}
use Rattle.exact.specs.Table.{entry_of}
use Rattle.exact.proofs.Decide.{by_cases}
use Rattle.tree_theory.specs.Limits.{max_edges}
use Rattle.edge_numbers.specs.Mixes.{Mixed}

pub record Mixing (K : ℕ) (a b : ℤ) (xs ys : List ℤ) (v : ℕ) (r : List ℤ) : Type 0 where
  pub here : v ≤ K
  pub size : length r ≡ max_edges
  pub done : (u : ℕ) → u < v → entry_of r u ≡ a *ℤ entry_of xs u +ℤ b *ℤ entry_of ys u
  pub rest : (u : ℕ) → v ≤ u → entry_of r u ≡ entry_of xs u

module _ (K : ℕ) (a b : ℤ) (xs ys : List ℤ) where
  pub mix_start : length xs ≡ max_edges → Mixing K a b xs ys 0 xs
  mix_start e = record { here = omega arith; size = e; done = λ u h. absurd (omega arith); rest = λ u _. refl }

  pub mix_turn : (v : ℕ) (r : List ℤ) (m : ℤ) → K ≤ max_edges → v < K → Mixing K a b xs ys v r → m ≡ a *ℤ entry_of xs v +ℤ b *ℤ entry_of ys v → Mixing K a b xs ys (v + 1) (set r v m)
  mix_turn v r m few l t e = record {
    here = omega arith;
    size = simp length-set t.size;
    done = λ u h. by_cases (ℕ_discrete u v)
        (λ q. rw q (get_or-set_same r v m (pos 0) (omega (arith, t.size)) ∙ e))
        (λ q. get_or-set_other r v u m (pos 0) q ∙ t.done u (omega arith));
    rest = λ u h. get_or-set_other r v u m (pos 0) (λ q. omega arith) ∙ t.rest u (omega arith);
  }

  pub mix_end : (v : ℕ) (r : List ℤ) → K ≤ v → Mixing K a b xs ys v r → Mixed K a b xs ys r
  mix_end v r h t = record { size = t.size; entries = λ u l. t.done u (omega arith); rest = λ u l. t.rest u (omega (arith, t.here)) }
