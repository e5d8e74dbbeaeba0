-- Counts worked afresh (`counts-afresh`): they are the split sums of the matrix that has 1 for each measured pair and 0 for each missing one
-- (`ones`). Every pair of that matrix is measured, so it passes beside the same tree (`ones-posted`).
use mathlib.Core.Path.{◌≡◌, refl, sym, ◌∙◌, ap}
use mathlib.Core.Bool.{Bool, true, false, cond, not}
use mathlib.Core.List.{List}
use Prim.Native.Nat.{ℕ, ◌≤◌, ◌<◌}
use native.Mathlib.Omega.{arith}
use lib.IntN.{ℤ, pos, ◌*ℤ◌}
use lib.ListN.{length, get_or}
use Rattle.exact.specs.Sum.{ind}
use Rattle.exact.proofs.Fill.{length-table, get_or_table}
use Rattle.exact.proofs.Sum.{pairs_cong}
use Rattle.verdict.proofs.Table.{some-no}
use Rattle.matrix.specs.Limits.{max_distance}
use Rattle.matrix.specs.Place.{pair_count, place, is_measured, known}
use Rattle.matrix.proofs.Places.{place-bound}
use Rattle.fit_theory.specs.Quantities.{parts_of, split_sum}
use Rattle.fit_theory.specs.Stands.{Posted}
use Rattle.fit_theory.proofs.Complete.{complete-posted}
use Rattle.fit_theory.proofs.Steps.{all-parted}
use Rattle.correction_theory.specs.Kept.{split_count, one, ones}
use Rattle.correction_theory.proofs.Moves.{count-over}

one_of : (b : Bool) → pos (known (cond b 1 0)) ≡ ind b
unfolding known ind
one_of true = refl
one_of false = refl

one-near : (b : Bool) → known (cond b 1 0) ≤ max_distance
unfolding known
one-near true = omega arith
one-near false = omega arith

one-there : (b : Bool) → not (is_measured (cond b 1 0)) ≡ false
one-there true = refl
one-there false = refl

module _ (N : ℕ) (ds ps : List ℕ) where
  at : (k : ℕ) → k < length ds → get_or (ones ds) k 0 ≡ one (get_or ds k 0)
  at k l = get_or_table (length ds) (λ i. one (get_or ds i 0)) 0 k l

  pub counts-afresh : (v : ℕ) → length ds ≡ pair_count N → split_sum N (ones ds) ps v ≡ split_count N ds ps v
  counts-afresh v e = all-parted N (ones ds) ps v
      ∙ pairs_cong N (λ p l k. ap (λ (y : ℤ). ind (parts_of ps v p) *ℤ y)
      (ap (λ (x : ℕ). pos (known x)) (at (place p.0 p.1) (omega (arith, e, place-bound N p.0 p.1 l k)))
      ∙ one_of (is_measured (get_or ds (place p.0 p.1) 0))))
      ∙ sym (count-over N ds ps v)

  size : length (ones ds) ≡ length ds
  size = length-table (length ds) (λ k. one (get_or ds k 0))

  pub ones-posted : Posted N ds ps → Posted N (ones ds) ps
  ones-posted s = complete-posted N (ones ds) ps
      (record {
        matrix = record {
          whole = size ∙ s.matrix.whole;
          three = s.matrix.three;
          few = s.matrix.few;
          near = λ k l. rw (at k (omega (arith, size))) (one-near (is_measured (get_or ds k 0)));
        };
        tree = s.tree;
      })
      (some-no (length (ones ds)) (λ k. not (is_measured (get_or (ones ds) k 0)))
      (λ k l. ap (λ (x : ℕ). not (is_measured x)) (at k (omega (arith, size))) ∙ one-there (is_measured (get_or ds k 0))))
