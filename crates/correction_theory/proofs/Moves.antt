-- One entry of the matrix changed. The idea: what an edge has of the pairs that it parts is a sum over all pairs, each weighed by its
-- entry (`over`); so one entry moves it by the new weight less the old one where the edge parts the pair, and nowhere else
-- (`one_entry`). With the distance as the weight that is a split sum (`sum_moves`), with 1 for a measured pair a count (`count_moves`).
use mathlib.Core.Path.{◌≡◌, sym, ◌∙◌, ap}
use mathlib.Core.List.{List, [], ◌∷◌}
use mathlib.Core.Logic.{◌≢◌}
use Prim.Native.Nat.{ℕ, ◌<◌}
use native.Mathlib.Decide.{dec_lt}
use native.Mathlib.Omega.{arith}
use lib.IntN.{ℤ, pos, ◌+ℤ◌, ◌-ℤ◌, ◌*ℤ◌}
use lib.ListN.{length, get_or, set}
use lib.Seq.{get_or-set_same, get_or-set_other}
use Rattle.exact.specs.Sum.{pairs, ind}
use Rattle.exact.proofs.Decide.{by_cases}
use Rattle.exact.proofs.Quote.{by-ring, quote}
use Rattle.exact.proofs.Sum.{pairs_cong, pairs-one, pairs-sums, ind-and}
use Rattle.matrix.specs.Place.{pair_count, place, pair_place, is_measured, known, measured}
use Rattle.matrix.proofs.Places.{place-bound, place-one, pair-place-up, pair-place-down}
use Rattle.tree_theory.specs.Chain.{parent_of}
use Rattle.tree_theory.proofs.Chains.{parts-sym}
use Rattle.fit_theory.specs.Quantities.{parts_of, split_sum}
use Rattle.fit_theory.proofs.Steps.{all-parted}
use Rattle.correction_theory.specs.Correction.{Correction, corrected}
use Rattle.correction_theory.specs.Kept.{split_count, moved, sum_change, count_change}
use Rattle.correction_theory.proofs.Asked.{Apart}

-- what edge v has of the pairs that it parts, each weighed by its entry
abbrev pub over : (ℕ → ℤ) → ℕ → List ℕ → List ℕ → ℕ → ℤ
over w N ps ds v = pairs N (λ p. ind (parts_of ps v p) *ℤ w (get_or ds (place p.0 p.1) 0))

module _ (w : ℕ → ℤ) (N : ℕ) (ps ds : List ℕ) (whole : length ds ≡ pair_count N) (v x : ℕ) where
  -- the entry of a pair, the lower strain first
  upward : (a b : ℕ) → a < b → b < N → over w N ps (set ds (place a b) x) v ≡ over w N ps ds v +ℤ ind (parts_of ps v (a, b)) *ℤ (w x -ℤ w (get_or ds (place a b) 0))
  upward a b h k =
      pairs_cong N (λ p _ _. by-ring (ind (parts_of ps v p) ∷ w (get_or (set ds (place a b) x) (place p.0 p.1) 0) ∷ w (get_or ds (place p.0 p.1) 0) ∷ []) (search quote depth 20) tt)
      ∙ (pairs-sums N).add (λ p. ind (parts_of ps v p) *ℤ w (get_or ds (place p.0 p.1) 0)) more
      ∙ ap (λ (y : ℤ). over w N ps ds v +ℤ y)
      (pairs-one N a b more h k (λ i j l m e. ap (λ (y : ℤ). ind (parts_of ps v (i, j)) *ℤ (y -ℤ w (get_or ds (place i j) 0))) (ap w (get_or-set_other ds (place a b) (place i j) x 0 (λ q. e (place-one i j a b l h q))))
      ∙ by-ring (ind (parts_of ps v (i, j)) ∷ w (get_or ds (place i j) 0) ∷ []) (search quote depth 20) tt)
      ∙ ap (λ (y : ℤ). ind (parts_of ps v (a, b)) *ℤ (y -ℤ w (get_or ds (place a b) 0))) (ap w (get_or-set_same ds (place a b) x 0 (omega (arith, whole, place-bound N a b h k)))))
    where
      more : ℕ × ℕ → ℤ
      more p = ind (parts_of ps v p) *ℤ (w (get_or (set ds (place a b) x) (place p.0 p.1) 0) -ℤ w (get_or ds (place p.0 p.1) 0))

  -- in either order
  pub one_entry : (i j : ℕ) → i ≢ j → i < N → j < N → over w N ps (set ds (pair_place i j) x) v ≡ over w N ps ds v +ℤ ind (parts_of ps v (i, j)) *ℤ (w x -ℤ w (get_or ds (pair_place i j) 0))
  one_entry i j e hi hj = by_cases (dec_lt i j)
      (λ l. rw (pair-place-up i j l) (upward i j l hj))
      (λ l. rw (pair-place-down i j (omega arith)) (upward j i (omega arith) hi ∙ ap (λ (y : ℤ). over w N ps ds v +ℤ y *ℤ (w x -ℤ w (get_or ds (place j i) 0))) (parts-sym (parent_of ps) v j i)))

-- a count weighs a measured pair by 1
pub count-over : (N : ℕ) (ds ps : List ℕ) (v : ℕ) → split_count N ds ps v ≡ over (λ y. ind (is_measured y)) N ps ds v
count-over N ds ps v = pairs_cong N (λ p _ _. ind-and (parts_of ps v p) (measured ds p))

-- the split sums and the counts of the corrected matrix
module _ (N : ℕ) (ds ps : List ℕ) (whole : length ds ≡ pair_count N) (c : Correction) (a : Apart N c) (v : ℕ) where
  pub sum_moves : split_sum N (corrected ds c) ps v ≡ moved ps c (sum_change ds c) (split_sum N ds ps) v
  sum_moves = all-parted N (corrected ds c) ps v ∙ one_entry (λ y. pos (known y)) N ps ds whole v c.far c.i c.j a.apart a.i-strain a.j-strain
      ∙ ap (λ (y : ℤ). y +ℤ ind (parts_of ps v (c.i, c.j)) *ℤ sum_change ds c) (sym (all-parted N ds ps v))

  pub count_moves : split_count N (corrected ds c) ps v ≡ moved ps c (count_change ds c) (split_count N ds ps) v
  count_moves = count-over N (corrected ds c) ps v ∙ one_entry (λ y. ind (is_measured y)) N ps ds whole v c.far c.i c.j a.apart a.i-strain a.j-strain
      ∙ ap (λ (y : ℤ). y +ℤ ind (parts_of ps v (c.i, c.j)) *ℤ count_change ds c) (sym (count-over N ds ps v))
