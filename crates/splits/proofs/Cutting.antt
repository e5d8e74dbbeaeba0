-- Sets of strains as weights 0 and 1, and what the table has between a set and the strains that are not in it: its cut. A strain's cut is its
-- row sum (`cut-one`), an edge's split sum is the cut of its cluster (`cut-split`), and two sets together have both cuts less twice
-- what is between them (`cut-∪`).
use Rattle.std.proofs.Common.{◌≡◌, ℕ, ◌*◌, ◌<◌, ◌≤◌, Bool, true, false, eqb, List, [], ◌∷◌, get_or, ℤ, pos, ◌+ℤ◌, ◌-ℤ◌, ◌*ℤ◌, nat_abs, sym, refl, ap, ◌∙◌, ap₂, mul-le-mul, arith}
use native.Mathlib.Decide.{ℕ_discrete}
use lib.IntN.{zero-*ℤ, *ℤ-zero}
use Rattle.exact.specs.Sum.{sum, pairs, ind}
use Rattle.exact.proofs.Decide.{by_cases, eq_no, eqb-sym}
use Rattle.exact.proofs.Quote.{by-ring, quote}
use Rattle.exact.proofs.Sign.{nat_abs_mul}
use Rattle.exact.proofs.Sum.{sum_cong, sum-*, pairs_cong, ind-sq, ind-no}
use Rattle.exact.proofs.Sweep.{sum_abs, ind-one}
use Rattle.matrix.specs.Limits.{max_strains, max_distance}
use Rattle.matrix.proofs.Places.{pair-place-up}
use Rattle.tree_theory.specs.Chain.{below}
use Rattle.tree_theory.specs.Cluster.{mask}
use Rattle.tree_theory.proofs.Chains.{bit, parts-ind}
use Rattle.direct_theory.proofs.Star.{Same, link, link_cong, link-∪ˡ, link-∪ʳ, link-sym}
use Rattle.direct_theory.proofs.Crossing.{pairs-cross}
use Rattle.meeting.specs.Meeting.{over}
use Rattle.meeting.proofs.Masked.{over-mask}
use Rattle.splits.specs.Sums.{entry_at, entry_of_two, split_of, in_row}
use Rattle.splits.proofs.Adding.{max_part}
use Rattle.splits.proofs.Reading.{entry-sym, entry_abs}
use Rattle.splits.proofs.Swapping.{across}

abbrev pub cut : ℕ → List ℕ → (ℕ → ℤ) → ℤ
cut N ds A = link N (entry_of_two ds) A (λ j. pos 1 -ℤ A j)

module _ (N : ℕ) (ds : List ℕ) where
  pub cut_cong : (A B : ℕ → ℤ) → Same N A B → cut N ds A ≡ cut N ds B
  cut_cong A B h = link_cong N (entry_of_two ds) A B (λ j. pos 1 -ℤ A j) (λ j. pos 1 -ℤ B j) h (λ j l. ap (λ y. pos 1 -ℤ y) (h j l))

  -- two sets together: B comes to A
  module _ (A B : ℕ → ℤ) where
    abbrev others : ℕ → ℤ
    others j = pos 1 -ℤ (A j +ℤ B j)

    from_first : cut N ds A ≡ link N (entry_of_two ds) A others +ℤ link N (entry_of_two ds) A B
    from_first = link_cong N (entry_of_two ds) A A (λ j. pos 1 -ℤ A j) (λ j. others j +ℤ B j) (λ i _. refl) (λ j _. by-ring (A j ∷ B j ∷ []) (search quote depth 20) tt)
        ∙ link-∪ʳ N (entry_of_two ds) (entry-sym ds) A others B

    from_second : cut N ds B ≡ link N (entry_of_two ds) B others +ℤ link N (entry_of_two ds) B A
    from_second = link_cong N (entry_of_two ds) B B (λ j. pos 1 -ℤ B j) (λ j. others j +ℤ A j) (λ i _. refl) (λ j _. by-ring (A j ∷ B j ∷ []) (search quote depth 20) tt)
        ∙ link-∪ʳ N (entry_of_two ds) (entry-sym ds) B others A

    pub cut-∪ : cut N ds (λ i. A i +ℤ B i) ≡ cut N ds A +ℤ cut N ds B -ℤ link N (entry_of_two ds) B A -ℤ link N (entry_of_two ds) B A
    cut-∪ = link-∪ˡ N (entry_of_two ds) A B others
        ∙ by-ring (link N (entry_of_two ds) A others ∷ link N (entry_of_two ds) B others ∷ link N (entry_of_two ds) B A ∷ []) (search quote depth 20) tt
        ∙ sym (ap₂ (λ x y. x +ℤ y -ℤ link N (entry_of_two ds) B A -ℤ link N (entry_of_two ds) B A) (from_first ∙ ap (λ y. link N (entry_of_two ds) A others +ℤ y) (link-sym N (entry_of_two ds) (entry-sym ds) A B)) from_second)

  -- ---- over the pairs
  entry-up : (p : ℕ × ℕ) → p.0 < p.1 → entry_at ds p ≡ entry_of_two ds p.0 p.1
  entry-up p l = ap (λ (k : ℕ). pos (get_or ds k 0)) (sym (pair-place-up p.0 p.1 l))

  pub cut-split : (par : ℕ → ℕ) (v : ℕ) → split_of N ds par v ≡ cut N ds (bit par v)
  cut-split par v = pairs_cong N (λ p l _. ap₂ ◌*ℤ◌ (parts-ind par v p.0 p.1) (entry-up p l))
      ∙ pairs-cross N (bit par v) (entry_of_two ds) (λ i. ind-sq (below par i v)) (entry-sym ds)

  pub cut-one : (w : ℕ) → pairs N (in_row ds w) ≡ cut N ds (λ i. ind (eqb i w))
  cut-one w = pairs_cong N (λ p l _. ap₂ ◌*ℤ◌ (one p.0 p.1 l) (entry-up p l))
      ∙ pairs-cross N (λ i. ind (eqb i w)) (entry_of_two ds) (λ i. ind-sq (eqb i w)) (entry-sym ds)
    where
      not_both : (a b : ℕ) → a < b → ind (eqb a w) *ℤ ind (eqb b w) ≡ pos 0
      not_both a b l = by_cases (ℕ_discrete a w)
          (λ e. ap (λ y. ind (eqb a w) *ℤ y) (ind-no (eq_no {a = b} {b = w} (omega arith))) ∙ *ℤ-zero (ind (eqb a w)))
          (λ e. ap (λ y. y *ℤ ind (eqb b w)) (ind-no (eq_no e)) ∙ zero-*ℤ (ind (eqb b w)))

      one : (a b : ℕ) → a < b → ind (eqb w a) +ℤ ind (eqb w b) ≡ ind (eqb a w) +ℤ ind (eqb b w) -ℤ pos 2 *ℤ (ind (eqb a w) *ℤ ind (eqb b w))
      one a b l = ap₂ (λ x y. ind x +ℤ ind y) (eqb-sym w a) (eqb-sym w b)
          ∙ by-ring (ind (eqb a w) ∷ ind (eqb b w) ∷ []) (search quote depth 20) tt
          ∙ ap (λ y. ind (eqb a w) +ℤ ind (eqb b w) -ℤ pos 2 *ℤ y) (sym (not_both a b l))

  -- ---- magnitudes
  module _ (few : N ≤ max_strains) (near : (k : ℕ) → get_or ds k 0 ≤ max_distance) where
    pub link_abs : (A B : ℕ → ℤ) → ((i : ℕ) → nat_abs (A i) ≤ 1) → ((i : ℕ) → nat_abs (B i) ≤ 1) → nat_abs (link N (entry_of_two ds) A B) ≤ max_strains * max_part
    unfolding link
    link_abs A B a b = omega (arith, sum_abs N max_part (λ i. sum N (λ j. A i *ℤ B j *ℤ entry_of_two ds i j)) (λ i _. row i))
      where
        term : (i j : ℕ) → nat_abs (A i *ℤ B j *ℤ entry_of_two ds i j) ≤ max_distance
        term i j = omega (
          arith,
          nat_abs_mul (A i *ℤ B j) (entry_of_two ds i j),
          mul-le-mul {n₁ = nat_abs (A i *ℤ B j)} {m₁ = nat_abs (entry_of_two ds i j)} {n₂ = 1} {m₂ = max_distance}
              (omega (arith, nat_abs_mul (A i) (B j), mul-le-mul {n₁ = nat_abs (A i)} {m₁ = nat_abs (B j)} {n₂ = 1} {m₂ = 1} (a i) (b j))) (entry_abs ds near i j),
        )

        row : (i : ℕ) → nat_abs (sum N (λ j. A i *ℤ B j *ℤ entry_of_two ds i j)) ≤ max_part
        row i = omega (arith, sum_abs N max_distance (λ j. A i *ℤ B j *ℤ entry_of_two ds i j) (λ j _. term i j))

    pub cut_abs : (b : ℕ → Bool) → nat_abs (cut N ds (λ i. ind (b i))) ≤ max_strains * max_part
    cut_abs b = link_abs (λ i. ind (b i)) (λ j. pos 1 -ℤ ind (b j)) (λ i. ind-one (b i)) (λ j. less (b j))
      where
        less : (c : Bool) → nat_abs (pos 1 -ℤ ind c) ≤ 1
        less true = unfold ind in omega arith
        less false = unfold ind in omega arith

    -- between two masks, as the code goes through them
    pub across-link : (here there : ℕ) (b a : ℕ → Bool) → here ≡ mask N b → there ≡ mask N a → across ds here there ≡ link N (entry_of_two ds) (λ j. ind (b j)) (λ i. ind (a i))
    unfolding link
    across-link here there b a e f =
        ap₂ (across ds) e f
        ∙ over-mask N b (λ j. over (mask N a) (λ i. entry_of_two ds i j)) few
        ∙ sum_cong N (λ j _. ap (λ y. ind (b j) *ℤ y) (over-mask N a (λ i. entry_of_two ds i j) few)
        ∙ sym (sum-* N (ind (b j)) (λ i. ind (a i) *ℤ entry_of_two ds i j))
        ∙ sum_cong N (λ i _. ap (λ y. ind (b j) *ℤ (ind (a i) *ℤ y)) (entry-sym ds i j) ∙ by-ring (ind (b j) ∷ ind (a i) ∷ entry_of_two ds j i ∷ []) (search quote depth 20) tt))
