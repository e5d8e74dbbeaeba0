-- Of two masks that share no strain, either may be gone through strain by strain. The idea: what the table has for two strains does not ask
-- which is named first, and two sums change places.
use Rattle.std.proofs.Common.{◌≡◌, ℕ, ◌*◌, ◌<◌, ◌≤◌, true, List, length, get_or, ℤ, nat_abs, sym, ap, ◌∙◌, subst, arith, w64, to_z, of_z}
use Rattle.exact.proofs.Sign.{back}
use Rattle.matrix.specs.Limits.{max_strains, max_distance}
use Rattle.matrix.proofs.Places.{pair-place-sym}
use Rattle.tree_theory.specs.Cluster.{bit_at}
use Rattle.meeting.specs.Meeting.{over}
use Rattle.meeting.proofs.Masked.{over_cong}
use Rattle.meeting.proofs.Swapping.{over_swap}
use Rattle.splits.specs.Sums.{entry_of_two, Apart}
use Rattle.splits.proofs.Adding.{max_part, over_abs}
use Rattle.splits.proofs.Reading.{entry-sym, row-part}

-- what the table has between the strains of two masks
abbrev pub across : List ℕ → ℕ → ℕ → ℤ
across ds here there = over here (λ j. over there (λ i. entry_of_two ds i j))

pub across_swap : (ds : List ℕ) (a b : ℕ) → across ds a b ≡ across ds b a
across_swap ds a b = over_swap a b (entry_of_two ds)
    ∙ over_cong b (λ i. over a (λ j. entry_of_two ds i j)) (λ i. over a (λ j. entry_of_two ds j i)) (λ i _. over_cong a (λ j. entry_of_two ds i j) (λ j. entry_of_two ds j i) (λ j _. entry-sym ds i j))

pub swap_apart : (ds : List ℕ) (here there : ℕ) → ((j : ℕ) → bit_at here j ≡ true → Apart ds there j) → (i : ℕ) → bit_at there i ≡ true → Apart ds here i
swap_apart ds here there apart i h j g = let s = apart j g i h in (λ e. s.0 (sym e), subst (λ (k : ℕ). k < length ds) (pair-place-sym i j) s.1)

module _ (ds : List ℕ) (near : (k : ℕ) → get_or ds k 0 ≤ max_distance) where
  pub across_abs : (here there : ℕ) → nat_abs (across ds here there) ≤ max_strains * max_part
  across_abs here there = over_abs max_part here (λ j. over there (λ i. entry_of_two ds i j)) (row-part ds near there)

  -- whichever mask was gone through, as the code hands it back
  pub across-back : (here there each others : ℕ) (x : ℤ) → x ≡ across ds each others → across ds each others ≡ across ds here there → to_z w64 (of_z w64 x) ≡ across ds here there
  across-back here there each others x e f = back x (omega (arith, ap nat_abs e, across_abs each others)) ∙ e ∙ f
