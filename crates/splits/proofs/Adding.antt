-- Sums over the strains of a mask, one strain a turn. The idea: what has been added, and what the strains that are left will still add,
-- come to the whole.
use Rattle.std.proofs.Common.{◌≡◌, ℕ, ◌*◌, ◌^◌, ◌<◌, ◌≤◌, true, [], ◌∷◌, ℤ, pos, ◌+ℤ◌, ◌-ℤ◌, nat_abs, sym, ap, ◌∙◌, arith, w64, SFits, to_z, of_z}
use lib.IntN.{+ℤ_idr, +ℤ_idl}
use Rattle.exact.proofs.Quote.{by-ring, quote}
use Rattle.exact.proofs.Sign.{nat_abs_add, nat_abs_sub, fits_abs, back}
use Rattle.exact.proofs.Sweep.{chosen-sum_abs}
use Rattle.matrix.specs.Limits.{max_strains, max_distance}
use Rattle.tree_theory.specs.Cluster.{bit_at}
use Rattle.meeting.specs.declared.Low.{Low}
use Rattle.meeting.specs.Meeting.{LowestStrain, over}
use Rattle.meeting.proofs.Masked.{over_none, over-low, low_in, rest_in}

-- no strain adds more
abbrev pub max_part : ℕ
max_part = max_strains * max_distance

pub over_abs : (c m : ℕ) (f : ℕ → ℤ) → ((i : ℕ) → nat_abs (f i) ≤ c) → nat_abs (over m f) ≤ max_strains * c
unfolding over
over_abs c m f h = chosen-sum_abs max_strains c (bit_at m) f (λ i _. h i)

-- the loop: some strains of the mask are left
pub record Adding (f : ℕ → ℤ) (whole left : ℕ) (sum : ℤ) : Type 0 where
  pub inside : (i : ℕ) → bit_at left i ≡ true → bit_at whole i ≡ true
  pub total : sum +ℤ over left f ≡ over whole f

pub add_start : (f : ℕ → ℤ) (whole : ℕ) → Adding f whole whole (pos 0)
add_start f whole = record { inside = λ i h. h; total = +ℤ_idl (over whole f) }

pub add-end : {f : ℕ → ℤ} {whole left : ℕ} {sum : ℤ} → left ≡ 0 → Adding f whole left sum → sum ≡ over whole f
add-end {f} {whole} {left} {sum} e t = sym (ap (λ z. sum +ℤ z) (ap (λ (m : ℕ). over m f) e ∙ over_none f) ∙ +ℤ_idr sum) ∙ t.total

module _ {f : ℕ → ℤ} {whole left : ℕ} {sum : ℤ} (low : (i : ℕ) → nat_abs (f i) ≤ max_part) (t : Adding f whole left sum) {r : Low} (w : LowestStrain left r) where
  -- the strain whose turn it is
  pub strain_in : bit_at whole r.strain ≡ true
  strain_in = t.inside r.strain (low_in left r w)

  so_far : sum ≡ over whole f -ℤ over left f
  so_far = by-ring (sum ∷ over left f ∷ []) (search quote depth 20) tt ∙ ap (λ z. z -ℤ over left f) t.total

  module _ {x : ℤ} (ex : x ≡ f r.strain) where
    sum_near : nat_abs (sum +ℤ x) < 2 ^ 63
    sum_near = omega (arith, nat_abs_add sum x, ap nat_abs ex, low r.strain, ap nat_abs so_far, nat_abs_sub (over whole f) (over left f), over_abs max_part whole f low, over_abs max_part left f low)

    pub sum_fits : SFits w64 (sum +ℤ x)
    sum_fits = fits_abs (sum +ℤ x) sum_near

    pub add_turn : Adding f whole r.rest (to_z w64 (of_z w64 (sum +ℤ x)))
    add_turn = record {
      inside = λ k h. t.inside k (rest_in left r w k h);
      total = ap (λ y. y +ℤ over r.rest f) (back (sum +ℤ x) sum_near ∙ ap (λ y. sum +ℤ y) ex)
          ∙ by-ring (sum ∷ f r.strain ∷ over r.rest f ∷ []) (search quote depth 20) tt
          ∙ ap (λ y. sum +ℤ y) (sym (over-low left r w f)) ∙ t.total;
    }
