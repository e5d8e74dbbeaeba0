-- One strain's row. The idea: what has been put, and what the strains that are left will still put, come to the whole row.
use Rattle.std.proofs.Common.{◌≡◌, ℕ, ◌+◌, ◌*◌, ◌^◌, ◌<◌, ◌≤◌, true, List, [], ◌∷◌, length, ℤ, pos, ◌+ℤ◌, ◌*ℤ◌, nat_abs, sym, refl, ap, ◌∙◌, ap₂, arith, w64, SFits, to_z, of_z}
use lib.Count.{ones}
use lib.IntN.{+ℤ_idr, +ℤ_idl}
use Rattle.exact.proofs.Quote.{by-ring, quote}
use Rattle.exact.proofs.Sign.{nat_abs_add, fits_abs, back}
use Rattle.tree_theory.specs.Limits.{max_vertices}
use Rattle.tree_theory.specs.Cluster.{bit_at}
use Rattle.tree_theory.proofs.Chains.{bit}
use Rattle.exact.specs.Table.{entry_of}
use Rattle.meeting.specs.declared.Low.{Low}
use Rattle.meeting.specs.Shares.{Put, under, mass}
use Rattle.meeting.specs.Meeting.{largest_remainder, pair_mass, LowestStrain, Apart, Rowed, over, remainder_by_ways}
use Rattle.meeting.proofs.Masked.{over_none, over-low, low_in, rest_in}
use Rattle.meeting.proofs.Putting.{put_under, put-room, mass-put}

-- the loop: some strains of the mask are left
pub record Rowing (N D : ℕ) (ds : List ℕ) (ways : List ℤ) (there j : ℕ) (old : List ℤ) (left : ℕ) (whole : ℤ) (now : List ℤ) : Type 0 where
  pub size : length now ≡ max_vertices
  pub inside : (i : ℕ) → bit_at left i ≡ true → bit_at there i ≡ true
  pub total : whole +ℤ over left (λ i. remainder_by_ways D ds ways i j) ≡ over there (λ i. remainder_by_ways D ds ways i j)
  pub more : mass max_vertices now + 3 * nat_abs whole + pair_mass * ones left ≤ mass max_vertices old + pair_mass * ones there
  pub entries : (par : ℕ → ℕ) (v : ℕ) → under par now v +ℤ over left (λ i. bit par v i *ℤ remainder_by_ways D ds ways i j)
      ≡ under par old v +ℤ over there (λ i. bit par v i *ℤ remainder_by_ways D ds ways i j)

module _ {N D : ℕ} {ds : List ℕ} {ways : List ℤ} {there j : ℕ} {old : List ℤ} where
  pub row-start : length old ≡ max_vertices → Rowing N D ds ways there j old there (pos 0) old
  row-start e = record {
    size = e;
    inside = λ i h. h;
    total = +ℤ_idl (over there (λ i. remainder_by_ways D ds ways i j));
    more = omega arith;
    entries = λ par v. refl;
  }

  pub row-end : {left : ℕ} {whole : ℤ} {now : List ℤ} → left ≡ 0 → Rowing N D ds ways there j old left whole now → Rowed D ds ways there j whole old now
  row-end {left} {whole} {now} e t = record {
    size = t.size;
    whole = none whole (λ i. remainder_by_ways D ds ways i j) ∙ t.total;
    more = omega (arith, t.more);
    entries = λ par v. none (under par now v) (λ i. bit par v i *ℤ remainder_by_ways D ds ways i j) ∙ t.entries par v;
  }
    where
      none : (y : ℤ) (f : ℕ → ℤ) → y ≡ y +ℤ over left f
      none y f = sym (ap (λ z. y +ℤ z) (ap (λ (m : ℕ). over m f) e ∙ over_none f) ∙ +ℤ_idr y)

  module _ (apart : Apart N D ds ways there j) (room : mass max_vertices old + pair_mass * ones there < 2 ^ 63)
      {left : ℕ} {whole : ℤ} {now : List ℤ} (t : Rowing N D ds ways there j old left whole now) {r : Low} (w : LowestStrain left r) where
    abbrev i : ℕ
    i = r.strain

    -- the strain whose turn it is
    pub strain_in : bit_at there i ≡ true
    strain_in = t.inside i (low_in left r w)

    by_ways_near : nat_abs (remainder_by_ways D ds ways i j) ≤ largest_remainder
    by_ways_near = apart.near i strain_in

    module _ {x : ℤ} (ex : x ≡ remainder_by_ways D ds ways i j) where
      pub row_room : (nat_abs (entry_of now i +ℤ x) < 2 ^ 63) × (nat_abs (entry_of now i) < 2 ^ 63)
      row_room = put-room max_vertices now i x (omega (arith, w.within)) (omega (arith, ap nat_abs ex, by_ways_near, t.more, w.fewer, room))

      sum_near : nat_abs (whole +ℤ x) < 2 ^ 63
      sum_near = omega (arith, nat_abs_add whole x, ap nat_abs ex, by_ways_near, t.more, w.fewer, room)

      pub sum_fits : SFits w64 (whole +ℤ x)
      sum_fits = fits_abs (whole +ℤ x) sum_near

      pub row-turn : {new : List ℤ} → Put i x now new → Rowing N D ds ways there j old r.rest (to_z w64 (of_z w64 (whole +ℤ x))) new
      row-turn {new} p = let s = back (whole +ℤ x) sum_near in record {
        size = p.size;
        inside = λ k h. t.inside k (rest_in left r w k h);
        total = ap₂ (λ y z. y +ℤ z) s refl ∙ ap (λ y. whole +ℤ y +ℤ over r.rest (λ k. remainder_by_ways D ds ways k j)) ex
            ∙ by-ring (whole ∷ remainder_by_ways D ds ways i j ∷ over r.rest (λ k. remainder_by_ways D ds ways k j) ∷ []) (search quote depth 20) tt
            ∙ ap (λ y. whole +ℤ y) (sym (over-low left r w (λ k. remainder_by_ways D ds ways k j))) ∙ t.total;
        more = omega (arith, ap nat_abs s, nat_abs_add whole x, ap nat_abs ex, by_ways_near, mass-put i x now new p max_vertices, t.more, w.fewer);
        entries = λ par v. ap (λ y. y +ℤ over r.rest (λ k. bit par v k *ℤ remainder_by_ways D ds ways k j)) (put_under par i x now new (omega (arith, w.within)) p v)
            ∙ ap (λ y. under par now v +ℤ bit par v i *ℤ y +ℤ over r.rest (λ k. bit par v k *ℤ remainder_by_ways D ds ways k j)) ex
            ∙ by-ring (under par now v ∷ bit par v i ∷ remainder_by_ways D ds ways i j ∷ over r.rest (λ k. bit par v k *ℤ remainder_by_ways D ds ways k j) ∷ []) (search quote depth 20) tt
            ∙ ap (λ y. under par now v +ℤ y) (sym (over-low left r w (λ k. bit par v k *ℤ remainder_by_ways D ds ways k j))) ∙ t.entries par v;
      }
