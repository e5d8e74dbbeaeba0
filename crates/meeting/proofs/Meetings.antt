-- Two masks meet. The idea: the rows of the strains that are left are still to be put.
use Rattle.std.proofs.Common.{◌≡◌, ℕ, ◌+◌, ◌*◌, ◌^◌, ◌<◌, ◌≤◌, true, List, [], ◌∷◌, length, ℤ, pos, ◌+ℤ◌, ◌-ℤ◌, ◌*ℤ◌, nat_abs, sym, refl, ap, ◌∙◌, ap₂, suc-mul, arith, w64, to_z, of_z}
use lib.Count.{ones}
use lib.IntN.{+ℤ_idr}
use Rattle.exact.proofs.Quote.{by-ring, quote}
use Rattle.exact.proofs.Sign.{back}
use Rattle.tree_theory.specs.Limits.{max_vertices}
use Rattle.tree_theory.specs.Cluster.{bit_at}
use Rattle.tree_theory.proofs.Chains.{bit}
use Rattle.meeting.specs.declared.Low.{Low}
use Rattle.meeting.specs.Shares.{Given, under, mass}
use Rattle.meeting.specs.Meeting.{pair_mass, LowestStrain, Apart, Rowed, Met, over, remainder_by_ways}
use Rattle.meeting.proofs.Masked.{over_none, over-low, over_cong, over-+, over-*, low_in, rest_in}

-- what strain j adds at edge v: its remainders with the strains of the mask
abbrev pub meeting : ℕ → ℕ → List ℕ → List ℤ → ℕ → ℕ → (ℕ → ℕ) → ℕ → ℕ → ℤ
meeting N D ds ways there m par v j = over there (λ i. (bit par v i +ℤ bit par v j -ℤ pos 2 *ℤ bit par v m) *ℤ remainder_by_ways D ds ways i j)

pub record Joining (N D : ℕ) (ds : List ℕ) (ways : List ℤ) (here there m : ℕ) (old : List ℤ) (left : ℕ) (now : List ℤ) : Type 0 where
  pub size : length now ≡ max_vertices
  pub inside : (j : ℕ) → bit_at left j ≡ true → bit_at here j ≡ true
  pub more : mass max_vertices now + pair_mass * (ones left * ones there) ≤ mass max_vertices old + pair_mass * (ones here * ones there)
  pub entries : (par : ℕ → ℕ) (v : ℕ) → under par now v +ℤ over left (meeting N D ds ways there m par v)
      ≡ under par old v +ℤ over here (meeting N D ds ways there m par v)

module _ {N D : ℕ} {ds : List ℕ} {ways : List ℤ} {here there m : ℕ} {old : List ℤ} where
  pub join-start : length old ≡ max_vertices → Joining N D ds ways here there m old here old
  join-start e = record { size = e; inside = λ j h. h; more = omega arith; entries = λ par v. refl }

  pub join-end : {left : ℕ} {now : List ℤ} → left ≡ 0 → Joining N D ds ways here there m old left now → Met D ds ways here there m old now
  join-end {left} {now} e t = record {
    size = t.size;
    more = omega (arith, t.more);
    entries = λ par v. sym (ap (λ z. under par now v +ℤ z) (ap (λ (k : ℕ). over k (meeting N D ds ways there m par v)) e ∙ over_none (meeting N D ds ways there m par v)) ∙ +ℤ_idr (under par now v))
        ∙ t.entries par v;
  }

  module _ (apart : (j : ℕ) → bit_at here j ≡ true → Apart N D ds ways there j) (room : mass max_vertices old + pair_mass * (ones here * ones there) < 2 ^ 63)
      {left : ℕ} {now : List ℤ} (t : Joining N D ds ways here there m old left now) {r : Low} (w : LowestStrain left r) where
    abbrev j : ℕ
    j = r.strain

    pub join_apart : Apart N D ds ways there j
    join_apart = apart j (t.inside j (low_in left r w))

    product : ones left * ones there ≡ ones r.rest * ones there + ones there
    product = ap (λ (k : ℕ). k * ones there) w.fewer ∙ suc-mul (ones r.rest) (ones there)

    pub join-room : mass max_vertices now + pair_mass * ones there < 2 ^ 63
    join-room = omega (arith, t.more, product, room)

    module _ {x : ℤ} {mid : List ℤ} (p : Rowed D ds ways there j x now mid) where
      -- the row's sum as it is passed
      abbrev y : ℤ
      y = to_z w64 (of_z w64 x)

      ey : y ≡ x
      ey = back x (omega (arith, p.more, join-room))

      pub give_room : mass max_vertices mid + 3 * nat_abs y < 2 ^ 63
      give_room = omega (arith, p.more, join-room, ap nat_abs ey)

      -- the row at its strains and what is given to j and m
      whole_row : (par : ℕ → ℕ) (v : ℕ) → over there (λ i. bit par v i *ℤ remainder_by_ways D ds ways i j) +ℤ (bit par v j -ℤ pos 2 *ℤ bit par v m) *ℤ over there (λ i. remainder_by_ways D ds ways i j)
          ≡ meeting N D ds ways there m par v j
      whole_row par v = ap (λ z. over there (λ i. bit par v i *ℤ remainder_by_ways D ds ways i j) +ℤ z) (sym (over-* there (bit par v j -ℤ pos 2 *ℤ bit par v m) (λ i. remainder_by_ways D ds ways i j)))
          ∙ sym (over-+ there (λ i. bit par v i *ℤ remainder_by_ways D ds ways i j) (λ i. (bit par v j -ℤ pos 2 *ℤ bit par v m) *ℤ remainder_by_ways D ds ways i j))
          ∙ over_cong there (λ i. bit par v i *ℤ remainder_by_ways D ds ways i j +ℤ (bit par v j -ℤ pos 2 *ℤ bit par v m) *ℤ remainder_by_ways D ds ways i j)
          (λ i. (bit par v i +ℤ bit par v j -ℤ pos 2 *ℤ bit par v m) *ℤ remainder_by_ways D ds ways i j)
          (λ i _. by-ring (bit par v i ∷ bit par v j ∷ bit par v m ∷ remainder_by_ways D ds ways i j ∷ []) (search quote depth 20) tt)

      pub join-turn : {new : List ℤ} → Given j m y mid new → Joining N D ds ways here there m old r.rest new
      join-turn g = record {
        size = g.size;
        inside = λ k h. t.inside k (rest_in left r w k h);
        more = omega (arith, g.more, p.more, ap nat_abs ey, t.more, product);
        entries = λ par v. ap (λ z. z +ℤ over r.rest (meeting N D ds ways there m par v))
            (g.entries par v ∙ ap₂ (λ a b. a +ℤ (bit par v j -ℤ pos 2 *ℤ bit par v m) *ℤ b) (p.entries par v) (ey ∙ p.whole))
            ∙ by-ring (under par now v ∷ over there (λ i. bit par v i *ℤ remainder_by_ways D ds ways i j) ∷ bit par v j ∷ bit par v m ∷ over there (λ i. remainder_by_ways D ds ways i j) ∷ over r.rest (meeting N D ds ways there m par v) ∷ []) (search quote depth 20) tt
            ∙ ap (λ z. under par now v +ℤ (z +ℤ over r.rest (meeting N D ds ways there m par v))) (whole_row par v)
            ∙ ap (λ z. under par now v +ℤ z) (sym (over-low left r w (meeting N D ds ways there m par v)))
            ∙ t.entries par v;
      }
