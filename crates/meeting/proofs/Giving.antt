-- What is given to two vertices: each of the two numbers fits, and so does each entry that it is added to.
use Rattle.std.proofs.Common.{◌≡◌, ℕ, ◌+◌, ◌*◌, ◌^◌, ◌<◌, ◌≤◌, List, [], ◌∷◌, ℤ, pos, ◌+ℤ◌, ◌-ℤ◌, ◌*ℤ◌, nat_abs, ap, ◌∙◌, ap₂, arith, to_z-of_z, w64, SFits, to_z, of_z}
use Rattle.exact.proofs.Quote.{by-ring, quote}
use Rattle.exact.proofs.Sign.{nat_abs_sub, fits_abs, back}
use Rattle.tree_theory.specs.Limits.{max_vertices}
use Rattle.tree_theory.proofs.Chains.{bit}
use Rattle.exact.specs.Table.{entry_of}
use Rattle.meeting.specs.Shares.{Put, Given, under, mass}
use Rattle.meeting.proofs.Putting.{put_under, mass-put, put-room}

twice_abs : (r : ℤ) → nat_abs (pos 0 -ℤ r -ℤ r) ≤ 2 * nat_abs r
twice_abs r = omega (arith, nat_abs_sub (pos 0 -ℤ r) r, nat_abs_sub (pos 0) r)

given : (j m : ℕ) (r y z : ℤ) (old one new : List ℤ) → j < max_vertices → m < max_vertices → y ≡ r → z ≡ pos 0 -ℤ r -ℤ r
    → Put j y old one → Put m z one new → Given j m r old new
given j m r y z old one new hj hm ey ez q s = record {
  size = s.size;
  more = omega (arith, mass-put j y old one q max_vertices, mass-put m z one new s max_vertices, ap nat_abs ey, ap nat_abs ez, twice_abs r);
  entries = λ par v. put_under par m z one new hm s v
      ∙ ap (λ t. t +ℤ bit par v m *ℤ z) (put_under par j y old one hj q v)
      ∙ ap₂ (λ s t. under par old v +ℤ bit par v j *ℤ s +ℤ bit par v m *ℤ t) ey ez
      ∙ by-ring (under par old v ∷ bit par v j ∷ bit par v m ∷ r ∷ []) (search quote depth 20) tt;
}

-- room for x at vertex k
abbrev Room : List ℤ → ℕ → ℤ → Type 0
Room own k x = (nat_abs (entry_of own k +ℤ x) < 2 ^ 63) × (nat_abs (entry_of own k) < 2 ^ 63)

module _ (j m : ℕ) (r : ℤ) (fits : SFits w64 r) (old : List ℤ) (hj : j < max_vertices) (hm : m < max_vertices)
    (room : mass max_vertices old + 3 * nat_abs r < 2 ^ 63) where
  -- r as it is passed
  abbrev passed : ℤ
  passed = to_z w64 (of_z w64 r)

  passed_is : passed ≡ r
  passed_is = to_z-of_z fits

  pub first-room : Room old j passed
  first-room = put-room max_vertices old j passed hj (omega (arith, room, ap nat_abs passed_is))

  -- 0 - r, then less r again
  abbrev minus : ℤ
  minus = pos 0 -ℤ passed

  minus-near : nat_abs minus ≤ nat_abs r
  minus-near = omega (arith, nat_abs_sub (pos 0) passed, ap nat_abs passed_is)

  pub minus-fits : SFits w64 minus
  minus-fits = fits_abs minus (omega (arith, minus-near, room))

  abbrev twice : ℤ
  twice = to_z w64 (of_z w64 minus) -ℤ passed

  twice-is : twice ≡ pos 0 -ℤ r -ℤ r
  twice-is = ap₂ ◌-ℤ◌ (back minus (omega (arith, minus-near, room)) ∙ ap (λ y. pos 0 -ℤ y) passed_is) passed_is

  twice-near : nat_abs twice ≤ 2 * nat_abs r
  twice-near = omega (arith, ap nat_abs twice-is, twice_abs r)

  pub twice-fits : SFits w64 twice
  twice-fits = fits_abs twice (omega (arith, twice-near, room))

  abbrev off : ℤ
  off = to_z w64 (of_z w64 twice)

  off-is : off ≡ twice
  off-is = back twice (omega (arith, twice-near, room))

  module _ (one : List ℤ) (q : Put j passed old one) where
    pub second-room : Room one m off
    second-room = put-room max_vertices one m off hm
        (omega (arith, room, ap nat_abs passed_is, ap nat_abs off-is, twice-near, mass-put j passed old one q max_vertices))

    pub all-given : (new : List ℤ) → Put m off one new → Given j m r old new
    all-given new s = given j m r passed off old one new hj hm passed_is (off-is ∙ twice-is) q s
