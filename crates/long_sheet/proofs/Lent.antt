-- The digits of a long sheet that was read, decoded: D's at the front of their array, the numerators' at the front of a table of zeros. What is lent of
-- both is what the third record holds.
use mathlib.Core.Path.{◌≡◌, sym, ap, ap₂, ◌∙◌}
use mathlib.Core.List.{List, ◌++◌, append_assoc}
use Prim.Native.Nat.{ℕ, ◌+◌, ◌-◌, ◌*◌, ◌≤◌}
use native.Mathlib.Omega.{arith}
use lib.IntN.{ℤ, pos}
use lib.ListN.{length, take, drop, length-append}
use lib.Seq.{take_at, length-take-le}
use Rattle.exact.specs.Table.{table, padded}
use Rattle.exact.proofs.Fill.{length-table}
use Rattle.records.proofs.Decoding.{front-is, front_length, front-there}
use Rattle.front.specs.Holds.{strains_of, distances_of, parents_of}
use Rattle.long_theory.specs.Long.{max_levels}
use Rattle.long_decoding.specs.Digits.{max_digits, natural_at, signed_at}
use Rattle.long_reading.specs.declared.LongSheet.{LongSheet}
use Rattle.long_reading.specs.LongHolds.{denominator_digits_of, numerator_digits_of}
use Rattle.long_reading.proofs.Parts.{Parts}

module _ {s : List ℕ} {r : LongSheet} (h : Parts s r) where
  -- D
  module _ (d : List ℕ) (e : d ≡ padded 0 max_levels r.levels (natural_at s r.denominator)) where
    pub levels-room : r.levels ≤ length d
    levels-room = front-there 0 max_levels r.levels _ d e h.most

    pub levels-size : r.levels ≡ length (take r.levels d)
    levels-size = front_length 0 max_levels r.levels _ d e

    pub levels_are : take r.levels d ≡ denominator_digits_of s
    levels_are = front-is 0 max_levels r.levels _ d e ∙ ap₂ (λ (l a : ℕ). table l (natural_at s a)) h.levels h.denominator

  -- the numerators
  abbrev count : ℕ
  count = r.levels * r.edges

  module _ (zeros : List ℤ) (e : zeros ≡ table max_digits (λ _. pos 0)) where
    pub zeros-room : count ≤ length zeros
    zeros-room = omega (arith, h.few, ap length e ∙ length-table max_digits (λ _. pos 0))

    pub zeros-size : count ≡ length (take count zeros)
    zeros-size = sym (length-take-le count zeros zeros-room)

    module _ (front : List ℤ) (f : front ≡ table count (signed_at s r.numerators) ++ drop count (take count zeros)) where
      decoded : take count (front ++ drop count zeros) ≡ table count (signed_at s r.numerators)
      decoded =
          let digits = table count (signed_at s r.numerators) in
          let behind = drop count (take count zeros) in
          ap (λ (l : List ℤ). take count (l ++ drop count zeros)) f ∙ ap (take count) (append_assoc digits behind (drop count zeros))
          ∙ take_at digits (behind ++ drop count zeros) count (length-table count (signed_at s r.numerators))

      pub digits-room : count ≤ length (front ++ drop count zeros)
      digits-room =
          let digits = table count (signed_at s r.numerators) in
          omega (arith, length-append front (drop count zeros), ap length f, length-append digits (drop count (take count zeros)), length-table count (signed_at s r.numerators))

      pub digits-size : count ≡ length (take count (front ++ drop count zeros))
      digits-size = sym (ap length decoded ∙ length-table count (signed_at s r.numerators))

      pub digits_are : take count (front ++ drop count zeros) ≡ numerator_digits_of s
      digits_are = decoded ∙ ap₂ (λ (n a : ℕ). table n (signed_at s a)) (ap₂ ◌*◌ h.levels h.edges) h.numerators

-- what is shown of all that is lent holds of what the records hold, and the other way
pub of-lent : {s : List ℕ} {r : LongSheet} → Parts s r → (d : List ℕ) (digits : List ℤ) → take r.levels d ≡ denominator_digits_of s → take (r.levels * r.edges) digits ≡ numerator_digits_of s
    → (P : ℕ → List ℕ → List ℕ → List ℕ → List ℤ → Type 0)
    → P r.strains (take r.pairs r.distances) (take (r.end - r.parents) (drop r.parents s)) (take r.levels d) (take (r.levels * r.edges) digits)
    → P (strains_of s) (distances_of s) (parents_of s) (denominator_digits_of s) (numerator_digits_of s)
of-lent {s} {r} h d digits e f P p = rw (h.front.strains, h.front.distances, h.front.parents, e, f) at p

pub to-lent : {s : List ℕ} {r : LongSheet} → Parts s r → (P : ℕ → List ℕ → List ℕ → Type 0) → P (strains_of s) (distances_of s) (parents_of s)
    → P r.strains (take r.pairs r.distances) (take (r.end - r.parents) (drop r.parents s))
to-lent {s} {r} h P p = rw (h.front.strains, h.front.distances, h.front.parents) p
