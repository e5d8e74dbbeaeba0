-- Of two masks that meet, either may be gone through strain by strain. The idea: the remainder of a pair does not ask which strain is named
-- first, and two sums change places.
use Rattle.std.proofs.Common.{◌≡◌, ℕ, ◌+◌, ◌*◌, ◌^◌, ◌<◌, ◌≤◌, true, cond, List, [], ◌∷◌, get_or, ℤ, pos, ◌+ℤ◌, ◌-ℤ◌, ◌*ℤ◌, nat_abs, sym, ap, ◌∙◌, subst, subst₂, mul_comm, arith}
use lib.Count.{ones}
use Rattle.exact.specs.Sum.{ind}
use Rattle.exact.specs.Table.{entry_of}
use Rattle.exact.proofs.Quote.{by-ring, quote}
use Rattle.exact.proofs.Sum.{sum_cong, sum-*, sum_swap}
use Rattle.matrix.specs.Limits.{max_strains}
use Rattle.matrix.specs.Place.{is_measured, known, measured_of, distance_of}
use Rattle.matrix.proofs.Places.{pair-place-sym}
use Rattle.tree_theory.specs.Limits.{max_vertices}
use Rattle.tree_theory.specs.Cluster.{bit_at}
use Rattle.tree_theory.proofs.Chains.{bit}
use Rattle.meeting.specs.Shares.{under, mass}
use Rattle.meeting.specs.Meeting.{largest_remainder, pair_mass, Apart, Met, over, remainder_by_ways}
use Rattle.meeting.proofs.Masked.{over_cong}

less-less : (z a b : ℤ) → z -ℤ a -ℤ b ≡ z -ℤ b -ℤ a
less-less z a b = by-ring (z ∷ a ∷ b ∷ []) (search quote depth 20) tt

by_ways_sym : (D : ℕ) (ds : List ℕ) (ways : List ℤ) (i j : ℕ) → remainder_by_ways D ds ways i j ≡ remainder_by_ways D ds ways j i
unfolding remainder_by_ways
by_ways_sym D ds ways i j =
    ap (λ (k : ℕ). cond (is_measured (get_or ds k 0)) (pos D *ℤ pos (known (get_or ds k 0)) -ℤ entry_of ways i -ℤ entry_of ways j) (pos 0)) (pair-place-sym i j)
    ∙ ap (λ (z : ℤ). cond (measured_of ds j i) z (pos 0)) (less-less (pos D *ℤ distance_of ds j i) (entry_of ways i) (entry_of ways j))

pub over_swap : (a b : ℕ) (f : ℕ → ℕ → ℤ) → over a (λ j. over b (λ i. f i j)) ≡ over b (λ i. over a (λ j. f i j))
unfolding over
over_swap a b f =
    sum_cong max_strains (λ j _. sym (sum-* max_strains (ind (bit_at a j)) (λ i. ind (bit_at b i) *ℤ f i j)))
    ∙ sum_swap max_strains max_strains (λ j i. ind (bit_at a j) *ℤ (ind (bit_at b i) *ℤ f i j))
    ∙ sum_cong max_strains (λ i _. sum_cong max_strains (λ j _. by-ring (ind (bit_at a j) ∷ ind (bit_at b i) ∷ f i j ∷ []) (search quote depth 20) tt)
    ∙ sum-* max_strains (ind (bit_at b i)) (λ j. ind (bit_at a j) *ℤ f i j))

pub swap_apart : {N D : ℕ} {ds : List ℕ} {ways : List ℤ} {here there : ℕ} → ((j : ℕ) → bit_at here j ≡ true → Apart N D ds ways there j) → (i : ℕ) → bit_at there i ≡ true → Apart N D ds ways here i
swap_apart {N} {D} {ds} {ways} apart i h = record {
  strains = λ j g. let s = (apart j g).strains i h in (s.1, s.0, λ e. s.2 (sym e));
  near = λ j g. subst (λ (z : ℤ). nat_abs z ≤ largest_remainder) (by_ways_sym D ds ways i j) ((apart j g).near i h);
}

pub swap_room : (here there : ℕ) (old : List ℤ) → mass max_vertices old + pair_mass * (ones here * ones there) < 2 ^ 63 → mass max_vertices old + pair_mass * (ones there * ones here) < 2 ^ 63
swap_room here there old h = omega (arith, h, mul_comm (ones here) (ones there))

pub swap_met : {D : ℕ} {ds : List ℕ} {ways : List ℤ} {here there m : ℕ} {old new : List ℤ} → Met D ds ways there here m old new → Met D ds ways here there m old new
swap_met {D} {ds} {ways} {here} {there} {m} {old} {new} w = record {
  size = w.size;
  more = omega (arith, w.more, mul_comm (ones here) (ones there));
  entries = λ par v. w.entries par v ∙ ap (λ (z : ℤ). under par old v +ℤ z) (same par v);
}
  where
    share : (ℕ → ℕ) → ℕ → ℕ → ℕ → ℤ
    share par v i j = (bit par v i +ℤ bit par v j -ℤ pos 2 *ℤ bit par v m) *ℤ remainder_by_ways D ds ways i j

    same : (par : ℕ → ℕ) (v : ℕ) → over there (λ j. over here (λ i. share par v i j)) ≡ over here (λ j. over there (λ i. share par v i j))
    same par v = over_swap there here (share par v)
        ∙ over_cong here (λ i. over there (λ j. share par v i j)) (λ i. over there (λ j. share par v j i))
        (λ i _. over_cong there (λ j. share par v i j) (λ j. share par v j i)
        (λ j _. ap (λ (z : ℤ). (bit par v i +ℤ bit par v j -ℤ pos 2 *ℤ bit par v m) *ℤ z) (by_ways_sym D ds ways i j)
        ∙ by-ring (bit par v i ∷ bit par v j ∷ bit par v m ∷ remainder_by_ways D ds ways j i ∷ []) (search quote depth 20) tt))

-- which of them was gone through
pub as_named : {D : ℕ} {ds : List ℕ} {ways : List ℤ} {here there each others m : ℕ} {old new : List ℤ} → each ≡ here → others ≡ there → Met D ds ways each others m old new → Met D ds ways here there m old new
as_named {D} {ds} {ways} {here} {there} {each} {others} {m} {old} {new} e f w = subst₂ (λ (a b : ℕ). Met D ds ways a b m old new) e f w
