-- For a caller of `read_front`: what its parts are, where it accepts. The matrix stands at the front of the lent table, the parents are a part of
-- the bytes.
use mathlib.Core.Path.{◌≡◌, refl, sym, ap, ap₂, ◌∙◌}
use mathlib.Core.List.{List}
use Prim.Native.Nat.{ℕ, ◌-◌, ◌≤◌}
use native.Mathlib.Omega.{arith}
use lib.ListN.{length, take, drop}
use Rattle.exact.specs.Table.{table, padded}
use Rattle.exact.proofs.Fill.{length-table}
use Rattle.verdict.specs.Answer.{pass}
use Rattle.matrix.specs.Limits.{max_pairs}
use Rattle.matrix.proofs.Places.{pairs-few}
use Rattle.fit_theory.specs.Stands.{Shaped}
use Rattle.records.specs.Form.{start_of, records_tests}
use Rattle.records.proofs.Decoding.{front-is, front_length, front-there}
use Rattle.front.specs.declared.Front.{Front}
use Rattle.front.specs.Holds.{strains_of, distance_at, distances_of, vertices_of, parents_of}
use Rattle.front.specs.Tests.{pair_tests}
use Rattle.front.specs.Reads.{FrontHeld}
use Rattle.front.proofs.Formed.{Fronted, fronted, parents-start, parents-count, parents_are}
use Rattle.front.proofs.Answered.{pair-shaped}

pub record Parts (s ds : List ℕ) (r : Front) : Type 0 where
  pub shaped : Shaped (strains_of s) (distances_of s) (parents_of s)
  pub strains : r.strains ≡ strains_of s
  pub room : r.pairs ≤ length ds
  pub size : r.pairs ≡ length (take r.pairs ds)
  pub distances : take r.pairs ds ≡ distances_of s
  pub starts : r.parents ≤ r.end
  pub ends : r.end ≤ length s
  pub parents : take (r.end - r.parents) (drop r.parents s) ≡ parents_of s
  pub count : r.end - r.parents ≡ length (parents_of s)

module _ (count : ℕ) (s : List ℕ) (w : records_tests s 2 ≡ pass) (z : pair_tests count s ≡ pass) (ds : List ℕ) (r : Front) (h : FrontHeld s ds r) where
  here : Fronted s (start_of s 1) (start_of s 2)
  here = fronted 2 s (omega arith) w (start_of s 1) (start_of s 2) refl refl

  shaped : Shaped (strains_of s) (distances_of s) (parents_of s)
  shaped = pair-shaped count s z

  kept : ds ≡ padded 0 max_pairs r.pairs (distance_at s)
  kept = h.distances ∙ ap (λ (k : ℕ). padded 0 max_pairs k (distance_at s)) (sym h.pairs)

  edge_count : r.end - r.parents ≡ vertices_of s - 1
  edge_count = ap₂ ◌-◌ h.end h.parents ∙ parents-count here

  pub parts : Parts s ds r
  parts = record {
    shaped = shaped;
    strains = h.strains;
    room = front-there 0 max_pairs r.pairs (distance_at s) ds kept (omega (arith, h.pairs, pairs-few (strains_of s) shaped.matrix.few));
    size = front_length 0 max_pairs r.pairs (distance_at s) ds kept;
    distances = front-is 0 max_pairs r.pairs (distance_at s) ds kept ∙ ap (λ (k : ℕ). table k (distance_at s)) h.pairs;
    starts = rw (h.parents, h.end) (parents-start here);
    ends = rw h.end here.there;
    parents = ap₂ (λ (a e : ℕ). take (e - a) (drop a s)) h.parents h.end ∙ parents_are here;
    count = edge_count ∙ sym (length-table (vertices_of s - 1) _);
  }
