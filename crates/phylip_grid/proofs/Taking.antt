-- A column's distances stand one behind the other, where place i j says: so the columns, one by one, fill the matrix from the front.
use mathlib.Core.Path.{◌≡◌, refl, sym, ◌∙◌, ap, ap₂}
use mathlib.Core.List.{List}
use Prim.Native.Nat.{ℕ, suc, ◌+◌, ◌≤◌, ◌<◌}
use native.Mathlib.Decide.{ℕ_discrete}
use native.Mathlib.Numerals.{add-one}
use native.Mathlib.Omega.{arith}
use lib.ListN.{length, get_or, set}
use lib.Seq.{get_or-set_same, get_or-set_other}
use Rattle.exact.proofs.Decide.{by_cases}
use Rattle.exact.proofs.Fill.{table_is}
use Rattle.matrix.specs.Place.{pair_count, place, pair_at}
use Rattle.matrix.proofs.Places.{count-more, count_room, at_place}
use Rattle.phylip_text.specs.Form.{distances_read}
use Rattle.phylip_grid.specs.Grid.{grid_at, Filling}

-- ---- a column: those of the strains before i are taken
module _ (grid : List ℕ) (j first : ℕ) (begins : first ≡ pair_count j) where
  pair-here : (i : ℕ) → i < j → grid_at grid i j ≡ grid_at grid (pair_at (first + i)).0 (pair_at (first + i)).1
  unfolding place
  pair-here i h = let p = at_place i j h in
      sym (ap (λ (k : ℕ). grid_at grid (pair_at (k + i)).0 (pair_at (k + i)).1) begins ∙ ap₂ (grid_at grid) p.0 p.1)

  pub column-turn : (i v : ℕ) (ds : List ℕ) → i < j → first + j ≤ length ds → v ≡ grid_at grid i j → Filling grid (first + i) ds → Filling grid (first + (i + 1)) (set ds (first + i) v)
  column-turn i v ds h room e t = λ m l. by_cases (ℕ_discrete m (first + i))
      (λ q. ap (λ (k : ℕ). get_or (set ds (first + i) v) k 0) q ∙ get_or-set_same ds (first + i) v 0 (omega arith) ∙ e ∙ pair-here i h ∙ sym (ap (λ (k : ℕ). grid_at grid (pair_at k).0 (pair_at k).1) q))
      (λ q. get_or-set_other ds (first + i) m v 0 q ∙ t m (omega arith))

-- ---- all: those of the strains before j are taken
pub record TakenAt (grid : List ℕ) (count j first : ℕ) (ds : List ℕ) : Type 0 where
  pub begins : first ≡ pair_count j
  pub size : length ds ≡ count
  pub filling : Filling grid first ds

module _ (grid : List ℕ) (n count : ℕ) (all : count ≡ pair_count n) where
  pub take-start : (ds : List ℕ) → length ds ≡ count → TakenAt grid count 0 0 ds
  take-start ds e = record { begins = refl; size = e; filling = λ m h. absurd (omega arith) }

  module _ {j first : ℕ} {ds : List ℕ} (t : TakenAt grid count j first ds) where
    pub room : j < n → first + j ≤ count
    room more = omega (arith, t.begins, all, count_room n j more)

    pub take-turn : (ds' : List ℕ) → length ds' ≡ length ds → Filling grid (first + j) ds' → TakenAt grid count (j + 1) (first + j) ds'
    take-turn ds' e f = record {
      begins = let q : first + j ≡ pair_count (suc j) = omega (arith, t.begins, count-more j) in q ∙ ap pair_count (sym (add-one j));
      size = e ∙ t.size;
      filling = f;
    }

    pub take-end : j ≡ n → ds ≡ distances_read n (grid_at grid)
    take-end h = table_is 0 (λ k. grid_at grid (pair_at k).0 (pair_at k).1) (pair_count n) ds (t.size ∙ all) (λ k l. t.filling k (omega (arith, t.begins, ap pair_count h)))
