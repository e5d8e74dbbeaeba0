-- What passes was gone through, so the grid and the table hold the text's cells and names, and these go into the buffers.
use mathlib.Core.Path.{◌≡◌, refl, sym, ◌∙◌, ap}
use mathlib.Core.Bool.{Bool, true, false, not, ◌||◌}
use mathlib.Core.List.{List}
use mathlib.Core.Logic.{◌≢◌}
use Prim.Native.Nat.{ℕ, ◌+◌, ◌*◌, ◌/◌, ◌%◌, ◌≤◌, ◌<◌}
use native.Mathlib.Omega.{arith}
use borrow.Author.Tests.{eqb-true, eq-eqb, ne_eqb, not-false}
use lib.Dec.{eqb}
use lib.ListN.{length, get_or, take}
use lib.Seq.{get_or-take, length-take-le}
use Rattle.exact.proofs.Fill.{table_is, table_cong}
use Rattle.verdict.specs.Answer.{Answer, pass, refusal_of, test, ◌or_else◌}
use Rattle.std.specs.Prelude.{Ok, Err}
use Rattle.verdict.specs.declared.Refusal.{Refusal}
use Rattle.verdict.proofs.Answers.{or_none, not_pass}
use Rattle.matrix.specs.Limits.{max_strains}
use Rattle.matrix.specs.Place.{pair_count, pair_at}
use Rattle.matrix.proofs.Places.{place-onto, stands_at}
use Rattle.phylip_text.specs.Form.{name_size, count_of, rows_of, row_text, distances_read, names_read}
use Rattle.phylip_text.specs.Tests.{entries, room_out, read_tests}
use Rattle.phylip_grid.specs.Grid.{grid_at}
use Rattle.phylip_survey.specs.Survey.{Surveyed}
use Rattle.phylip_read.specs.Answers.{ReadAnswer}

-- ---- the room
pub room-first : (n d m p : ℕ) → p ≡ pair_count n → d ≢ p → true ≡ room_out n d m
room-first n d m p e h = sym (ap (λ (b : Bool). not b || not (eqb m (name_size * n))) (ne_eqb d (pair_count n) (λ q. h (q ∙ sym e))))

pub room-second : (n d m p : ℕ) → p ≡ pair_count n → d ≡ p → not (eqb m (name_size * n)) ≡ room_out n d m
room-second n d m p e h = sym (ap (λ (b : Bool). not b || not (eqb m (name_size * n))) (eq-eqb d (pair_count n) (h ∙ e)))

-- ---- the answer
module _ (t db nb : List ℕ) where
  abbrev tests : Answer
  tests = read_tests t (length db) (length nb)

  pub read-refused : (r : Refusal) → refusal_of r ≡ tests → ReadAnswer t db db nb nb (Err r)
  read-refused r a = record {
    answer = a;
    filled = record { read = λ p. absurd (not_pass r (a ∙ p)); kept = λ _. (refl, refl) };
  }

  module _ {grid grid' held held' : List ℕ} where
    pub text-refused : (r : Refusal) → Surveyed t grid grid' held held' (Err r) → refusal_of r ≡ tests
    text-refused r s = ap (λ (a : Answer). a or_else test 15 (room_out (count_of t) (length db) (length nb))) s.answer

    module _ {n : ℕ} (s : Surveyed t grid grid' held held' (Ok n)) where
      -- what is asked of the room
      pub room_told : (b : Bool) → b ≡ room_out n (length db) (length nb) → test 15 b ≡ tests
      room_told b e = ap (test 15) (e ∙ ap (λ (k : ℕ). room_out k (length db) (length nb)) s.held.count-is)
          ∙ ap (λ (a : Answer). a or_else test 15 (room_out (count_of t) (length db) (length nb))) s.answer

      module _ (in_room : room_out n (length db) (length nb) ≡ false) where
        passed : tests ≡ pass
        passed = sym (room_told false (sym in_room))

        -- the room is as it must be
        rooms : (not (eqb (length db) (pair_count n)) ≡ false) × (not (eqb (length nb) (name_size * n)) ≡ false)
        rooms = or_none (not (eqb (length db) (pair_count n))) (not (eqb (length nb) (name_size * n))) in_room

        pub distances_room : length db ≡ pair_count n
        distances_room = eqb-true (length db) (pair_count n) (not-false _ rooms.0)

        pub names-room : length nb ≡ name_size * n
        names-room = eqb-true (length nb) (name_size * n) (not-false _ rooms.1)

        pub names-within : length held ≡ name_size * max_strains → length nb ≤ length held'
        names-within l = omega (arith, names-room, s.few, s.names-size)

        distances_are : distances_read n (grid_at grid') ≡ distances_read (count_of t) (entries t)
        distances_are = table_cong 0 (pair_count n) (λ k. grid_at grid' (pair_at k).0 (pair_at k).1) (λ k. entries t (pair_at k).0 (pair_at k).1)
            (λ k h. let up : (pair_at k).1 < n = place-onto n k h in let low : (pair_at k).0 < n = omega (arith, (stands_at k).rising) in
            s.held.cells (pair_at k).0 (pair_at k).1 low up)
            ∙ ap (λ (k : ℕ). distances_read k (entries t)) s.held.count-is

        names_are : length held ≡ name_size * max_strains → take (length nb) held' ≡ names_read (count_of t) (rows_of t)
        names_are l = table_is 0 (λ k. get_or (row_text n (rows_of t) (k / name_size)) (k % name_size) 0) (name_size * n) (take (length nb) held')
            (length-take-le (length nb) held' (names-within l) ∙ names-room)
            (λ k h. let q : k ≡ name_size * (k / name_size) + k % name_size = omega arith in
            get_or-take (length nb) held' k 0 (omega (arith, names-room)) ∙ ap (λ (m : ℕ). get_or held' m 0) q ∙ s.held.named (k / name_size) (k % name_size) (omega arith) (omega arith))
            ∙ ap (λ (k : ℕ). names_read k (rows_of t)) s.held.count-is

        pub read-filled : {da na : List ℕ} → length held ≡ name_size * max_strains → da ≡ distances_read n (grid_at grid') → na ≡ take (length nb) held'
            → ReadAnswer t db da nb na (Ok tt)
        read-filled l ed en = record {
          answer = sym passed;
          filled = record {
            read = λ _. record {
              distances_are = ed ∙ distances_are;
              names_are = en ∙ names_are l;
            };
            kept = λ no. absurd (no passed);
          };
        }
