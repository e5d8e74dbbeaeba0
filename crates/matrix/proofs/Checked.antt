-- The tests of a matrix all pass exactly where it is proper.
use mathlib.Core.Path.{◌≡◌, sym}
use mathlib.Core.List.{List}
use Prim.Native.Nat.{ℕ}
use borrow.Author.Tests.{le-ltb, ltb-false, eqb-true, not-false}
use lib.Dec.{eqb, ltb}
use lib.ListN.{length, get_or}
use Rattle.verdict.specs.Answer.{pass, test, ◌or_else◌}
use Rattle.verdict.proofs.Answers.{or_else_pass, test-pass, or_none}
use Rattle.verdict.proofs.Table.{some-no, some-none}
use Rattle.matrix.specs.Limits.{min_strains, max_strains, max_distance}
use Rattle.matrix.specs.Place.{pair_count, known}
use Rattle.matrix.specs.Tests.{matrix_tests, count_out, strains_out, distance_out}
use Rattle.matrix.specs.Proper.{Proper}
use Rattle.matrix.proofs.Answered.{is-0}

pub proper→ : (N : ℕ) (ds : List ℕ) → Proper N ds → matrix_tests N ds ≡ pass
proper→ N ds p = sym (is-0 N ds p.whole p.three p.few (some-no _ _ (λ k h. le-ltb _ _ (p.near k h))))

pub →proper : (N : ℕ) (ds : List ℕ) → matrix_tests N ds ≡ pass → Proper N ds
→proper N ds e =
    let (e4, r) = or_else_pass (test 4 (count_out N ds)) (test 6 (strains_out N) or_else test 7 (distance_out ds)) e in
    let (e6, e7) = or_else_pass (test 6 (strains_out N)) (test 7 (distance_out ds)) r in
    let (low, high) = or_none (ltb N min_strains) (ltb max_strains N) (test-pass 6 (strains_out N) e6) in
    record {
      whole = eqb-true (length ds) (pair_count N) (not-false (eqb (length ds) (pair_count N)) (test-pass 4 (count_out N ds) e4));
      three = ltb-false N min_strains low;
      few = ltb-false max_strains N high;
      near = λ k h. ltb-false max_distance (known (get_or ds k 0)) (some-none (length ds) (λ i. ltb max_distance (known (get_or ds i 0))) (test-pass 7 (distance_out ds) e7) k h);
    }
