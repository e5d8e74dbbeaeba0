-- The tests of the two strains and of the distance, one by one.
use mathlib.Core.Path.{◌≡◌, ◌∙◌, ap}
use mathlib.Core.Bool.{true, false, ◌||◌}
use mathlib.Core.Logic.{◌≢◌}
use Prim.Native.Nat.{ℕ, ◌≤◌, ◌<◌}
use borrow.Author.Tests.{ne_eqb, lt-leb, lt-ltb, le-ltb}
use lib.Dec.{eqb, ltb, leb}
use Rattle.verdict.specs.Answer.{Answer, test, ◌or_else◌}
use Rattle.matrix.specs.Limits.{max_distance, missing}
use Rattle.matrix.specs.Place.{known}
use Rattle.matrix.proofs.Looking.{known-measured}

pub behind-24 : (N i j : ℕ) (a : Answer) → i ≢ j → i < N → j < N → a ≡ (test 24 (eqb i j || (leb N i || leb N j)) or_else a)
behind-24 N i j a e hi hj = rw (ne_eqb i j e, lt-leb N i hi, lt-leb N j hj)

pub too_far : (x : ℕ) → x ≢ missing → max_distance < x → ltb max_distance (known x) ≡ true
too_far x h l = ap (ltb max_distance) (known-measured x h) ∙ lt-ltb max_distance x l

pub near-enough : (x : ℕ) → x ≢ missing → x ≤ max_distance → ltb max_distance (known x) ≡ false
near-enough x h l = ap (ltb max_distance) (known-measured x h) ∙ le-ltb max_distance x l
