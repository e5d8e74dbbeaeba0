-- What a look at every distance keeps from turn to turn.
use mathlib.Core.Path.{◌≡◌, refl, sym, ◌∙◌, ap, ap₂}
use mathlib.Core.Bool.{Bool, true, false, not, ◌&&◌, ◌||◌}
use mathlib.Core.List.{List}
use mathlib.Core.Logic.{◌≢◌}
use Prim.Native.Nat.{ℕ, suc, ◌+◌, ◌<◌, ◌≤◌}
use native.Mathlib.Numerals.{add-one}
use native.Mathlib.Decide.{ℕ_discrete}
use native.Mathlib.Omega.{arith}
use borrow.Author.Tests.{lt-ltb, le-ltb, eq-eqb, ne_eqb}
use lib.Dec.{eqb, ltb}
use lib.ListN.{length, get_or}
use Rattle.exact.proofs.Decide.{by_cases}
use Rattle.verdict.specs.Table.{some}
use Rattle.matrix.specs.Limits.{max_distance, missing}
use Rattle.matrix.specs.Place.{is_measured, known, some_missing}
use Rattle.matrix.specs.Tests.{distance_out}
use Rattle.matrix.specs.Surveys.{Looked}

-- ---- one entry, and the same entry read at k, which is its place
pub is-missing : (x : ℕ) → x ≡ missing → is_measured x ≡ false
is-missing x e = ap not (eq-eqb x missing e)

pub is-measured : (x : ℕ) → x ≢ missing → is_measured x ≡ true
is-measured x n = ap not (ne_eqb x missing n)

pub read-missing : (ds : List ℕ) (k i : ℕ) → k ≡ i → get_or ds k 0 ≡ missing → is_measured (get_or ds i 0) ≡ false
read-missing ds k i e h = is-missing (get_or ds i 0) (ap (λ (t : ℕ). get_or ds t 0) (sym e) ∙ h)

pub read-measured : (ds : List ℕ) (k i : ℕ) → k ≡ i → get_or ds k 0 ≢ missing → is_measured (get_or ds i 0) ≡ true
read-measured ds k i e h = is-measured (get_or ds i 0) (λ z. h (ap (λ (t : ℕ). get_or ds t 0) e ∙ z))

pub known-missing : (x : ℕ) → x ≡ missing → known x ≡ 0
unfolding known
known-missing x e = rw (eq-eqb x missing e)

pub known-measured : (x : ℕ) → x ≢ missing → known x ≡ x
unfolding known
known-measured x n = rw (ne_eqb x missing n)

pub known_of : (x : ℕ) → is_measured x ≡ true → known x ≡ x
unfolding known
known_of x e = rw e

pub known-none : (x : ℕ) → is_measured x ≡ false → known x ≡ 0
unfolding known
known-none x e = rw e

-- ---- of the first k: `out` says whether one is out of range, and `gone` whether one is missing
pub record Looking (ds : List ℕ) (out gone : Bool) (k : ℕ) : Type 0 where
  pub here : k ≤ length ds
  pub out-is : out ≡ some k (λ i. ltb max_distance (known (get_or ds i 0)))
  pub gone-is : gone ≡ some k (λ i. not (is_measured (get_or ds i 0)))

and-false : (b : Bool) → (b && false) ≡ false
and-false true = refl
and-false false = refl

and-true : (b : Bool) → (b && true) ≡ b
and-true true = refl
and-true false = refl

twice : (b : Bool) → b ≡ not (not b)
twice true = refl
twice false = refl

-- above the limit and no mark is above the limit as a known distance
above-is : (x : ℕ) → (ltb max_distance x && not (eqb x missing)) ≡ ltb max_distance (known x)
above-is x = by_cases (ℕ_discrete x missing)
    (λ e. ap (λ (b : Bool). ltb max_distance x && not b) (eq-eqb x missing e) ∙ and-false (ltb max_distance x) ∙ sym (le-ltb max_distance (known x) (omega (arith, known-missing x e))))
    (λ n. ap (λ (b : Bool). ltb max_distance x && not b) (ne_eqb x missing n) ∙ and-true (ltb max_distance x) ∙ ap (ltb max_distance) (sym (known-measured x n)))

module _ (ds : List ℕ) where
  pub look-start : Looking ds false false 0
  unfolding some
  look-start = record { here = omega arith; out-is = refl; gone-is = refl }

  module _ (out gone : Bool) (k : ℕ) (t : Looking ds out gone k) (more : k < length ds) where
    -- one entry more
    next : (out' gone' : Bool) → out' ≡ some k (λ i. ltb max_distance (known (get_or ds i 0))) || ltb max_distance (known (get_or ds k 0))
        → gone' ≡ some k (λ i. not (is_measured (get_or ds i 0))) || not (is_measured (get_or ds k 0)) → Looking ds out' gone' (k + 1)
    unfolding some
    next out' gone' e f = record { here = omega arith; out-is = rw (add-one k) e; gone-is = rw (add-one k) f }

    pub look-turn : (out' gone' : Bool) → out' ≡ out || (ltb max_distance (get_or ds k 0) && not (eqb (get_or ds k 0) missing)) → gone' ≡ gone || eqb (get_or ds k 0) missing
        → Looking ds out' gone' (k + 1)
    look-turn out' gone' e f = next out' gone' (e ∙ ap₂ ◌||◌ t.out-is (above-is (get_or ds k 0))) (f ∙ ap₂ ◌||◌ t.gone-is (twice (eqb (get_or ds k 0) missing)))

  pub look-end : (out gone : Bool) (k : ℕ) → Looking ds out gone k → length ds ≤ k → Looked ds out gone
  look-end out gone k t h = let e : k ≡ length ds = omega (arith, t.here) in record {
    out-is = t.out-is ∙ ap (λ (n : ℕ). some n (λ i. ltb max_distance (known (get_or ds i 0)))) e;
    missing-is = t.gone-is ∙ ap (λ (n : ℕ). some n (λ i. not (is_measured (get_or ds i 0)))) e;
  }
