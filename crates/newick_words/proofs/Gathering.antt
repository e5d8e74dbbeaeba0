-- Digits read along a text: where the run has come, and that what is read, with the digits that are left behind it, is the whole number,
-- both cut.
use mathlib.Core.Path.{◌≡◌, refl, sym, ◌∙◌, ap}
use mathlib.Core.Bool.{true, false}
use mathlib.Core.List.{List}
use Prim.Native.Nat.{ℕ, ◌+◌, ◌*◌, ◌≤◌, ◌<◌}
use native.Mathlib.Omega.{arith}
use lib.ListN.{length, get_or, drop, length-drop}
use lib.Seq.{slice}
use Rattle.digits.specs.Digits.{run, is_digit, digit_of, most, at_most, number_from}
use Rattle.digits.proofs.Reading.{RunAt, run-start, run_more, run-stop, run_end, number-turn, number-end}
use Rattle.newick_text.proofs.Runs.{run-within}
use Rattle.newick_words.specs.Words.{DigitsRead}

-- where the digits at a place end
abbrev stop_of : List ℕ → ℕ → ℕ
stop_of s at = at + run is_digit (drop at s)

pub record Gathered (s : List ℕ) (at end all : ℕ) : Type 0 where
  pub gone : RunAt is_digit s at end
  pub small : all ≤ most
  pub left : at_most (number_from all (slice end (stop_of s at) s)) ≡ at_most (number_from 0 (slice at (stop_of s at) s))

module _ (s : List ℕ) (at : ℕ) (h : at ≤ length s) where
  stop-within : stop_of s at ≤ length s
  stop-within = omega (arith, h, run-within is_digit (drop at s), length-drop at s)

  pub gathered_none : Gathered s at at 0
  gathered_none = record { gone = run-start is_digit s at h; small = omega arith; left = refl }

  module _ (end all : ℕ) (g : Gathered s at end all) where
    pub gathered-more : end < length s → is_digit (get_or s end 0) ≡ true → (next : ℕ) → next ≡ at_most (all * 10 + digit_of (get_or s end 0)) → next ≤ most → Gathered s at (end + 1) next
    gathered-more l e next is b =
        let r = run_more is_digit s at end l e g.gone in
        record { gone = r; small = b; left = number-turn s 0 at (stop_of s at) stop-within end all next (omega (arith, r.rest)) is g.left }

    -- the digits end here
    ended : (end ≡ stop_of s at) × (end ≤ length s) → DigitsRead s at (record { end = end; number = all })
    ended w = record {
      stop = w.0;
      within = w.1;
      all = number-end s 0 at (stop_of s at) stop-within end all (omega (arith, w.0)) (omega (arith, w.0)) g.small g.left ∙ ap (λ (k : ℕ). at_most (number_from 0 (slice at k s))) (sym w.0);
      small = g.small;
    }

    pub gathered-stop : end < length s → is_digit (get_or s end 0) ≡ false → DigitsRead s at (record { end = end; number = all })
    gathered-stop l e = ended (run-stop is_digit s at end l e g.gone)

    pub gathered-end : length s ≤ end → DigitsRead s at (record { end = end; number = all })
    gathered-end l = ended (run_end is_digit s at end l g.gone)
