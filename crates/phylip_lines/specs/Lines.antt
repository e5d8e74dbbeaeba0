-- What is read of a line's end and of the count.
use Rattle.std.specs.Prelude.{◌≡◌, List, ℕ, ◌≤◌, eqb, length, drop, Result, Ok, Err, is_err, IfOk}
use Rattle.digits.specs.Digits.{at_most}
use Rattle.phylip_text.specs.Form.{end_bad, next_line, count_size, count_of, behind_count}
use Rattle.phylip_lines.specs.declared.Count.{Count}

-- the place that is told of a line's end: behind it, or, where there is none, where it should stand
abbrev pub end_place : Result ℕ ℕ → ℕ
end_place (Ok k) = k
end_place (Err k) = k

-- of the line at `at`: an error where it does not end, and either way the place where what is not passed begins
pub record EndRead (s : List ℕ) (at : ℕ) (r : Result ℕ ℕ) : Type 0 where
  pub bad-is : is_err r ≡ end_bad (drop at s)
  pub within : end_place r ≤ length s
  pub next-is : drop (end_place r) s ≡ next_line (drop at s)

-- the place that is told of the count: behind it, or, where there is none, where it should stand
abbrev pub count_place : Result Count ℕ → ℕ
count_place (Ok c) = c.end
count_place (Err k) = k

-- of the count: an error where there is none, what it is, and what stands behind it
pub record CountRead (s : List ℕ) (r : Result Count ℕ) : Type 0 where
  pub none_is : is_err r ≡ eqb (count_size s) 0
  pub strains_are : IfOk r (λ c. c.strains ≡ at_most (count_of s))
  pub within : count_place r ≤ length s
  pub behind-is : drop (count_place r) s ≡ behind_count s
