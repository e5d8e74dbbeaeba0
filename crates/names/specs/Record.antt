-- The names of a names record (RULES, Names of strains): `s` below are the bytes that they stand in, `from` is where the first begins, with its
-- length byte.
use Rattle.std.specs.Prelude.{◌≡◌, Bool, not, ◌||◌, List, ℕ, ◌+◌, ltb, length, get_or, take, drop, Result, IfOk}
use Rattle.verdict.specs.declared.Place.TheVariants.{Byte}
use Rattle.verdict.specs.declared.Refusal.{Refusal}
use Rattle.verdict.specs.Answer.{Answer, answer_of, test, test_at, ◌or_else◌}
use Rattle.verdict.specs.Table.{some, first}
use Rattle.digits.specs.Digits.{same}
use Rattle.records.specs.Names.{name_start}
use Rattle.records.specs.Form.{head_size, names_kind, end_at, names_at, record_tests}
use Rattle.names.specs.Name.{is_name}

-- name i, counted from 0, without its length byte
unfoldable pub name_of : List ℕ → ℕ → ℕ → List ℕ
name_of s from i = take (get_or s (name_start s from i) 0) (drop (name_start s from i + 1) s)

-- name i is not of the form, or is one of those before it
abbrev pub name_out : List ℕ → ℕ → ℕ → Bool
name_out s from i = not (is_name (name_of s from i)) || some i (λ j. same (name_of s from j) (name_of s from i))

-- 28: of n names one is not of the form or repeated
unfoldable pub names_out : List ℕ → ℕ → ℕ → Bool
names_out s from n = some n (name_out s from)

-- the strain whose name is l, n where none of n strains has it
unfoldable pub place_of : List ℕ → ℕ → ℕ → List ℕ → ℕ
place_of s from n l = first n (λ i. same (name_of s from i) l)

-- ---- a names record that is lent by itself
-- N
abbrev pub record_count : List ℕ → ℕ
record_count s = names_at s 0

-- 2, 3, 4 for the record; 5 for bytes behind it; 28
abbrev pub names_tests : List ℕ → Answer
names_tests s =
    record_tests s 0 names_kind
    or_else test_at 5 (Byte (end_at s 0)) (ltb (end_at s 0) (length s))
    or_else test 28 (names_out s head_size (record_count s))

-- the answer, and where it passes N
pub record NamesAnswer (s : List ℕ) (r : Result ℕ Refusal) : Type 0 where
  pub answer : answer_of r ≡ names_tests s
  pub count : IfOk r (λ n. n ≡ record_count s)
