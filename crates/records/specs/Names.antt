-- Names one behind the other (RULES, Names of strains): each is a length byte and as many bytes.
use Rattle.std.specs.Prelude.{List, ℕ, zero, suc, ◌+◌, ◌-◌, ltb, get_or}
use Rattle.verdict.specs.Table.{count}

-- the most bytes of a name
abbrev pub max_name : ℕ
max_name = 10

-- where name i begins, counted from 0, with its length byte: the first at `from`, each other behind the one before it
unfoldable pub name_start : List ℕ → ℕ → ℕ → ℕ
name_start s from zero = from
name_start s from (suc i) = name_start s from i + 1 + get_or s (name_start s from i) 0

-- how many names begin before `to`
unfoldable pub name_count : List ℕ → ℕ → ℕ → ℕ
name_count s from to = count (to - from) (λ i. ltb (name_start s from i) to)
