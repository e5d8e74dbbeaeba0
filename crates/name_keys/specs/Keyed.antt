-- Strains by the keys of their names: `s` are the bytes that n names stand in, `from` is where the first begins.
use Rattle.std.specs.Prelude.{◌≡◌, List, ℕ, ◌≤◌, ◌<◌, length, get_or}
use Rattle.matrix.specs.Limits.{max_strains}
use Rattle.records.specs.Names.{name_start}
use Rattle.names.specs.Name.{keys, key_from}
use Rattle.names.specs.Record.{name_of}

-- a table by keys, in which no strain stands behind another of the same key
pub record Firsts (s : List ℕ) (from n : ℕ) (firsts : List ℕ) : Type 0 where
  pub size : length firsts ≡ keys
  pub low : (j : ℕ) → j < n → get_or firsts (key_from 0 (name_of s from j)) 0 ≤ j

-- such a table, and one of where the names begin
pub record Keyed (s : List ℕ) (from n : ℕ) (firsts starts : List ℕ) : Type 0 where
  pub few : n ≤ max_strains
  pub within : name_start s from n ≤ length s
  pub first : Firsts s from n firsts
  pub begins : (i : ℕ) → i < n → get_or starts i 0 ≡ name_start s from i
