-- RULES, Names of strains: the names `a` and `B_2`, computed from the bytes of their record; and what is refused of records near it.
use mathlib.Core.Path.{◌≡◌, refl}
use mathlib.Core.List.{List, [], ◌∷◌}
use Prim.Native.Nat.{ℕ}
use Rattle.verdict.specs.declared.Place.TheVariants.{Nowhere, Byte}
use Rattle.verdict.specs.Answer.{pass, fault}
use Rattle.verdict.specs.Table.{some, first, count}
use Rattle.digits.specs.Digits.{run, same}
use Rattle.endian.specs.Bytes.{number}
use Rattle.records.specs.Names.{name_start, name_count}
use Rattle.records.specs.Form.{head_size}
use Rattle.names.specs.Name.{is_name_byte, is_name}
use Rattle.names.specs.Record.{name_of, names_out, place_of, record_count, names_tests}

abbrev pub two_names : List ℕ
two_names = 6 ∷ 0 ∷ 0 ∷ 0 ∷ 5 ∷ 0 ∷ 1 ∷ 97 ∷ 3 ∷ 66 ∷ 95 ∷ 50 ∷ []

pub accepted : (names_tests two_names ≡ pass) × (record_count two_names ≡ 2)
unfolding number name_start name_count name_of names_out is_name is_name_byte run same some count
accepted = (refl, refl)

pub found : (place_of two_names head_size 2 (66 ∷ 95 ∷ 50 ∷ []) ≡ 1) × (place_of two_names head_size 2 (98 ∷ []) ≡ 2)
unfolding name_start name_of place_of same some first
found = (refl, refl)

-- a length byte that is too large, bytes behind the record, a name of no bytes, a name that is repeated
pub refused : (names_tests (2 ∷ 0 ∷ 0 ∷ 0 ∷ 5 ∷ 0 ∷ 2 ∷ 97 ∷ []) ≡ fault 4 (Byte 0))
    × (names_tests (2 ∷ 0 ∷ 0 ∷ 0 ∷ 5 ∷ 0 ∷ 1 ∷ 97 ∷ 98 ∷ []) ≡ fault 5 (Byte 8))
    × (names_tests (1 ∷ 0 ∷ 0 ∷ 0 ∷ 5 ∷ 0 ∷ 0 ∷ []) ≡ fault 28 Nowhere)
    × (names_tests (4 ∷ 0 ∷ 0 ∷ 0 ∷ 5 ∷ 0 ∷ 1 ∷ 97 ∷ 1 ∷ 97 ∷ []) ≡ fault 28 Nowhere)
unfolding number name_start name_count name_of names_out is_name is_name_byte run same some count
refused = (refl, refl, refl, refl)
