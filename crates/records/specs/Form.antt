-- The form of a sheet: records one behind the other, each with a four-byte length of its body, a two-byte kind and the body.
-- 1 matrix: N (2), distances (2 each). 2 tree: N (2), V (2), parents (1 each). 3 lengths: D (4), K (2), numerators (8 each).
-- 5 names: each a length byte and its bytes. A sheet has the first three; one without lengths has the first two, one with names all four.
-- 4 long lengths: L (2), K (2), D's L digits, then L levels of K digits (4 each); they stand in place of the lengths in a long sheet.
use Rattle.std.specs.Prelude.{Bool, cond, not, ◌&&◌, ◌||◌, List, ℕ, zero, suc, ◌+◌, ◌-◌, ◌*◌, eqb, ltb, length}
use Rattle.verdict.specs.declared.Place.TheVariants.{Byte}
use Rattle.verdict.specs.Answer.{Answer, pass, test, test_at, ◌or_else◌}
use Rattle.matrix.specs.Limits.{max_strains, max_pairs}
use Rattle.tree_theory.specs.Limits.{max_edges}
use Rattle.endian.specs.Bytes.{number}
use Rattle.records.specs.Names.{max_name, name_start, name_count}

-- the most records of a sheet: matrix, tree, lengths, names
abbrev pub max_records : ℕ
max_records = 4

-- the bytes of a record's head
abbrev pub head_size : ℕ
head_size = 6

-- the longest sheet without names that can be accepted: three heads, and the bodies of the largest matrix, tree and lengths
abbrev pub max_sheet : ℕ
max_sheet = 3 * head_size + (2 + 2 * max_pairs) + (4 + max_edges) + (6 + 8 * max_edges)

-- the longest with names: one head more, and for each strain a length byte and the longest name
abbrev pub max_named : ℕ
max_named = max_sheet + (head_size + (max_name + 1) * max_strains)

-- the limit of a sheet of so many records
abbrev pub longest : ℕ → ℕ
longest count = cond (ltb 3 count) max_named max_sheet

-- the kind of a names record
abbrev pub names_kind : ℕ
names_kind = 5

-- the kind of long lengths
abbrev pub long_kind : ℕ
long_kind = 4

-- the kind that is due for record k, counted from 0: 1, 2, 3, and names
abbrev pub kind_of : ℕ → ℕ
kind_of k = cond (eqb k 3) names_kind (k + 1)

-- of the record that starts at a place: the length of its body, its kind, where its body starts, and where it ends
abbrev pub size_at : List ℕ → ℕ → ℕ
size_at s at = number 4 s at

abbrev pub kind_at : List ℕ → ℕ → ℕ
kind_at s at = number 2 s (at + 4)

abbrev pub body_at : ℕ → ℕ
body_at at = at + head_size

abbrev pub end_at : List ℕ → ℕ → ℕ
end_at s at = body_at at + size_at s at

-- a body begins with counts: N; N and V; D and K. So many bytes of them:
abbrev pub counts_size : ℕ → ℕ
counts_size kind = 2 * kind

-- the last count, N, V or K, says how much follows
abbrev pub count_at : List ℕ → ℕ → ℕ → ℕ
count_at s at kind = number 2 s (body_at at + (counts_size kind - 2))

-- the length of a body by that count
abbrev pub body_length : ℕ → ℕ → ℕ
body_length kind count =
    cond (eqb kind 1) (2 + count * (count - 1)) (cond (eqb kind 2) (4 + (count - 1)) (6 + 8 * count))

-- 2: fewer than 6 bytes left for the head, or fewer left for the body than its length says
abbrev pub head_cut : List ℕ → ℕ → Bool
head_cut s at = ltb (length s) (body_at at)

abbrev pub body_cut : List ℕ → ℕ → Bool
body_cut s at = ltb (length s) (end_at s at)

-- 4: the body too short for its counts, V = 0, or its length not as the counts say
abbrev pub no_vertices : ℕ → ℕ → Bool
no_vertices kind count = eqb kind 2 && eqb count 0

abbrev pub counts_out : List ℕ → ℕ → ℕ → Bool
counts_out s at kind =
    ltb (size_at s at) (counts_size kind)
    || (no_vertices kind (count_at s at kind) || not (eqb (size_at s at) (body_length kind (count_at s at kind))))

-- of a names record: how many names its body has, and whether the last of them does not end with it
abbrev pub names_at : List ℕ → ℕ → ℕ
names_at s at = name_count s (body_at at) (end_at s at)

abbrev pub names_cut : List ℕ → ℕ → Bool
names_cut s at = not (eqb (name_start s (body_at at) (names_at s at)) (end_at s at))

-- of long lengths: L, K, how long they say that the body is, and whether it is too short for them or of another length
abbrev pub levels_at : List ℕ → ℕ → ℕ
levels_at s at = number 2 s (body_at at)

abbrev pub long_edges_at : List ℕ → ℕ → ℕ
long_edges_at s at = number 2 s (body_at at + 2)

abbrev pub long_length : ℕ → ℕ → ℕ
long_length L K = 4 + 4 * (L * (K + 1))

abbrev pub long_out : List ℕ → ℕ → Bool
long_out s at = ltb (size_at s at) 4 || not (eqb (size_at s at) (long_length (levels_at s at) (long_edges_at s at)))

-- 4 by the kind: names that do not end with the body, or counts that are out
abbrev pub body_out : List ℕ → ℕ → ℕ → Bool
body_out s at kind = cond (eqb kind names_kind) (names_cut s at) (cond (eqb kind long_kind) (long_out s at) (counts_out s at kind))

-- one record: 2 and 3 for its head, then 4, each at the byte where the record starts
abbrev pub record_tests : List ℕ → ℕ → ℕ → Answer
record_tests s at kind =
    test_at 2 (Byte at) (head_cut s at)
    or_else test_at 2 (Byte at) (body_cut s at)
    or_else test_at 3 (Byte at) (not (eqb (kind_at s at) kind))
    or_else test_at 4 (Byte at) (body_out s at kind)

-- where record k starts, counted from 0: behind the one before it
unfoldable pub start_of : List ℕ → ℕ → ℕ
start_of s zero = 0
start_of s (suc k) = end_at s (start_of s k)

-- 2, 3, 4 for the first k records, in turn
unfoldable pub records_tests : List ℕ → ℕ → Answer
records_tests s zero = pass
records_tests s (suc k) = records_tests s k or_else record_tests s (start_of s k) (kind_of k)

-- 4 in a sheet with names, also: the fourth record has not as many names as the matrix has strains
abbrev pub names_differ : ℕ → List ℕ → Bool
names_differ count s = ltb 3 count && not (eqb (names_at s (start_of s 3)) (number 2 s (body_at 0)))

-- the form of a sheet of so many records: 1; 2, 3, 4 for each in turn; 4 for names that are not N; 5 at the first byte behind the last record
abbrev pub form_tests : ℕ → List ℕ → Answer
form_tests count s =
    test 1 (ltb (longest count) (length s))
    or_else records_tests s count
    or_else test_at 4 (Byte (start_of s 3)) (names_differ count s)
    or_else test_at 5 (Byte (start_of s count)) (ltb (start_of s count) (length s))
