-- How long the text of a matrix is at the most: a cell has at most 7 bytes, so a row of at most 64 has at most 459, and 64 of them fit a
-- buffer of 65,536 bytes by far.
use Prim.Native.Nat.{ℕ, ◌+◌, ◌*◌, ◌≤◌}
use mathlib.Core.List.{List}
use native.Mathlib.Decide.{ℕ_discrete}
use native.Mathlib.Omega.{arith}
use borrow.Author.Tests.{eq-eqb, ne_eqb}
use lib.ListN.{length, get_or, length-append}
use Rattle.exact.proofs.Decide.{by_cases}
use Rattle.exact.proofs.Fill.{length-table}
use Rattle.matrix.specs.Limits.{max_strains, missing}
use Rattle.writing.proofs.Decimals.{decimal-length}
use Rattle.pieces.specs.Pieces.{pieces}
use Rattle.pieces.proofs.Pieces.{pieces-length}
use Rattle.phylip_text.specs.Form.{name_size}
use Rattle.phylip_text.specs.Text.{widest_row, widest_text, cell_written, value_at, name_written, row_written, text_of}

pub cell_long : (e : ℕ) → length (cell_written e) ≤ 7
unfolding cell_written
cell_long e = by_cases (ℕ_discrete e missing) (λ h. rw (eq-eqb e missing h) (omega arith)) (λ h. rw (ne_eqb e missing h) (omega arith))

pub name-long : (names : List ℕ) (i : ℕ) → length (name_written names i) ≤ name_size
name-long names i = omega (arith, length-table name_size (λ k. get_or names (name_size * i + k) 0))

pub cells-long : (ds : List ℕ) (i j : ℕ) → length (pieces j (λ k. cell_written (value_at ds i k))) ≤ 7 * j
cells-long ds i j = pieces-length 7 0 j (λ k. cell_written (value_at ds i k)) (λ k. cell_long (value_at ds i k))

pub row-long : (N : ℕ) (ds names : List ℕ) (i : ℕ) → N ≤ max_strains → length (row_written N ds names i) ≤ widest_row
unfolding row_written
row-long N ds names i few = simp length-append (omega (arith, name-long names i, cells-long ds i N))

pub rows_long : (N : ℕ) (ds names : List ℕ) (i : ℕ) → N ≤ max_strains → length (pieces i (row_written N ds names)) ≤ widest_row * i
rows_long N ds names i few = pieces-length widest_row 0 i (row_written N ds names) (λ k. row-long N ds names k few)

pub text-length : (N : ℕ) (ds names : List ℕ) → N ≤ max_strains → length (text_of N ds names) ≤ widest_text
unfolding text_of
text-length N ds names few = simp length-append (omega (arith, decimal-length N, rows_long N ds names N few))
