-- The numbers as names: each stands where a walk along the length bytes comes, and is the decimal of its strain. Both are one test over all 64,
-- which the checker computes.
use mathlib.Core.Path.{◌≡◌, refl}
use mathlib.Core.Bool.{Bool, true, false, not, ◌&&◌}
use Prim.Native.Nat.{ℕ, ◌<◌, ◌≤◌}
use borrow.Author.Tests.{not-false, leb-true}
use lib.Dec.{leb}
use lib.ListN.{length, get_or}
use Rattle.matrix.specs.Limits.{max_strains}
use Rattle.verdict.specs.Table.{some}
use Rattle.verdict.proofs.Table.{some-none}
use Rattle.digits.specs.Digits.{same}
use Rattle.digits.proofs.Reading.{both_true}
use Rattle.digits.proofs.Comparing.{same_list_lem}
use Rattle.writing.specs.Text.{digits, decimal}
use Rattle.pieces.specs.Pieces.{pieces_from}
use Rattle.records.specs.Names.{max_name, name_start}
use Rattle.names.specs.Record.{name_of}
use Rattle.labels.specs.Labels.{number_names}

-- name i is the decimal of i, has at most 10 bytes and ends within the bytes
abbrev well : ℕ → Bool
well i = same (name_of number_names 0 i) (decimal i) && (leb (get_or number_names (name_start number_names 0 i) 0) max_name && leb (name_start number_names 0 i) (length number_names))

all-well : some max_strains (λ i. not (well i)) ≡ false
unfolding some same name_of name_start number_names pieces_from digits
all-well = refl

module _ (i : ℕ) (h : i < max_strains) where
  both : (same (name_of number_names 0 i) (decimal i) ≡ true) × (leb (get_or number_names (name_start number_names 0 i) 0) max_name && leb (name_start number_names 0 i) (length number_names) ≡ true)
  both = both_true (same (name_of number_names 0 i) (decimal i)) (leb (get_or number_names (name_start number_names 0 i) 0) max_name && leb (name_start number_names 0 i) (length number_names)) (not-false (well i) (some-none max_strains (λ i. not (well i)) all-well i h))

  pub number-name : name_of number_names 0 i ≡ decimal i
  number-name = same_list_lem (name_of number_names 0 i) (decimal i) both.0

  sizes : (leb (get_or number_names (name_start number_names 0 i) 0) max_name ≡ true) × (leb (name_start number_names 0 i) (length number_names) ≡ true)
  sizes = both_true (leb (get_or number_names (name_start number_names 0 i) 0) max_name) (leb (name_start number_names 0 i) (length number_names)) both.1

  pub number_short : get_or number_names (name_start number_names 0 i) 0 ≤ max_name
  number_short = leb-true (get_or number_names (name_start number_names 0 i) 0) max_name sizes.0

  pub number-within : name_start number_names 0 i ≤ length number_names
  number-within = leb-true (name_start number_names 0 i) (length number_names) sizes.1

-- the last ends with the bytes
pub numbers_end : name_start number_names 0 max_strains ≤ length number_names
unfolding name_start number_names pieces_from digits
numbers_end = leb-true 182 182 refl
