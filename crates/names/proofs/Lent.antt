-- Where a names record that is lent by itself passes, its names end with it.
use mathlib.Core.Path.{◌≡◌}
use mathlib.Core.List.{List}
use Prim.Native.Nat.{ℕ, ◌≤◌}
use borrow.Author.Tests.{eqb-true, not-false}
use lib.Dec.{eqb}
use lib.ListN.{length}
use Rattle.verdict.specs.Answer.{pass}
use Rattle.records.specs.Names.{name_start}
use Rattle.records.specs.Form.{head_size, names_kind, end_at, record_tests}
use Rattle.records.proofs.InTurn.{record-there, record-counted}
use Rattle.names.specs.Record.{record_count}

module _ (s : List ℕ) where
  -- the names of a record that passes end with it, and so within the bytes
  module _ (z : record_tests s 0 names_kind ≡ pass) where
    pub record-whole : end_at s 0 ≤ length s
    record-whole = record-there s 0 names_kind z

    pub ends_with : name_start s head_size (record_count s) ≡ end_at s 0
    ends_with = let end = name_start s head_size (record_count s) in
        eqb-true end (end_at s 0) (not-false (eqb end (end_at s 0)) (record-counted s 0 names_kind z))
