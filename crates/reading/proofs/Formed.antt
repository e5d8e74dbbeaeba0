-- What a sheet of the form tells: where its matrix and its tree stand, and where its lengths do.
use mathlib.Core.Path.{◌≡◌}
use mathlib.Core.List.{List}
use Prim.Native.Nat.{ℕ, ◌+◌, ◌*◌, ◌≤◌}
use native.Mathlib.Omega.{arith}
use lib.ListN.{length}
use Rattle.verdict.specs.Answer.{pass}
use Rattle.endian.specs.Bytes.{number}
use Rattle.records.specs.Form.{max_named, start_of, form_tests}
use Rattle.records.proofs.Formed.{form_bounded, form_records, record-ends, record-long}
use Rattle.front.proofs.Formed as front
pub use Rattle.front.proofs.Formed.{Fronted, parents-start, parents-count}

module _ (count : ℕ) (s : List ℕ) (z : form_tests count s ≡ pass) where
  pub fronted : 2 ≤ count → (t l : ℕ) → t ≡ start_of s 1 → l ≡ start_of s 2 → Fronted s t l
  fronted h t l e f = front.fronted count s h (form_records count s z) t l e f

  -- the lengths, which start at l
  pub lengths-end : 3 ≤ count → (l : ℕ) → l ≡ start_of s 2 → (l + 12 + 8 * number 2 s (l + 6 + 4) ≤ length s) × (length s ≤ max_named)
  lengths-end h l e = rw e (omega (arith, record-long count s z 2 (omega arith) (omega arith), record-ends count s z 2 (omega arith)), form_bounded count s z)
