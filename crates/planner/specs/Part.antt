-- A part of a lent sheet: not only equal bytes, but the bytes that lie there.
use Rattle.std.specs.Prelude.{◌≡◌, List, ℕ, ◌+◌, ◌-◌, Ok, Err, length, take, drop}
use Rattle.std.specs.Borrow.{Bor}
use Rattle.records.specs.Form.{start_of}
use Rattle.planner.specs.declared.Winner.TheVariants.{First, Second}
use Rattle.planner.specs.Compared.{Choice, Chosen}

-- r is s[from .. to]: in the same block of memory, so many bytes behind the start of s, with the bytes that s has there
pub record Part (s r : Bor (List ℕ)) (from to : ℕ) : Type 0 where
  pub block : r.ref_ptr.0 ≡ s.ref_ptr.0
  pub start : r.ref_ptr.1 ≡ from + s.ref_ptr.1
  pub bytes : r.now ≡ take (to - from) (drop from s.now)

-- the third record of the sheet that was chosen, from its head to the end of the sheet; of a refusal an empty part
abbrev pub Handed : Choice → Bor (List ℕ) → Bor (List ℕ) → Bor (List ℕ) → Type 0
Handed (Err q) s t r = Part s r 0 0
Handed (Ok First) s t r = Part s r (start_of s.now 2) (length s.now)
Handed (Ok Second) s t r = Part t r (start_of t.now 2) (length t.now)

-- which sheet won, 0 or 1; a refusal leaves the number that was there
abbrev pub won_by : Choice → ℕ → ℕ
won_by (Err q) w = w
won_by (Ok First) w = 0
won_by (Ok Second) w = 1

-- one call: the choice, the winner's number after it where w was before, and the part that is handed back
pub record Shorter (s t : Bor (List ℕ)) (w won : ℕ) (r : Bor (List ℕ)) : Type 0 where
  pub choice : Choice
  pub chosen : Chosen s.now t.now choice
  pub winner : won ≡ won_by choice w
  pub part : Handed choice s t r
