-- RULES, Which of two trees is shorter, "A run": how a run of bytes falls into lengths and sheets, by what came of each read.
use Rattle.std.specs.Prelude.{cond, List, ℕ, eqb, ltb, Result, Ok, Err}
use Rattle.endian.specs.Bytes.{number}
use Rattle.shortest.specs.declared.Came.{Came}
use Rattle.shortest.specs.declared.Came.TheVariants.{Whole, Cut, Failed}
use Rattle.shortest.specs.declared.Lead.{Lead}
use Rattle.shortest.specs.declared.Lead.TheVariants.{End, Broken, Length}

-- of so many bytes that were due: a failed read is no end of the input, and fewer bytes are a cut
abbrev pub came_of : Result ℕ ℕ → ℕ → Came
came_of (Err before) due = Failed
came_of (Ok count) due = cond (ltb count due) Cut Whole

-- of the four bytes of a length: nothing at all, or a failed read, ends the run; fewer than four are a cut; the lowest byte comes first
abbrev pub lead_of : Result ℕ ℕ → List ℕ → Lead
lead_of (Err before) lead = End
lead_of (Ok count) lead = cond (eqb count 0) End (cond (ltb count 4) Broken (Length (number 4 lead 0)))
