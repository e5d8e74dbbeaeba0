-- What is written within a long page is shown.
use mathlib.Core.List.{List}
use Prim.Native.Nat.{ℕ, ◌≤◌}
use native.Mathlib.Omega.{arith}
use lib.ListN.{length}
use Rattle.writing.specs.Text.{Wrote}
use Rattle.writing.proofs.Writing.{wrote-within}
use Rattle.pages.specs.Texts.{ShownOn}
use Rattle.long_lines.specs.LongLines.{long_page_size}

pub long_page : {text before after : List ℕ} {next : ℕ} → long_page_size ≤ length before → Wrote before after 0 text next → ShownOn long_page_size text before after next
long_page {text} {before} {after} {next} h w = record { written = λ _. w; short = λ l. absurd (omega arith); within = wrote-within w }
