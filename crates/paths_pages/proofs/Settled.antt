-- The contract leaves one text and one content of the buffer.
use mathlib.Core.Path.{◌≡◌}
use mathlib.Core.List.{List}
use Prim.Native.Nat.{ℕ}
use Rattle.pages.specs.Texts.{ShownOn}
use Rattle.pages.proofs.Texts.{one-shown}
use Rattle.pair_lines.specs.Lines.{pairs_page}
use Rattle.paths_pages.specs.Texts.{paths_text}

pub one-paths_print : (s before after after' : List ℕ) (next next' : ℕ) → ShownOn pairs_page (paths_text s) before after next → ShownOn pairs_page (paths_text s) before after' next'
    → (next ≡ next') × (after ≡ after')
one-paths_print s before after after' next next' = one-shown pairs_page (paths_text s) before after after' next next'
