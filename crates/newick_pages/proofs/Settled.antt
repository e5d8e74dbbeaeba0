-- The contract leaves one text and one content of the buffer.
use mathlib.Core.Path.{◌≡◌}
use mathlib.Core.List.{List}
use Prim.Native.Nat.{ℕ}
use Rattle.pages.specs.Texts.{ShownOn}
use Rattle.pages.proofs.Texts.{one-shown}
use Rattle.newick_pages.specs.Texts.{newick_text, newick_page}

pub one_newick_print : (s before after after' : List ℕ) (next next' : ℕ) → ShownOn newick_page (newick_text s) before after next → ShownOn newick_page (newick_text s) before after' next'
    → (next ≡ next') × (after ≡ after')
one_newick_print s before after after' next next' = one-shown newick_page (newick_text s) before after after' next next'
