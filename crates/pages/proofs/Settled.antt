-- The contracts leave one text and one content of the buffer: what two callers find behind a print of the same bytes into the same
-- buffer is equal. `one-sheet_print` for `sheet_print` and `sheet_print0`, `one-unfitted_print` for `unfitted_print`.
use mathlib.Core.Path.{◌≡◌}
use mathlib.Core.List.{List}
use Prim.Native.Nat.{ℕ}
use Rattle.verdict.specs.declared.Rule.{Rule}
use Rattle.pages.specs.Texts.{sheet_text, unfitted_text, Shown}
use Rattle.lines.specs.Page.{page_size}
use Rattle.pages.proofs.Texts.{one-shown}

module _ (s before after after' : List ℕ) (next next' : ℕ) where
  pub one-sheet_print : (rule : Rule) → Shown (sheet_text rule s) before after next → Shown (sheet_text rule s) before after' next' → (next ≡ next') × (after ≡ after')
  one-sheet_print rule = one-shown page_size (sheet_text rule s) before after after' next next'

  pub one-unfitted_print : Shown (unfitted_text s) before after next → Shown (unfitted_text s) before after' next' → (next ≡ next') × (after ≡ after')
  one-unfitted_print = one-shown page_size (unfitted_text s) before after after' next next'
