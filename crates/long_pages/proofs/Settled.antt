-- The contracts of `long_print` and `long_print0` leave one text and one content of the buffer: what two callers find behind a print of the same bytes into the
-- same buffer is equal.
use mathlib.Core.Path.{◌≡◌}
use mathlib.Core.List.{List}
use Prim.Native.Nat.{ℕ}
use Rattle.verdict.specs.declared.Rule.{Rule}
use Rattle.pages.specs.Texts.{ShownOn}
use Rattle.pages.proofs.Texts.{one-shown}
use Rattle.long_lines.specs.LongLines.{long_page_size}
use Rattle.long_prints.specs.LongPrints.{long_text}

pub one-long_print : (rule : Rule) (s before after after' : List ℕ) (next next' : ℕ) → ShownOn long_page_size (long_text rule s) before after next → ShownOn long_page_size (long_text rule s) before after' next' → (next ≡ next') × (after ≡ after')
one-long_print rule s = one-shown long_page_size (long_text rule s)
