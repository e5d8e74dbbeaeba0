-- The contract leaves one result: it gives the next place and the whole buffer as expressions of what was there before.
use mathlib.Core.Path.{◌≡◌, sym, ◌∙◌}
use mathlib.Core.List.{List}
use Prim.Native.Nat.{ℕ}
use Rattle.writing.specs.Text.{Wrote}

pub settled : {before after after' : List ℕ} {at next next' : ℕ} {text : List ℕ} → Wrote before after at text next → Wrote before after' at text next'
    → (next ≡ next') × (after ≡ after')
settled p q = (p.place ∙ sym q.place, p.buffer ∙ sym q.buffer)
