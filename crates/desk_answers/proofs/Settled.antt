-- One possible result: one desk and one meaning have one text on the page, one length and one desk after them (`one_told`).
use mathlib.Core.Path.{◌≡◌, sym, ◌∙◌, ap₂}
use mathlib.Core.List.{List}
use Prim.Native.Nat.{ℕ}
use Rattle.desk_text.specs.Meaning.{Meaning}
use Rattle.desk.specs.declared.Desk.{Desk}
use Rattle.desk.proofs.Settled.{one-held}
use Rattle.desk_answers.specs.Telling.{Responds}
use Rattle.desk_answers.specs.declared.Told.{Told}

pub one_told : (d : Desk) (m : Meaning) (before after after' : List ℕ) (r r' : Told) → Responds d m before after r → Responds d m before after' r' → (after ≡ after') × (r ≡ r')
one_told d m before after after' r r' s t = (
  s.text.buffer ∙ sym t.text.buffer,
  ap₂ (λ (e : Desk) (n : ℕ). record { desk = e; length = n }) (one-held r.desk r'.desk s.held t.held (s.desk ∙ sym t.desk)) (s.text.place ∙ sym t.text.place),
)
