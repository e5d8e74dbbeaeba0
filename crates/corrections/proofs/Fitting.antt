-- A text of a line, or of a refusal, fits the room for one, and the room stays as large as it is.
use mathlib.Core.Path.{◌≡◌, ◌∙◌}
use mathlib.Core.List.{List}
use Prim.Native.Nat.{ℕ, ◌≤◌}
use native.Mathlib.Omega.{arith}
use lib.IntN.{ℤ}
use lib.ListN.{length}
use Rattle.verdict.specs.declared.Place.{Place}
use Rattle.writing.specs.Text.{Wrote}
use Rattle.writing.proofs.Writing.{wrote-length}
use Rattle.lines.specs.Lines.{line, refused_line}
use Rattle.lines.proofs.Sizes.{line-length, refused-widest}

text-fits : {b c text : List ℕ} {k : ℕ} → length b ≡ 128 → length text ≤ 97 → Wrote b c 0 text k → (k ≤ 128) × (length c ≡ 128)
text-fits e h w = (omega (arith, w.place), wrote-length (omega arith) w ∙ e)

pub line-fits : {b c : List ℕ} {k : ℕ} (word : List ℕ) (zs : List ℤ) → length b ≡ 128 → length word ≤ 8 → length zs ≤ 3 → Wrote b c 0 (line word zs) k → (k ≤ 128) × (length c ≡ 128)
line-fits word zs e h l = text-fits e (omega (arith, line-length word zs))

pub refused-fits : {b c : List ℕ} {k : ℕ} (n : ℕ) (p : Place) → length b ≡ 128 → Wrote b c 0 (refused_line n p) k → (k ≤ 128) × (length c ≡ 128)
refused-fits n p e = text-fits e (refused-widest n p)
