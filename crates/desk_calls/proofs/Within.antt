-- A text that was written ends within its buffer.
use mathlib.Core.Path.{◌≡◌}
use mathlib.Core.List.{List}
use Prim.Native.Nat.{ℕ, ◌≤◌}
use native.Mathlib.Omega.{arith}
use lib.ListN.{length}
use Rattle.verdict.specs.declared.Place.{Place}
use Rattle.writing.specs.Text.{Wrote}
use Rattle.writing.proofs.Writing.{wrote-length}
use Rattle.lines.specs.Lines.{refused_line}
use Rattle.lines.specs.Page.{page_size}
use Rattle.lines.proofs.Sizes.{refused-length}

pub fits : (b c t : List ℕ) (next : ℕ) → Wrote b c 0 t next → length t ≤ length b → (next ≤ length c) × (length c ≡ length b)
fits b c t next w h = let e = wrote-length {b = b} {c = c} {at = 0} {m = next} {s = t} (omega arith) w in (omega (arith, w.place, e), e)

pub refused-fits : (b c : List ℕ) (k : ℕ) (p : Place) (next : ℕ) → Wrote b c 0 (refused_line k p) next → page_size ≤ length b → (next ≤ length c) × (length c ≡ length b)
refused-fits b c k p next w h = fits b c (refused_line k p) next w (omega (arith, refused-length k p))
