-- The number of the eight bytes, and the number whose two's complement that is.
use mathlib.Core.Path.{ap, ◌∙◌}
use mir.Facts.{to_z-of_z}
use Rattle.endian.specs.Bytes.{twos}
use mir.Syntax.{w64}
use Rattle.endian.proofs.i64_at.Goals as goal

pub returns : goal.returns
returns c = to_z-of_z {w = w64} (record { sfits = c.signed.type_inv }) ∙ c.signed.ensures ∙ ap twos c.u64_at.ensures
