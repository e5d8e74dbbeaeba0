-- A number of 64 bits shows as it does in the report.
use mir.Facts.{to_z-of_z}
use Rattle.long_fields.proofs.Numbers.{short-wrote}
use Rattle.long_fields.proofs.short_field.Goals as goal

pub returns : goal.returns
returns c = short-wrote c.args.z c.ranges.z c.requires c.put-number.ensures (simp (to_z-of_z c.ranges.z) at c.put_signed.ensures)
