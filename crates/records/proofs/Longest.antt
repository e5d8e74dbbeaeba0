-- The longest sheet without names that can be accepted: the largest counts give exactly as many bytes as the form allows. `form-short` of Formed
-- says that no form that stands has more.
use mathlib.Core.Path.{◌≡◌, refl}
use Prim.Native.Nat.{◌+◌, ◌*◌}
use Rattle.matrix.specs.Limits.{max_strains}
use Rattle.tree_theory.specs.Limits.{max_vertices, max_edges}
use Rattle.records.specs.Form.{head_size, max_sheet, max_named, body_length}

-- three heads, and the bodies that 64 strains, 126 vertices and 125 edges have
pub just_so : 3 * head_size + (body_length 1 max_strains + body_length 2 max_vertices + body_length 3 max_edges) ≡ max_sheet
just_so = refl

-- in all
pub bytes : max_sheet ≡ 5187
bytes = refl

-- with names 6 + 11·64 more
pub named-bytes : max_named ≡ 5897
named-bytes = refl
