-- Each place is a word and its number; an edge with a sum has it behind.
use borrow.Author.Rules.{rules}
use mathlib.Core.List.{[], ◌∷◌}
use native.Mathlib.Omega.{arith}
use lib.IntN.{pos}
use mir.Facts.{to_z-of_z}
use mir.Syntax.{w64}
use Rattle.writing.proofs.Writing.{wrote_none}
use Rattle.lines.proofs.Pieces.{wrote-place, wrote-sum}
use Rattle.lines.proofs.Sizes.{fields-length}
use Rattle.lines.proofs.place_fields.Goals as goal

pub put-sum-requires : goal.put-sum-requires
put-sum-requires c = let e = c.in-EdgeSum.e in
    omega (arith, c.named-edge.ensures.place, fields-length (pos e ∷ []))

pub put_signed-requires : goal.put_signed-requires
put_signed-requires c = let e = c.in-EdgeSum.e in
    omega (arith, c.put-sum.ensures.place, c.named-edge.ensures.place, fields-length (pos e ∷ []))

pub returns-in-Nowhere : goal.returns-in-Nowhere
returns-in-Nowhere c = wrote-place _ c.in-Nowhere.is (wrote_none _ _)

pub returns-in-Byte : goal.returns-in-Byte
returns-in-Byte c = wrote-place _ c.in-Byte.is c.named.ensures

pub returns-in-Vertex : goal.returns-in-Vertex
returns-in-Vertex c = wrote-place _ c.in-Vertex.is c.named-in-Vertex.ensures

pub returns-in-Edge : goal.returns-in-Edge
returns-in-Edge c = wrote-place _ c.in-Edge.is c.named-in-Edge.ensures

pub returns-in-EdgeSum : goal.returns-in-EdgeSum
returns-in-EdgeSum c = let z = to_z-of_z {w = w64} {z = c.in-EdgeSum.z} (search rules) in
    wrote-place _ c.in-EdgeSum.is (wrote-sum c.in-EdgeSum.e c.in-EdgeSum.z (omega arith) c.named-edge.ensures c.put-sum.ensures (simp z at c.put_signed.ensures))
