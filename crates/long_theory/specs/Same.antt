-- The same lengths in both forms: what a sheet's answer is as a long sheet's, whose sums are cut off.
use Rattle.std.specs.Prelude.{ℕ, ℤ}
use Rattle.verdict.specs.declared.Place.{Place}
use Rattle.verdict.specs.declared.Place.TheVariants.{Nowhere, Byte, Vertex, Edge, EdgeSum}
use Rattle.verdict.specs.Answer.{Answer, pass, fault}
use Rattle.long_digits.specs.Clamp.{clamp, most}

-- a place with its sum cut off
abbrev pub cut_place : Place → Place
cut_place Nowhere = Nowhere
cut_place (Byte b) = Byte b
cut_place (Vertex v) = Vertex v
cut_place (Edge e) = Edge e
cut_place (EdgeSum e z) = EdgeSum e (clamp most z)

abbrev pub cut_answer : Answer → Answer
cut_answer pass = pass
cut_answer (fault k p) = fault k (cut_place p)
