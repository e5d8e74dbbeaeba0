-- The line of a kind is the line (`of-kind`).
use mathlib.Core.Path.{◌≡◌, refl, sym, ◌∙◌, ap}
use mathlib.Core.List.{List}
use Prim.Native.Nat.{ℕ}
use lib.IntN.{ℤ}
use Rattle.desk_text.specs.Meaning.{silent, meaning_of}
use Rattle.desk_text.specs.Fields.{cut}
use Rattle.desk_words.specs.Reads.{words_at}
use Rattle.desk_lines.specs.Lines.{LineIs}
use Rattle.desk_heads.specs.declared.Kind.{Kind}
use Rattle.desk_heads.specs.declared.Head.{Head}
use Rattle.desk_lines.specs.declared.Line.{Line}
use Rattle.desk_lines.specs.declared.Line.TheVariants.{Silent}
use Rattle.std.specs.Prelude.{Option, Some, None}
use Rattle.desk_heads.specs.Heads.{of_kind, HeadRead}

-- the line of a kind is the line
pub of-kind : (s : List ℕ) (r : Head) (k : Kind) (ds ps : List ℕ) (ns : List ℤ) (l : Option Line) → HeadRead s (Some r) → r.kind ≡ k → LineIs (of_kind k (words_at s r.end)) ds ps ns l → LineIs (meaning_of s) ds ps ns l
of-kind s r k ds ps ns l h e i = record { means = i.means ∙ ap cut (sym (h.means ∙ ap (λ (x : Kind). of_kind x (words_at s r.end)) e)); within = i.within }

pub silent-line : {ds ps : List ℕ} {ns : List ℤ} → LineIs silent ds ps ns (Some Silent)
unfolding cut
silent-line = record { means = refl; within = tt }

pub wrong-line : (s ds ps : List ℕ) (ns : List ℤ) → HeadRead s None → LineIs (meaning_of s) ds ps ns None
unfolding cut
wrong-line s ds ps ns h = record { means = ap cut (sym h.means); within = tt }
