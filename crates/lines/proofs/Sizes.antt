-- A signed number has at most 21 bytes, so each field has at most 22, a line of at most four at most 97, and the whole print is far below a page.
use mathlib.Core.List.{List, [], ◌∷◌}
use Prim.Native.Nat.{ℕ, zero, suc, ◌+◌, ◌*◌, ◌<◌, ◌≤◌}
use native.Mathlib.Numerals.{add-one}
use native.Mathlib.Omega.{arith}
use lib.IntN.{ℤ, pos}
use lib.ListN.{length, length-append}
use Rattle.verdict.specs.declared.Place.{Place}
use Rattle.verdict.specs.declared.Place.TheVariants.{Nowhere, Byte, Vertex, Edge, EdgeSum}
use Rattle.verdict.specs.declared.Rule.{Rule}
use Rattle.verdict.specs.declared.Rule.TheVariants.{Plain, Drawable}
use Rattle.mean.specs.Mean.{Mean}
use Rattle.std.specs.Prelude.{Some, None}
use Rattle.tree_theory.specs.Limits.{max_edges}
use Rattle.writing.specs.Text.{Wrote}
use Rattle.writing.proofs.Writing.{wrote_then}
use Rattle.writing.proofs.Decimals.{signed-length}
use Rattle.lines.specs.Lines.{fields, line, edge_word, edge_lines, place_fields, refused_line, fit_word, mean_line, fit_text, resolved_text, fields_by, fit_text_by, edge_lines_by}
use Rattle.lines.specs.Page.{page_size, widest}

pub fields-length : (zs : List ℤ) → length (fields zs) ≤ 22 * length zs
unfolding fields_by
fields-length [] = omega arith
fields-length (z ∷ zs) = simp length-append (omega (arith, signed-length z, fields-length zs))

pub line-length : (word : List ℕ) (zs : List ℤ) → length (line word zs) ≤ length word + 22 * length zs + 1
line-length word zs = simp length-append (omega (arith, fields-length zs))

pub edges-length : (k : ℕ) (row : ℕ → List ℤ) → ((v : ℕ) → length (row v) ≤ 3) → length (edge_lines k row) ≤ widest * k
unfolding edge_lines_by
edges-length zero row h = omega arith
edges-length (suc k) row h = simp length-append (omega (arith, edges-length k row h, line-length edge_word (pos k ∷ row k), h k, fields-length (pos k ∷ row k)))

-- where the lines of the first v edges end, at the latest
pub edges-end : (b c : List ℕ) (at i v : ℕ) (row : ℕ → List ℤ) → ((u : ℕ) → length (row u) ≤ 3) → Wrote b c at (edge_lines v row) i → i ≤ at + widest * v
edges-end b c at i v row h w = omega (arith, w.place, edges-length v row h)

-- one edge's line more
pub edges_more : (b : List ℕ) (at : ℕ) (row : ℕ → List ℤ) → ((u : ℕ) → length (row u) ≤ 3) → (k v : ℕ) → v < k → at + widest * k ≤ length b
    → {c d : List ℕ} {i j : ℕ} → Wrote b c at (edge_lines v row) i → Wrote c d i (line edge_word (pos v ∷ row v)) j → Wrote b d at (edge_lines (v + 1) row) j
unfolding edge_lines_by
edges_more b at row h k v l room p q = rw (add-one v) (wrote_then (omega (arith, edges-length v row h)) p q)

pub place-length : (p : Place) → length (place_fields p) ≤ 51
place-length Nowhere = omega arith
place-length (Byte b) = omega (arith, fields-length (pos b ∷ []))
place-length (Vertex v) = omega (arith, fields-length (pos v ∷ []))
place-length (Edge e) = omega (arith, fields-length (pos e ∷ []))
place-length (EdgeSum e z) = omega (arith, fields-length (pos e ∷ z ∷ []))

-- the line of a refusal is below the widest
pub refused-widest : (k : ℕ) (p : Place) → length (refused_line k p) ≤ widest
refused-widest k p = simp length-append (omega (arith, fields-length (pos k ∷ []), place-length p))

pub refused-length : (k : ℕ) (p : Place) → length (refused_line k p) ≤ page_size
refused-length k p = omega (arith, refused-widest k p)

mean-length : (F : ℤ) (mean : Mean) → length (mean_line F mean) ≤ widest
mean-length F None = simp length-append (omega (arith, fields-length []))
mean-length F (Some d) = simp length-append (omega (arith, fields-length (F ∷ d ∷ [])))

pub word-length : (rule : Rule) → length (fit_word rule) ≤ 4
word-length Plain = omega arith
word-length Drawable = omega arith

pub text-length : (rule : Rule) (N K D : ℕ) (n m : ℕ → ℤ) (t F R H : ℤ) (mean : Mean) → K ≤ max_edges → length (fit_text rule N K D n m t F R H mean) ≤ page_size
unfolding fit_text_by
text-length rule N K D n m t F R H mean small = simp length-append (omega (
  arith,
  word-length rule,
  fields-length (pos N ∷ pos K ∷ pos D ∷ []),
  edges-length K (λ v. n v ∷ m v ∷ []) (λ v. omega arith),
  fields-length (t ∷ []),
  fields-length (F ∷ R ∷ H ∷ []),
  mean-length F mean,
))

pub resolved-text-length : (N K : ℕ) (n : ℕ → ℤ) (d : ℕ → ℕ) (m : ℕ → ℤ) (R H : ℤ) → K ≤ max_edges → length (resolved_text N K n d m R H) ≤ page_size
unfolding resolved_text
resolved-text-length N K n d m R H small = simp length-append (omega (
  arith,
  fields-length (pos N ∷ pos K ∷ []),
  edges-length K (λ v. n v ∷ pos (d v) ∷ m v ∷ []) (λ v. omega arith),
  fields-length (R ∷ H ∷ []),
))
