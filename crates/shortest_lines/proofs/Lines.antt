-- The line of an answer, piece by piece.
use mathlib.Core.Path.{◌≡◌, ap, ap₂}
use mathlib.Core.List.{List, [], ◌∷◌, ◌++◌}
use Prim.Native.Nat.{ℕ, ◌≤◌, ◌<◌}
use native.Mathlib.Omega.{arith}
use lib.IntN.{pos}
use lib.ListN.{length, length-append}
use Rattle.verdict.specs.Answer.{Answer, answer_of}
use Rattle.verdict.specs.declared.Refusal.{Refusal}
use Rattle.std.specs.Prelude.{Result, Ok, Err, IfOk}
use Rattle.writing.specs.Text.{decimal, Wrote}
use Rattle.writing.proofs.Writing.{wrote_then, wrote-length}
use Rattle.lines.specs.Lines.{fields, line}
use Rattle.lines.specs.Page.{widest}
use Rattle.lines.proofs.Pieces.{wrote-named}
use Rattle.lines.proofs.Sizes.{fields-length}
use Rattle.shortest_lines.specs.Answered.{best_word, line_of, line_of_result}

-- best, a space and the number, then the line's end
module _ {b c d e : List ℕ} {i j k : ℕ} (n : ℕ) (room : widest ≤ length b) (p : Wrote b c 0 best_word i) (q : Wrote c d i (32 ∷ []) j) (r : Wrote d e j (decimal n) k) where
  short : length (best_word ++ fields (pos n ∷ [])) ≤ 26
  short = simp length-append (omega (arith, fields-length (pos n ∷ [])))

  named : Wrote b e 0 (best_word ++ fields (pos n ∷ [])) k
  named = wrote-named best_word n (omega (arith, room)) p q r

  pub best_room : k < length e
  best_room = omega (arith, named.place, short, wrote-length (omega (arith, short, room)) named)

  pub best_whole : {f : List ℕ} {m : ℕ} → Wrote e f k (10 ∷ []) m → Wrote b f 0 (line best_word (pos n ∷ [])) m
  best_whole s = wrote_then (omega (arith, short, room)) named s

-- the line of a result is that of its answer, with the number that it has
pub line-is : (r : Result ℕ Refusal) (a : Answer) (n : ℕ) → answer_of r ≡ a → IfOk r (λ k. k ≡ n) → line_of_result r ≡ line_of a n
line-is (Ok k) a n e f = ap₂ line_of e f
line-is (Err q) a n e f = ap (λ (x : Answer). line_of x n) e
