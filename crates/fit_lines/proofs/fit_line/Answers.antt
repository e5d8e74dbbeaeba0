-- Each rule has its word.
use mathlib.Core.Path.{◌≡◌, sym, subst}
use mathlib.Core.List.{List, [], ◌∷◌}
use Prim.Native.Nat.{ℕ}
use native.Mathlib.Omega.{arith}
use lib.IntN.{ℤ, pos}
use Rattle.exact.proofs.Sign.{back-pos}
use Rattle.verdict.specs.declared.Rule.{Rule}
use Rattle.writing.specs.Text.{Wrote}
use Rattle.lines.specs.Lines.{line, fit_word}
use Rattle.fit_lines.proofs.fit_line.Goals as goal

by_rule : {b c : List ℕ} {k : ℕ} (own rule : Rule) (zs : List ℤ) → own ≡ rule → Wrote b c 0 (line (fit_word rule) zs) k → Wrote b c 0 (line (fit_word own) zs) k
by_rule {b} {c} {k} own rule zs e w = subst (λ (x : Rule). Wrote b c 0 (line (fit_word x) zs) k) (sym e) w

pub returns-in-Plain : goal.returns-in-Plain
returns-in-Plain c = let a = c.args in
    by_rule a.rule _ (pos a.n ∷ pos a.k ∷ pos a.d ∷ []) c.in-Plain.is
    (simp (back-pos a.n (omega arith), back-pos a.k (omega arith), back-pos a.d (omega arith)) at c.line.ensures)

pub returns-in-Drawable : goal.returns-in-Drawable
returns-in-Drawable c = let a = c.args in
    by_rule a.rule _ (pos a.n ∷ pos a.k ∷ pos a.d ∷ []) c.in-Drawable.is
    (simp (back-pos a.n (omega arith), back-pos a.k (omega arith), back-pos a.d (omega arith)) at c.line-in-Drawable.ensures)
