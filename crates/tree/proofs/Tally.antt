-- Counting children in one pass: what the table of counts holds after the first v vertices counted at their parents.
use mathlib.Core.Path.{◌≡◌, refl, sym, ◌∙◌, ap}
use mathlib.Core.Bool.{cond}
use mathlib.Core.List.{List}
use Prim.Native.Nat.{ℕ, ◌+◌, ◌<◌}
use native.Mathlib.Decide.{ℕ_discrete}
use native.Mathlib.Nat.{add-zero}
use native.Mathlib.Numerals.{add-one}
use borrow.Author.Tests.{eq-eqb, ne_eqb}
use lib.ListN.{length, get_or, set}
use lib.Seq.{get_or-set_same, get_or-set_other}
use Rattle.exact.proofs.Decide.{by_cases}
use Rattle.verdict.specs.Table.{count}
use Rattle.verdict.proofs.Table.{count-zero, count-suc}
use Rattle.tree_theory.specs.Chain.{kid}

-- entry w is how many of the vertices below v are children of w
abbrev pub Tallied : (ℕ → ℕ) → ℕ → List ℕ → Type 0
Tallied par v l = (w : ℕ) → get_or l w 0 ≡ count v (kid par w)

module _ (par : ℕ → ℕ) where
  pub tally-none : (l : List ℕ) → ((w : ℕ) → get_or l w 0 ≡ 0) → Tallied par 0 l
  tally-none l h w = h w ∙ sym (count-zero (kid par w))

  tally-step : (v w : ℕ) → count (v + 1) (kid par w) ≡ count v (kid par w) + cond (kid par w v) 1 0
  tally-step v w = rw add-one (count-suc v (kid par w))

  -- vertex v counts at its parent
  pub tally-more : (v : ℕ) (l : List ℕ) → par v < length l → Tallied par v l → Tallied par (v + 1) (set l (par v) (get_or l (par v) 0 + 1))
  tally-more v l h t w = by_cases (ℕ_discrete w (par v))
      (λ e. rw e (get_or-set_same l (par v) (get_or l (par v) 0 + 1) 0 h ∙ ap (λ x. x + 1) (t (par v))
      ∙ sym (tally-step v (par v) ∙ ap (λ b. count v (kid par (par v)) + cond b 1 0) (eq-eqb (par v) (par v) refl))))
      (λ e. get_or-set_other l (par v) w (get_or l (par v) 0 + 1) 0 e ∙ t w
      ∙ sym (tally-step v w ∙ ap (λ b. count v (kid par w) + cond b 1 0) (ne_eqb (par v) w (λ q. e (sym q))) ∙ add-zero (count v (kid par w))))
