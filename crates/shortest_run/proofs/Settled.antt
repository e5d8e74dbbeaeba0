-- One possible result: a state is kept by one value (`one_kept`), so a run that is held has one step (`one-step`), and one line and one text
-- (`one-turn`).
use mathlib.Core.Path.{◌≡◌, refl, sym, ◌∙◌, ap, ap₂}
use mathlib.Core.List.{List}
use Prim.Native.Nat.{ℕ}
use Rattle.std.specs.Prelude.{Option, Some, None, Result}
use Rattle.verdict.specs.declared.Refusal.{Refusal}
use Rattle.sheet.proofs.Laws.{one_result}
use Rattle.writing.proofs.Settled.{settled}
use Rattle.shortest_theory.specs.Run.{Winner, none, won, State, number_of, step}
use Rattle.shortest_run.specs.declared.Best.{Best}
use Rattle.shortest_run.specs.declared.Run.{Run}
use Rattle.shortest_run.specs.declared.Stepped.{Stepped}
use Rattle.shortest_run.specs.declared.Answered.{Answered}
use Rattle.shortest_run.specs.Kept.{Won, KeepsWinner, Keeps, Held, Steps, Turned}

as_best : ℕ → ℕ → List ℕ → Best
as_best number size bytes = record { number = number; length = size; bytes = bytes }

alike : (k : ℕ) (s : List ℕ) (a b : Best) → Won k s a → Won k s b → a ≡ b
unfolding as_best
alike k s a b h g =
    ap₂ (λ (n m : ℕ). as_best n m a.bytes) (h.number ∙ sym g.number) (h.long ∙ sym g.long)
    ∙ ap (as_best b.number b.length) (h.bytes ∙ sym g.bytes)

by-winner : (y : Winner) (a b : Option Best) → KeepsWinner y a → KeepsWinner y b → a ≡ b
by-winner none None None h g = refl
by-winner none None (Some b) h g = absurd g
by-winner none (Some a) b h g = absurd h
by-winner (won k s) None b h g = absurd h
by-winner (won k s) (Some a) None h g = absurd g
by-winner (won k s) (Some a) (Some b) h g = ap Some (alike k s a b h.is g.is)

as_run : ℕ → Option Best → Run
as_run count best = record { count = count; best = best }

module _ (r q : Run) where
  pub one_kept : (w : State) → Keeps w r → Keeps w q → r ≡ q
  unfolding as_run
  one_kept w h k = ap₂ as_run (h.count ∙ sym k.count) (by-winner w.winner r.best q.best h.winner k.winner)

as_stepped : Result ℕ Refusal → Run → Stepped
as_stepped b r = record { best = b; run = r }

pub one-step : (a : Run) (t : List ℕ) (x y : Stepped) → Held a → Steps a t x → Steps a t y → x ≡ y
unfolding as_stepped
one-step a t x y h p q = let s = p h.state h.keeps in let u = q h.state h.keeps in
    let k = number_of (step h.state t).winner in
    ap₂ as_stepped (one_result (λ (n : ℕ). n ≡ k) (λ (n : ℕ). n ≡ k) (λ a b e f. e ∙ sym f) x.best y.best (s.answer ∙ sym u.answer) s.number u.number) (one_kept x.run y.run _ s.run u.run)

as_answered : Run → ℕ → Answered
as_answered r e = record { run = r; end = e }

pub one-turn : (a : Run) (t before after also : List ℕ) (x y : Answered) → Held a → Turned a t before after x → Turned a t before also y → (x ≡ y) × (after ≡ also)
unfolding as_answered
one-turn a t before after also x y h p q = let s = p h.state h.keeps in let u = q h.state h.keeps in
    let (e, f) = settled s.line u.line in (ap₂ as_answered (one_kept x.run y.run _ s.run u.run) e, f)
