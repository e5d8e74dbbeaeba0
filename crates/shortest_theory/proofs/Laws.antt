-- What a sheet does in a run, for the rooms above: a refused one changes nothing but how many there are; an accepted one's line names the winner
-- after it; 27 is by the matrix of the first accepted sheet; and all sheets above the limit are alike.
use mathlib.Core.Path.{◌≡◌, refl, sym, ◌∙◌, ap, ap₂}
use mathlib.Core.Bool.{Bool, true, false, cond, not}
use mathlib.Core.List.{List, [], ◌∷◌}
use Prim.Native.Nat.{ℕ, suc, ◌<◌}
use native.Mathlib.Decide.{dec_lt}
use native.Mathlib.Omega.{arith}
use borrow.Author.Tests.{lt-ltb}
use lib.IntN.{pos}
use lib.ListN.{length, get_or}
use Rattle.exact.proofs.Decide.{by_cases}
use Rattle.verdict.specs.Answer.{Answer, pass, fault, test, ◌or_else◌}
use Rattle.verdict.specs.declared.Place.{Place}
use Rattle.verdict.specs.declared.Place.TheVariants.{Nowhere}
use Rattle.verdict.specs.declared.Rule.TheVariants.{Plain}
use Rattle.correction_theory.specs.Correction.{on_pass}
use Rattle.lines.specs.Lines.{line, refused_line}
use Rattle.records.specs.Form.{max_sheet}
use Rattle.reading.specs.Tests.{sheet_tests}
use Rattle.comparison.specs.Matrices.{same_matrix}
use Rattle.comparison.proofs.Laws.{matrix-same}
use Rattle.shortest_lines.specs.Answered.{best_word, line_of}
use Rattle.shortest_theory.specs.Run.{Winner, none, won, State, answer, beats, shorter, step, number_of, line_at}
use Rattle.shortest_theory.specs.Promises.{FirstAccepted, WinnerOf}

-- a winner that there is
Some : Winner → Type 0
Some none = ⊥
Some (won k s) = Unit {0}

shorter-some : (w : Winner) (n : ℕ) (t : List ℕ) → Some (shorter w n t)
unfolding Some
shorter-some none n t = tt
shorter-some (won k s) n t = go (beats t (won k s))
  where
    go : (b : Bool) → Some (cond b (won n t) (won k s))
    go true = tt
    go false = tt

on-pass : {A : Type 0} (a : Answer) (new old : A) → a ≡ pass → on_pass a new old ≡ new
on-pass a new old e = ap (λ (x : Answer). on_pass x new old) e

-- an accepted sheet: there is a winner after it, and its line has that winner's number
pub record Best (r : State) (t : List ℕ) : Type 0 where
  pub number : ℕ
  pub sheet : List ℕ
  pub winner : (step r t).winner ≡ won number sheet
  pub names : line_at r t ≡ line best_word (pos number ∷ [])

module _ (r : State) (t : List ℕ) where
  pub best_line : answer r.winner t ≡ pass → Best r t
  unfolding Some
  best_line e = go (shorter r.winner r.count t) refl (shorter-some r.winner r.count t)
    where
      go : (w : Winner) → shorter r.winner r.count t ≡ w → Some w → Best r t
      go none f h = absurd h
      go (won k s) f h = let after : (step r t).winner ≡ won k s = on-pass (answer r.winner t) (shorter r.winner r.count t) _ e ∙ f in
          record { number = k; sheet = s; winner = after; names = ap₂ (λ (a : Answer) (w : Winner). line_of a (number_of w)) e after }

  -- a refused one: the winner is as it was, and the line is the refusal
  module _ (n : ℕ) (p : Place) (e : answer r.winner t ≡ fault n p) where
    pub refused-step : step r t ≡ record { count = suc r.count; winner = r.winner }
    refused-step = ap (λ (a : Answer). record { count = suc r.count; winner = on_pass a (shorter r.winner r.count t) r.winner }) e

    pub refused-line : line_at r t ≡ refused_line n p
    refused-line = ap (λ (a : Answer). line_of a (number_of (step r t).winner)) e

-- ---- sheets above the limit: all are 1, whatever their bytes
pub too_long : (w : Winner) (t : List ℕ) → max_sheet < length t → answer w t ≡ fault 1 Nowhere
too_long w t h = rw (lt-ltb max_sheet (length t) h)

-- ---- 27 is by the first accepted sheet
-- there is one first accepted sheet
one-first : (ts : List (List ℕ)) (i j : ℕ) (s u : List ℕ) → FirstAccepted ts i s → FirstAccepted ts j u → s ≡ u
one-first ts i j s u a b = by_cases (dec_lt i j) (λ l. absurd (b.first i s l a.numbered a.accepted))
    (λ g. by_cases (dec_lt j i) (λ l. absurd (a.first j u l b.numbered b.accepted))
    (λ h. let e : i ≡ j = omega (arith, g, h) in sym a.numbered.sheet ∙ ap (λ (k : ℕ). get_or ts k []) e ∙ b.numbered.sheet))

pub by_first : (ts : List (List ℕ)) (i : ℕ) (o : List ℕ) (w : Winner) → WinnerOf ts w → FirstAccepted ts i o → (t : List ℕ)
    → answer w t ≡ (sheet_tests Plain t or_else test 27 (not (same_matrix o t)))
by_first ts i o none h a t = absurd (h i o a.numbered a.accepted)
by_first ts i o (won k s) w a t =
    let e : w.o ≡ o = one-first ts w.i i w.o o w.opens a in
    ap (λ (b : Bool). sheet_tests Plain t or_else test 27 (not b))
    (sym (matrix-same w.o s t w.candidate.matrix) ∙ ap (λ (v : List ℕ). same_matrix v t) e)
