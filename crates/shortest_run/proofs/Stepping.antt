-- One sheet of a run, by the choice between the winner and it, or by its own answer while there is no winner.
use mathlib.Core.Path.{◌≡◌, refl, sym, ◌∙◌, ap, subst, subst₂}
use mathlib.Core.Bool.{Bool, true, false, cond, not}
use mathlib.Core.List.{List}
use Prim.Native.Nat.{ℕ, ◌+◌, ◌≤◌}
use native.Mathlib.Omega.{arith}
use lib.Dec.{T}
use lib.IntN.{ℤ}
use lib.ListN.{length, take}
use lib.Signed.{lt_z, lt_z_yes, lt_z_no, clash_ℤ}
use Rattle.exact.specs.Order.{◌≤ᶻ◌, ◌<ᶻ◌}
use Rattle.verdict.specs.Answer.{Answer, pass, fault, answer_of, refusal_of, test, ◌or_else◌}
use Rattle.verdict.specs.declared.Refusal.{Refusal}
use Rattle.verdict.specs.declared.Rule.TheVariants.{Plain}
use Rattle.std.specs.Prelude.{Option, Some, None, Ok, Err, IfOk}
use Rattle.correction_theory.specs.Correction.{on_pass}
use Rattle.writing.specs.Text.{Wrote}
use Rattle.records.specs.Form.{max_sheet}
use Rattle.reading.specs.Tests.{sheet_tests}
use Rattle.sheet.proofs.Laws.{or_else_pass}
use Rattle.comparison.specs.Matrices.{same_matrix}
use Rattle.comparison.proofs.Laws.{accepted-short}
use Rattle.planner.specs.Compared.{compared_tests, length_beside, Chosen}
use Rattle.planner.specs.declared.Winner.TheVariants.{First, Second}
use Rattle.shortest_lines.specs.Answered.{line_of_result}
use Rattle.shortest_lines.proofs.Lines.{line-is}
use Rattle.shortest_theory.specs.Run.{Winner, none, won, answer, shorter, winner_after, number_of, step}
use Rattle.shortest_run.specs.declared.Best.{Best}
use Rattle.shortest_run.specs.declared.Run.{Run}
use Rattle.shortest_run.specs.declared.Stepped.{Stepped}
use Rattle.shortest_run.specs.Kept.{IsWinner, KeepsWinner, Won, Steps, Turned}
use Rattle.shortest_run.proofs.Keeping.{front_of}

-- ---- the comparison as the definitions have it
less_true : (a b : ℤ) → a <ᶻ b → lt_z a b ≡ true
less_true a b h = go (lt_z a b) refl
  where
    go : (x : Bool) → lt_z a b ≡ x → lt_z a b ≡ true
    go true e = e
    go false e = clash_ℤ h (lt_z_no (subst (λ (y : Bool). T (not y)) (sym e) tt))

most_false : (a b : ℤ) → b ≤ᶻ a → lt_z a b ≡ false
most_false a b h = go (lt_z a b) refl
  where
    go : (x : Bool) → lt_z a b ≡ x → lt_z a b ≡ false
    go true e = clash_ℤ (lt_z_yes (subst T (sym e) tt)) h
    go false e = e

alone : (a : Answer) → a ≡ (a or_else pass)
alone pass = refl
alone (fault n p) = refl

-- ---- one sheet beside a winner, which takes the number n
record StepsTo (y : Winner) (n : ℕ) (t : List ℕ) (x : Stepped) : Type 0 where
  pub answer : answer_of x.best ≡ answer y t
  pub number : IfOk x.best (λ k. k ≡ number_of (winner_after y n t))
  pub winner : KeepsWinner (winner_after y n t) x.run.best

module _ (n : ℕ) (t : List ℕ) where
  -- by the winner that is kept, whichever it is
  from : (b : Option Best) (x : Stepped) → x.run.count ≡ n + 1 → ((y : Winner) → KeepsWinner y b → StepsTo y n t x) → Steps (record { count = n; best = b }) t x
  from b x e by w k = let s = subst (λ (m : ℕ). StepsTo w.winner m t x) k.count (by w.winner k.winner) in record {
    answer = s.answer;
    number = s.number;
    run = record { count = let c = k.count in omega (arith, e, c); winner = s.winner };
  }

  -- ---- while there is no winner
  asked : (a : Answer) → a ≡ sheet_tests Plain t → a ≡ (sheet_tests Plain t or_else pass)
  asked a z = z ∙ alone (sheet_tests Plain t)

  pub still-down : (q : Refusal) → refusal_of q ≡ sheet_tests Plain t → Steps (record { count = n; best = None }) t (record { best = Err q; run = record { count = n + 1; best = None } })
  still-down q z = from None (record { best = Err q; run = record { count = n + 1; best = None } }) refl by
    where
      by : (y : Winner) → KeepsWinner y None → StepsTo y n t (record { best = Err q; run = record { count = n + 1; best = None } })
      by none h = record {
        answer = asked (refusal_of q) z;
        number = tt;
        winner = subst (λ (x : Answer). KeepsWinner (on_pass x (won n t) none) None) (asked (refusal_of q) z) tt;
      }
      by (won k s) h = absurd h

  pub opens : pass ≡ sheet_tests Plain t → (b : Best) → Won n t b → Steps (record { count = n; best = None }) t (record { best = Ok n; run = record { count = n + 1; best = Some b } })
  opens z b p = from None (record { best = Ok n; run = record { count = n + 1; best = Some b } }) refl by
    where
      by : (y : Winner) → KeepsWinner y None → StepsTo y n t (record { best = Ok n; run = record { count = n + 1; best = Some b } })
      by none h = record {
        answer = asked pass z;
        number = subst (λ (x : Answer). n ≡ number_of (on_pass x (won n t) none)) (asked pass z) refl;
        winner = subst (λ (x : Answer). KeepsWinner (on_pass x (won n t) none) (Some b)) (asked pass z) (record { is = p; accepted = sym z });
      }
      by (won k s) h = absurd h

  -- ---- beside the winner
  module _ (a : Best) where
    abbrev lent : List ℕ
    lent = take a.length a.bytes

    -- the winner has no refusal of its own
    beside : (k : ℕ) (s : List ℕ) → IsWinner k s a → compared_tests s t ≡ answer (won k s) t
    beside k s h = ap (λ (x : Answer). x or_else (sheet_tests Plain t or_else test 27 (not (same_matrix s t)))) h.accepted

    -- where the row of tests passes the sheet is accepted
    second-passes : (s : List ℕ) → compared_tests s t ≡ pass → sheet_tests Plain t ≡ pass
    second-passes s e = (or_else_pass (sheet_tests Plain t) (test 27 (not (same_matrix s t))) (or_else_pass (sheet_tests Plain s) (sheet_tests Plain t or_else test 27 (not (same_matrix s t))) e).1).0

    pub fits-beside : Chosen lent t (Ok Second) → length t ≤ max_sheet
    fits-beside c = accepted-short t (second-passes lent c.0)

    -- each of the three choices, by the winner's own bytes
    by-winner : (x : Stepped) → x.run.count ≡ n + 1 → ((k : ℕ) (s : List ℕ) → IsWinner k s a → lent ≡ s → StepsTo (won k s) n t x) → Steps (record { count = n; best = Some a }) t x
    by-winner x e f = from (Some a) x e by
      where
        by : (y : Winner) → KeepsWinner y (Some a) → StepsTo y n t x
        by none h = absurd h
        by (won k s) h = f k s h (front_of a k s h.is)

    -- the winner after a sheet that passes, by the comparison
    passing : (P : Winner → Type 0) (k : ℕ) (s : List ℕ) (b : Bool) → pass ≡ answer (won k s) t → b ≡ lt_z (length_beside t s) (length_beside s t)
        → P (cond b (won n t) (won k s)) → P (winner_after (won k s) n t)
    passing P k s b e f h = subst₂ (λ (x : Answer) (y : Bool). P (on_pass x (cond y (won n t) (won k s)) (won k s))) e f h

    pub refused : (q : Refusal) → Chosen lent t (Err q) → Steps (record { count = n; best = Some a }) t (record { best = Err q; run = record { count = n + 1; best = Some a } })
    refused q c = by-winner (record { best = Err q; run = record { count = n + 1; best = Some a } }) refl (λ k s h e.
        let r : refusal_of q ≡ answer (won k s) t = subst (λ (u : List ℕ). Chosen u t (Err q)) e c ∙ beside k s h in record {
          answer = r;
          number = tt;
          winner = subst (λ (x : Answer). KeepsWinner (on_pass x (shorter (won k s) n t) (won k s)) (Some a)) r h;
        })

    pub keeps-first : Chosen lent t (Ok First) → Steps (record { count = n; best = Some a }) t (record { best = Ok a.number; run = record { count = n + 1; best = Some a } })
    keeps-first c = by-winner (record { best = Ok a.number; run = record { count = n + 1; best = Some a } }) refl (λ k s h e.
        let d : Chosen s t (Ok First) = subst (λ (u : List ℕ). Chosen u t (Ok First)) e c in
        let r : pass ≡ answer (won k s) t = sym d.0 ∙ beside k s h in
        let l : false ≡ lt_z (length_beside t s) (length_beside s t) = sym (most_false (length_beside t s) (length_beside s t) d.1) in record {
          answer = r;
          number = passing (λ (w : Winner). a.number ≡ number_of w) k s false r l h.is.number;
          winner = passing (λ (w : Winner). KeepsWinner w (Some a)) k s false r l h;
        })

    pub takes_second : (b : Best) → Chosen lent t (Ok Second) → Won n t b → Steps (record { count = n; best = Some a }) t (record { best = Ok n; run = record { count = n + 1; best = Some b } })
    takes_second b c p = by-winner (record { best = Ok n; run = record { count = n + 1; best = Some b } }) refl (λ k s h e.
        let d : Chosen s t (Ok Second) = subst (λ (u : List ℕ). Chosen u t (Ok Second)) e c in
        let r : pass ≡ answer (won k s) t = sym d.0 ∙ beside k s h in
        let l : true ≡ lt_z (length_beside t s) (length_beside s t) = sym (less_true (length_beside t s) (length_beside s t) d.1) in record {
          answer = r;
          number = passing (λ (w : Winner). n ≡ number_of w) k s true r l refl;
          winner = passing (λ (w : Winner). KeepsWinner w (Some b)) k s true r l (record { is = p; accepted = second-passes s d.0 });
        })

-- ---- with the line
pub turns : (a : Run) (t : List ℕ) (x : Stepped) → Steps a t x → (b c : List ℕ) (e : ℕ) → Wrote b c 0 (line_of_result x.best) e → Turned a t b c (record { run = x.run; end = e })
turns a t x h b c e p w k = let s = h w k in record {
  run = s.run;
  line = subst (λ (l : List ℕ). Wrote b c 0 l e) (line-is x.best (answer w.winner t) (number_of (step w t).winner) s.answer s.number) p;
}
