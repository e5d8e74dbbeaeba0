-- Every run, by induction over the list of its sheets: one sheet more, and the winner is the first of the shortest again.
use mathlib.Core.Path.{◌≡◌, refl, sym, ◌∙◌, ap, subst}
use mathlib.Core.Bool.{Bool, true, false, cond, not, true≢false}
use mathlib.Core.List.{List, [], ◌∷◌, ◌++◌, append-nil, append_assoc}
use mathlib.Core.Logic.{◌⊎◌, inl, inr, ⊎_elim}
use Prim.Native.Nat.{ℕ, suc}
use native.Mathlib.Decide.{dec_lt}
use native.Mathlib.Omega.{arith}
use lib.Dec.{T}
use lib.ListN.{length, get_or, length-append, get_or-append}
use lib.Seq.{get_or-append-add}
use lib.Signed.{lt_z_yes, lt_z_no}
use Rattle.exact.proofs.Decide.{by_cases}
use Rattle.verdict.specs.Answer.{Answer, pass, fault, test, ◌or_else◌}
use Rattle.verdict.specs.declared.Rule.TheVariants.{Plain}
use Rattle.verdict.proofs.Answers.{refuses}
use Rattle.correction_theory.specs.Correction.{on_pass}
use Rattle.reading.specs.Tests.{sheet_tests}
use Rattle.comparison.specs.Matrices.{same_matrix}
use Rattle.comparison.proofs.Laws.{matrix_self, matrix-same}
use Rattle.shortest_theory.specs.Run.{Winner, none, won, State, start, of_matrix, beats, winner_after, step, run}
use Rattle.shortest_theory.specs.Promises.{Numbered, Accepted, AtMost, Less, FirstAccepted, Candidate, FirstOfTheShortest, WinnerOf, Behind}
use Rattle.shortest_theory.proofs.Order.{less-most, self_most, less_trans}

-- ---- one sheet more
module _ (ts : List (List ℕ)) (t : List ℕ) where
  abbrev more : List (List ℕ)
  more = ts ++ (t ∷ [])

  longer : length more ≡ suc (length ts)
  longer = length-append ts (t ∷ []) ∙ omega arith

  still : (i : ℕ) (s : List ℕ) → Numbered ts i s → Numbered more i s
  still i s n = record { inside = omega (arith, longer, n.inside); sheet = get_or-append ts (t ∷ []) [] i n.inside ∙ n.sheet }

  last : Numbered more (length ts) t
  last = record { inside = omega (arith, longer); sheet = ap (λ (k : ℕ). get_or more k []) (omega arith) ∙ get_or-append-add ts (t ∷ []) 0 [] }

  -- each is one of those before, or the last
  either : (i : ℕ) (s : List ℕ) → Numbered more i s → Numbered ts i s ⊎ ((i ≡ length ts) × (t ≡ s))
  either i s n = by_cases (dec_lt i (length ts))
      (λ l. inl (record { inside = l; sheet = sym (get_or-append ts (t ∷ []) [] i l) ∙ n.sheet }))
      (λ g. let e : i ≡ length ts = omega (arith, n.inside, longer) in inr (e, sym last.sheet ∙ ap (λ (k : ℕ). get_or more k []) (sym e) ∙ n.sheet))

  -- ---- while no sheet is accepted
  module _ (h : WinnerOf ts none) where
    none-still : (Accepted t → ⊥) → WinnerOf more none
    none-still z j u n a = ⊎_elim (λ m. h j u m a) (λ m. z (subst Accepted (sym m.1) a)) (either j u n)

    opens : Accepted t → WinnerOf more (won (length ts) t)
    opens a = record {
      i = length ts;
      o = t;
      opens = record { numbered = last; accepted = a; first = λ j u l n z. ⊎_elim (λ m. h j u m z) (λ m. omega (arith, l, m.0)) (either j u n) };
      candidate = record { numbered = last; accepted = a; matrix = matrix_self t };
      shortest = λ j u c. ⊎_elim (λ m. absurd (h j u m c.accepted)) (λ m. subst (AtMost t) m.1 (self_most t)) (either j u c.numbered);
      first = λ j u l c. ⊎_elim (λ m. absurd (h j u m c.accepted)) (λ m. absurd (omega (arith, l, m.0))) (either j u c.numbered);
    }

  -- ---- with a winner
  module _ (k : ℕ) (s : List ℕ) (w : FirstOfTheShortest ts k s) where
    opens_still : FirstAccepted more w.i w.o
    opens_still = record {
      numbered = still w.i w.o w.opens.numbered;
      accepted = w.opens.accepted;
      first = λ j u l n a. ⊎_elim (λ m. w.opens.first j u l m a) (λ m. omega (arith, l, m.0, w.opens.numbered.inside)) (either j u n);
    }

    among : (j : ℕ) (u : List ℕ) → Candidate more w.o j u → Numbered ts j u → Candidate ts w.o j u
    among j u c m = record { numbered = m; accepted = c.accepted; matrix = c.matrix }

    -- it stays where the last sheet is no candidate, or no shorter one
    stays : (Accepted t → same_matrix w.o t ≡ true → AtMost s t) → WinnerOf more (won k s)
    stays h = record {
      i = w.i;
      o = w.o;
      opens = opens_still;
      candidate = record { numbered = still k s w.candidate.numbered; accepted = w.candidate.accepted; matrix = w.candidate.matrix };
      shortest = λ j u c. ⊎_elim (λ m. w.shortest j u (among j u c m))
          (λ m. subst (AtMost s) m.1 (h (subst Accepted (sym m.1) c.accepted) (subst (λ (v : List ℕ). same_matrix w.o v ≡ true) (sym m.1) c.matrix))) (either j u c.numbered);
      first = λ j u l c. ⊎_elim (λ m. w.first j u l (among j u c m)) (λ m. absurd (omega (arith, l, m.0, w.candidate.numbered.inside))) (either j u c.numbered);
    }

    -- it gives way to a shorter one
    gives-way : Accepted t → same_matrix s t ≡ true → Less t s → WinnerOf more (won (length ts) t)
    gives-way a e l = record {
      i = w.i;
      o = w.o;
      opens = opens_still;
      candidate = record { numbered = last; accepted = a; matrix = matrix-same w.o s t w.candidate.matrix ∙ e };
      shortest = λ j u c. ⊎_elim (λ m. less-most t u (under j u (among j u c m))) (λ m. subst (AtMost t) m.1 (self_most t)) (either j u c.numbered);
      first = λ j u q c. ⊎_elim (λ m. under j u (among j u c m)) (λ m. absurd (omega (arith, q, m.0))) (either j u c.numbered);
    }
      where
        under : (j : ℕ) (u : List ℕ) → Candidate ts w.o j u → Less t u
        under j u c = less_trans t s u a w.candidate.accepted c.accepted l (w.shortest j u c)

  after : (w : Winner) → WinnerOf ts w → WinnerOf more (winner_after w (length ts) t)
  after none h = go (sheet_tests Plain t) refl
    where
      go : (a : Answer) → sheet_tests Plain t ≡ a → WinnerOf more (on_pass (a or_else pass) (won (length ts) t) none)
      go pass e = opens h e
      go (fault n p) e = none-still h (λ z. refuses n p (sym e ∙ z))
  after (won k s) w = go (sheet_tests Plain t) (of_matrix (won k s) t) (beats t (won k s)) refl (λ e. e) (λ e. e) (λ e. lt_z_yes (subst T (sym e) tt)) (λ e. lt_z_no (subst (λ (x : Bool). T (not x)) (sym e) tt))
    where
      -- by the sheet's own answer, by whether its matrix is the winner's, and by whether it is shorter
      go : (a : Answer) (b c : Bool) → sheet_tests Plain t ≡ a → (b ≡ true → same_matrix s t ≡ true) → (b ≡ false → same_matrix s t ≡ false) → (c ≡ true → Less t s) → (c ≡ false → AtMost s t)
          → WinnerOf more (on_pass (a or_else test 27 (not b)) (cond c (won (length ts) t) (won k s)) (won k s))
      go (fault n p) b c e same other less most = stays k s w (λ z _. absurd (refuses n p (sym e ∙ z)))
      go pass false c e same other less most = stays k s w (λ _ z. absurd (true≢false (sym z ∙ matrix-same w.o s t w.candidate.matrix ∙ other refl)))
      go pass true true e same other less most = gives-way k s w e (same refl) (less refl)
      go pass true false e same other less most = stays k s w (λ _ _. most refl)

pub behind-step : (ts : List (List ℕ)) (t : List ℕ) (r : State) → Behind ts r → Behind (ts ++ (t ∷ [])) (step r t)
behind-step ts t r b = record {
  count = ap suc b.count ∙ sym (longer ts t);
  winner = subst (λ (n : ℕ). WinnerOf (ts ++ (t ∷ [])) (winner_after r.winner n t)) (sym b.count) (after ts t r.winner b.winner);
}

pub behind-run : (rest ts : List (List ℕ)) (r : State) → Behind ts r → Behind (ts ++ rest) (run r rest)
behind-run [] ts r b = subst (λ (l : List (List ℕ)). Behind l r) (sym (append-nil ts)) b
behind-run (t ∷ rest) ts r b =
    subst (λ (l : List (List ℕ)). Behind l (run (step r t) rest)) (append_assoc ts (t ∷ []) rest)
    (behind-run rest (ts ++ (t ∷ [])) (step r t) (behind-step ts t r b))

behind-none : Behind [] start
behind-none = record { count = refl; winner = λ j u n _. omega (arith, n.inside) }

-- of every list of sheets: the winner is the first of the shortest among the accepted ones whose matrix equals the first accepted one's
pub winner-of : (ts : List (List ℕ)) → Behind ts (run start ts)
winner-of ts = behind-run ts [] start behind-none
