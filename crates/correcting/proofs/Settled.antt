-- What a contract leaves open: nothing. Any two results that meet it, of the same input, are the same: matrix, sums, counts and answer
-- (`one_correction`). They are the step of the run that correction_theory speaks of (`is-step`).
use mathlib.Core.Path.{◌≡◌, refl, sym, ◌∙◌, ap, subst}
use mathlib.Core.List.{List}
use Prim.Native.Nat.{ℕ}
use lib.IntN.{ℤ}
use lib.ListN.{length}
use Rattle.verdict.specs.Answer.{Verdict}
use Rattle.verdict.proofs.Answers.{same_answer}
use Rattle.fit_theory.specs.Stands.{Posted}
use Rattle.correction_theory.specs.Correction.{Correction}
use Rattle.correction_theory.specs.Kept.{Keeping, Holds, Beside, afresh, keep}
use Rattle.correction_theory.proofs.Run.{kept_step}
use Rattle.correction_theory.proofs.Settled.{one-beside}
use Rattle.correcting.specs.Answers.{CorrectAnswer}

pub one_correction : {N : ℕ} {ps : List ℕ} {c : Correction} {before after after' : List ℕ} {ss ss' cs cs' : List ℤ} {r r' : Verdict}
    → CorrectAnswer N ps c before after ss cs r → CorrectAnswer N ps c before after' ss' cs' r' → (after ≡ after') × (ss ≡ ss') × (cs ≡ cs') × (r ≡ r')
one_correction {N} {ps} {c} {before} {after} {after'} {ss} {ss'} {cs} {cs'} {r} {r'} a b =
    let e : after ≡ after' = a.matrix ∙ sym b.matrix in
    let (s, t) = one-beside (subst (λ (m : List ℕ). Beside N m ps ss cs) e a.beside) b.beside in
    (e, s, t, same_answer r r' (a.answer ∙ sym b.answer))

pub is-step : {N : ℕ} {ps : List ℕ} {c : Correction} {before after : List ℕ} {ss cs : List ℤ} {r : Verdict}
    → Posted N before ps → CorrectAnswer N ps c before after ss cs r → Holds (length ps) (keep N ps c (afresh N before ps)) after ss cs
is-step {N} {ps} {c} {before} {after} {ss} {cs} s a = subst (λ (k : Keeping). Holds (length ps) k after ss cs)
    (ap (λ (m : List ℕ). afresh N m ps) a.matrix ∙ sym (kept_step N before ps s.matrix.whole c))
    (record { matrix = refl; split = a.beside.split; counted = a.beside.counted })
