-- The contracts leave one answer and one content of each buffer for every text: two results that meet them are the same.
use mathlib.Core.Path.{◌≡◌, sym, ◌∙◌}
use mathlib.Core.List.{List}
use Prim.Native.Nat.{ℕ}
use lib.ListN.{length}
use Rattle.exact.proofs.Decide.{by_cases}
use Rattle.verdict.specs.Answer.{Verdict}
use Rattle.verdict.proofs.Answers.{passes, same_answer}
use Rattle.phylip_text.specs.Tests.{read_tests}
use Rattle.phylip_read.specs.Answers.{Filled, ReadAnswer, NumberAnswer}

one-filling : {t db da da' nb na na' : List ℕ} → Filled t db da nb na → Filled t db da' nb na' → (da ≡ da') × (na ≡ na')
one-filling {t} {db} {da} {da'} {nb} {na} {na'} p q = by_cases (passes (read_tests t (length db) (length nb)))
    (λ h. let a = p.read h in let b = q.read h in (a.distances_are ∙ sym b.distances_are, a.names_are ∙ sym b.names_are))
    (λ h. let a = p.kept h in let b = q.kept h in (a.0 ∙ sym b.0, a.1 ∙ sym b.1))

pub settled : {t db da da' nb na na' : List ℕ} {v w : Verdict} → ReadAnswer t db da nb na v → ReadAnswer t db da' nb na' w → (v ≡ w) × (da ≡ da') × (na ≡ na')
settled {t} {db} {da} {da'} {nb} {na} {na'} {v} {w} p q = let f = one-filling p.filled q.filled in (same_answer v w (p.answer ∙ sym q.answer), f.0, f.1)

pub settled-number : {t db da da' nb na na' : List ℕ} {r s : ℕ} → NumberAnswer t db da nb na r → NumberAnswer t db da' nb na' s → (r ≡ s) × (da ≡ da') × (na ≡ na')
settled-number p q = let f = one-filling p.filled q.filled in (p.number_is ∙ sym q.number_is, f.0, f.1)
