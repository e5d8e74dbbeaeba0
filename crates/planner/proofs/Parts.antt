-- The part that is handed back, by the choice.
use mathlib.Core.Path.{◌≡◌, sym, ◌∙◌, ap, subst}
use mathlib.Core.List.{List}
use Prim.Native.Nat.{ℕ}
use lib.ListN.{length}
use denote.Ref.{Bor}
use Rattle.verdict.specs.Answer.{pass}
use Rattle.std.specs.Prelude.{Ok}
use Rattle.verdict.specs.declared.Rule.TheVariants.{Plain}
use Rattle.records.specs.Form.{start_of}
use Rattle.reading.specs.Tests.{sheet_tests}
use Rattle.planner.specs.Compared.{Choice, Chosen}
use Rattle.planner.specs.Part.{Part, Handed}
use Rattle.planner.specs.declared.Winner.{Winner}
use Rattle.planner.specs.declared.Winner.TheVariants.{First, Second}
use Rattle.planner.proofs.Choosing.{both-accepted}

-- the third record of s, where s is accepted
abbrev pub ThirdOf : Bor (List ℕ) → Bor (List ℕ) → Type 0
ThirdOf s r = sheet_tests Plain s.now ≡ pass → Part s r (start_of s.now 2) (length s.now)

module _ (s t r : Bor (List ℕ)) (x : Choice) (h : Chosen s.now t.now x) (w : Winner) (e : x ≡ Ok w) where
  pub first-handed : w ≡ First → ThirdOf s r → Handed x s t r
  first-handed f p =
      let q : x ≡ Ok First = e ∙ ap Ok f in
      let c : Chosen s.now t.now (Ok First) = subst (Chosen s.now t.now) q h in
      subst (λ (y : Choice). Handed y s t r) (sym q) (p (both-accepted s.now t.now c.0).0)

  pub second-handed : w ≡ Second → ThirdOf t r → Handed x s t r
  second-handed f p =
      let q : x ≡ Ok Second = e ∙ ap Ok f in
      let c : Chosen s.now t.now (Ok Second) = subst (Chosen s.now t.now) q h in
      subst (λ (y : Choice). Handed y s t r) (sym q) (p (both-accepted s.now t.now c.0).1)
