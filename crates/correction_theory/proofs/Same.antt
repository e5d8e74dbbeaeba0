-- A correction to what stands there passes (`same-passes`), and the matrix is as it was (`same-stays`).
use mathlib.Core.Path.{◌≡◌, ◌∙◌, ap}
use mathlib.Core.List.{List}
use Prim.Native.Nat.{ℕ}
use native.Mathlib.Decide.{ℕ_discrete}
use native.Mathlib.Omega.{arith}
use borrow.Author.Tests.{ne_eqb, lt-leb, le-ltb}
use lib.ListN.{length-set}
use lib.Seq.{get_or-set_same, get_or-set_other, ext_get_or}
use Rattle.exact.proofs.Decide.{by_cases}
use Rattle.verdict.specs.Answer.{pass}
use Rattle.verdict.proofs.Answers.{or_else_pass, pass_or_else, pass-test, none_or}
use Rattle.matrix.specs.Limits.{max_distance}
use Rattle.matrix.specs.Place.{pair_place, known}
use Rattle.matrix.proofs.Completes.{known-near}
use Rattle.fit_theory.specs.Stands.{Posted}
use Rattle.fit_theory.specs.Tests.{shape_tests, seen_tests}
use Rattle.fit_theory.proofs.Exactly.{posted→}
use Rattle.correction_theory.specs.Correction.{Correction, corrected, correction_tests}
use Rattle.correction_theory.specs.Kept.{before}
use Rattle.correction_theory.proofs.Asked.{Apart}

module _ (N : ℕ) (ps ds : List ℕ) (c : Correction) (s : Posted N ds ps) (a : Apart N c) (e : c.far ≡ before ds c) where
  pub same-stays : corrected ds c ≡ ds
  same-stays = let k = pair_place c.i c.j in ext_get_or 0 (corrected ds c) ds (length-set ds k c.far)
      (λ m l. by_cases (ℕ_discrete m k)
      (λ q. rw (q, get_or-set_same ds k c.far 0 (omega (arith, length-set ds k c.far))) e)
      (λ q. get_or-set_other ds k m c.far 0 q))

  pub same-passes : correction_tests N ds ps c ≡ pass
  same-passes = pass_or_else
      (pass_or_else
      (pass-test 24 (none_or (ne_eqb c.i c.j a.apart) (none_or (lt-leb N c.i a.i-strain) (lt-leb N c.j a.j-strain))))
      (pass-test 7 (le-ltb max_distance (known c.far) (rw e (known-near s.matrix (pair_place c.i c.j))))))
      (ap (λ (l : List ℕ). seen_tests N l ps) same-stays ∙ (or_else_pass (shape_tests N ds ps) (seen_tests N ds ps) (posted→ N ds ps s)).1)
