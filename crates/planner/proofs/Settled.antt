-- One possible result: two sheets have one choice, one winner's number, and one part, at one place in memory and with the same bytes. (The
-- name that a reference has in the logic, which no code can see, is left open.)
use mathlib.Core.Path.{◌≡◌, refl, sym, ◌∙◌, ap, ap₂, subst}
use mathlib.Core.List.{List}
use Prim.Native.Nat.{ℕ}
use lib.Signed.{clash_ℤ}
use denote.Ref.{Bor}
use Rattle.std.specs.Prelude.{Ok, Err}
use Rattle.sheet.proofs.Laws.{same_refusal, not_pass}
use Rattle.planner.specs.Compared.{Choice, Chosen}
use Rattle.planner.specs.Part.{Part, Handed, won_by, Shorter}
use Rattle.planner.specs.declared.Winner.TheVariants.{First, Second}

module _ (s t : List ℕ) where
  pub one_choice : (x y : Choice) → Chosen s t x → Chosen s t y → x ≡ y
  one_choice (Err q) (Err r) h k = ap Err (same_refusal q r (h ∙ sym k))
  one_choice (Err q) (Ok First) h k = absurd (not_pass q (h ∙ k.0))
  one_choice (Err q) (Ok Second) h k = absurd (not_pass q (h ∙ k.0))
  one_choice (Ok First) (Err r) h k = absurd (not_pass r (k ∙ h.0))
  one_choice (Ok Second) (Err r) h k = absurd (not_pass r (k ∙ h.0))
  one_choice (Ok First) (Ok First) h k = refl
  one_choice (Ok Second) (Ok Second) h k = refl
  one_choice (Ok First) (Ok Second) h k = clash_ℤ k.1 h.1
  one_choice (Ok Second) (Ok First) h k = clash_ℤ h.1 k.1

one-part : (s r u : Bor (List ℕ)) (from to : ℕ) → Part s r from to → Part s u from to → (r.ref_ptr ≡ u.ref_ptr) × (r.now ≡ u.now)
one-part s r u from to x y =
    (ap₂ (λ (b o : ℕ). (b, o)) (x.block ∙ sym y.block) (x.start ∙ sym y.start), x.bytes ∙ sym y.bytes)

one-handed : (x : Choice) (s t r u : Bor (List ℕ)) → Handed x s t r → Handed x s t u → (r.ref_ptr ≡ u.ref_ptr) × (r.now ≡ u.now)
one-handed (Err q) s t r u h k = one-part s r u 0 0 h k
one-handed (Ok First) s t r u h k = one-part s r u _ _ h k
one-handed (Ok Second) s t r u h k = one-part t r u _ _ h k

-- two answers that `shorter` may give are one
pub record OneResult (won also : ℕ) (r u : Bor (List ℕ)) : Type 0 where
  pub winner : won ≡ also
  pub place : r.ref_ptr ≡ u.ref_ptr
  pub bytes : r.now ≡ u.now

pub one_result : (s t r u : Bor (List ℕ)) (w won also : ℕ) → Shorter s t w won r → Shorter s t w also u → OneResult won also r u
one_result s t r u w won also x y =
    let e = one_choice s.now t.now x.choice y.choice x.chosen y.chosen in
    let p = one-handed y.choice s t r u (subst (λ (c : Choice). Handed c s t r) e x.part) y.part in
    record {
      winner = x.winner ∙ ap (λ (c : Choice). won_by c w) e ∙ sym y.winner;
      place = p.0;
      bytes = p.1;
    }
