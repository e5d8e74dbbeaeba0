-- The contract of `read_front` leaves one value, and where the tests pass one table: two that meet it on the same bytes are equal.
use mathlib.Core.Path.{◌≡◌, sym, ◌∙◌}
use mathlib.Core.List.{List}
use Prim.Native.Nat.{ℕ}
use Rattle.std.specs.Prelude.{Result}
use Rattle.verdict.specs.declared.Refusal.{Refusal}
use Rattle.verdict.specs.Answer.{pass}
use Rattle.verdict.proofs.Answers.{one_result, value_of}
use Rattle.front.specs.declared.Front.{Front}
use Rattle.front.specs.Tests.{pair_tests}
use Rattle.front.specs.Reads.{FrontHeld, FrontAnswer}

as_front : ℕ → ℕ → ℕ → ℕ → Front
as_front n p a e = record { strains = n; pairs = p; parents = a; end = e }

module _ (a b : Front) where
  same_parts : a.strains ≡ b.strains → a.pairs ≡ b.pairs → a.parents ≡ b.parents → a.end ≡ b.end
      → as_front a.strains a.pairs a.parents a.end ≡ as_front b.strains b.pairs b.parents b.end
  same_parts e1 e2 e3 e4 = cc

  -- equal parts, equal wholes
  same-front : a.strains ≡ b.strains → a.pairs ≡ b.pairs → a.parents ≡ b.parents → a.end ≡ b.end → a ≡ b
  unfolding as_front
  same-front = same_parts

module _ (count : ℕ) (s xs ys : List ℕ) (a b : Result Front Refusal) (p : FrontAnswer count s xs a) (q : FrontAnswer count s ys b) where
  pub one-front : a ≡ b
  one-front = one_result (FrontHeld s xs) (FrontHeld s ys)
      (λ f g x y. same-front f g (x.strains ∙ sym y.strains) (x.pairs ∙ sym y.pairs) (x.parents ∙ sym y.parents) (x.end ∙ sym y.end))
      a b (p.answer ∙ sym q.answer) p.held q.held

  pub one_table : pair_tests count s ≡ pass → xs ≡ ys
  one_table z =
      let (_, _, f) = value_of (FrontHeld s xs) a (p.answer ∙ z) p.held in
      let (_, _, g) = value_of (FrontHeld s ys) b (q.answer ∙ z) q.held in f.distances ∙ sym g.distances
