-- The test 25: it is the test over the children with none to spare (`degree-is`), and it passes exactly for a resolved tree (`resolved`).
use mathlib.Core.Path.{◌≡◌, sym, ◌∙◌, ap}
use mathlib.Core.Bool.{Bool, true, false, cond, not, ◌||◌, false≢true}
use mathlib.Core.Logic.{◌≢◌}
use Prim.Native.Nat.{ℕ, ◌+◌, ◌≤◌, ◌<◌}
use native.Mathlib.Decide.{ℕ_discrete, dec_lt}
use native.Mathlib.Omega.{arith}
use borrow.Author.Tests.{lt-ltb, le-ltb}
use lib.Dec.{eqb, ltb}
use Rattle.exact.proofs.Decide.{by_cases, eq_yes, eq_no}
use Rattle.verdict.specs.Table.{some, first}
use Rattle.verdict.proofs.Table.{some-none, first_cong}
use Rattle.tree_theory.specs.Allowed.{children}
use Rattle.tree_theory.specs.Tests.{children_out}
use Rattle.direct_theory.specs.Children.{degree, degree_out, Resolved}

-- n children where n + 1 are not one too few and not one too many
counted : (c n k : ℕ) → n + k ≡ 3 → (ltb c n || ltb (n + 0) c) ≡ not (eqb (c + k) 3)
counted c n k e = by_cases (dec_lt c n)
    (λ l. rw (lt-ltb c n l, eq_no {a = c + k} {b = 3} (omega arith)))
    (λ l. by_cases (dec_lt n c)
    (λ g. rw (le-ltb c n (omega arith), lt-ltb (n + 0) c (omega arith), eq_no {a = c + k} {b = 3} (omega arith)))
    (λ g. rw (le-ltb c n (omega arith), le-ltb (n + 0) c (omega arith), eq_yes {a = c + k} {b = 3} (omega arith))))

by-root : (b : Bool) (c : ℕ) → (ltb c (cond b 3 2) || ltb (cond b 3 2 + 0) c) ≡ not (eqb (c + cond b 0 1) 3)
by-root true c = counted c 3 0 (omega arith)
by-root false c = counted c 2 1 (omega arith)

module _ (N K : ℕ) (par : ℕ → ℕ) where
  degree-at : (w : ℕ) → children_out 0 N K par w ≡ degree_out N K par w
  degree-at w = by_cases (dec_lt w N) (λ l. rw (lt-ltb w N l)) (λ l. rw (le-ltb w N (omega arith)) (by-root (eqb w K) (children K par w)))

  pub degree-is : first (K + 1) (children_out 0 N K par) ≡ first (K + 1) (degree_out N K par)
  degree-is = first_cong (K + 1) _ _ (λ w _. degree-at w)

  -- an inner vertex of another degree is out
  out : (w : ℕ) → N ≤ w → degree K par w ≢ 3 → degree_out N K par w ≡ true
  out w h n = rw (le-ltb w N h) (ap not (eq_no n))

  -- a vertex that is out is an inner one of another degree
  pub of-another-degree : (w : ℕ) → degree_out N K par w ≡ true → (N ≤ w) × (degree K par w ≡ 3 → ⊥)
  of-another-degree w e = by_cases (dec_lt w N)
      (λ l. absurd (false≢true (sym (ap (λ (b : Bool). cond b false (not (eqb (degree K par w) 3))) (lt-ltb w N l)) ∙ e)))
      (λ l. (omega arith, λ q. false≢true (sym (ap not (eq_yes q)) ∙ sym (ap (λ (b : Bool). cond b false (not (eqb (degree K par w) 3))) (le-ltb w N (omega arith))) ∙ e)))

  -- an inner one that is not out has degree three
  pub of-degree-three : (w : ℕ) → degree_out N K par w ≡ false → N ≤ w → degree K par w ≡ 3
  of-degree-three w e h = by_cases (ℕ_discrete (degree K par w) 3) (λ q. q) (λ q. absurd (false≢true (sym e ∙ out w h q)))

  -- a tree that passes is resolved
  pub resolved : some (K + 1) (degree_out N K par) ≡ false → Resolved N K par
  resolved e = record {
    three = λ w h k. of-degree-three w (some-none (K + 1) (degree_out N K par) e w (omega arith)) h;
  }
