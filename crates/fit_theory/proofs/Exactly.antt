-- RULES, The verdict, both ways: the verdict passes exactly where the proposal stands.
-- `stands→`: what stands passes. `→stands`: what passes stands.
use mathlib.Core.Path.{◌≡◌, refl, ap}
use mathlib.Core.Bool.{Bool, false, not}
use mathlib.Core.List.{List}
use Prim.Native.Nat.{ℕ, ◌<◌}
use native.Mathlib.Omega.{arith}
use borrow.Author.Tests.{not-false}
use lib.IntN.{ℤ, pos}
use lib.ListN.{length}
use Rattle.exact.specs.Order.{◌≤ᶻ◌}
use Rattle.exact.specs.LeastSquares.{Equations, Conditions}
use Rattle.exact.specs.Sum.{pairs}
use Rattle.exact.specs.Table.{entry_of}
use Rattle.verdict.specs.Answer.{pass, fault, at_first, ◌or_else◌}
use Rattle.verdict.specs.Table.{some, first}
use Rattle.verdict.specs.declared.Place.TheVariants.{Edge, EdgeSum}
use Rattle.verdict.specs.declared.Rule.{Rule}
use Rattle.verdict.specs.declared.Rule.TheVariants.{Plain, Drawable}
use Rattle.verdict.proofs.Answers.{or_else_pass, pass_or_else, first-pass, at_none, refuses}
use Rattle.verdict.proofs.Table.{some-yes, some-no, some-none, lowest}
use Rattle.matrix.specs.Tests.{matrix_tests}
use Rattle.matrix.proofs.Checked as matrix
use Rattle.tree_theory.specs.Tests.{tree_tests}
use Rattle.tree_theory.proofs.Checked.{allowed→, →allowed}
use Rattle.lengths.specs.Tests.{lengths_tests, is_negative, sign_tests}
use Rattle.lengths.proofs.Checked as lengths
use Rattle.fit_theory.proofs.Zeros.{zero-passes, passes-zero, balanced_passes, passes_balanced, unpulled_passes, passes_unpulled, not_negative, negative_not}
use Rattle.fit_theory.specs.Quantities.{parts_in, edge_sum_of}
use Rattle.fit_theory.specs.Tests.{shape_tests, unseen, seen_tests, posted_tests, proposal_tests, judge_tests, not_zero, unbalanced, pulled, sums_tests}
use Rattle.matrix.specs.Place.{distance}
use Rattle.fit_theory.specs.Stands.{Shaped, Seen, Posted, FitBy, Stands}

module _ (N : ℕ) (ds ps : List ℕ) where
  pub shaped→ : Shaped N ds ps → shape_tests N ds ps ≡ pass
  shaped→ s = pass_or_else (matrix.proper→ N ds s.matrix) (→allowed N ps s.tree)

  pub →shaped : shape_tests N ds ps ≡ pass → Shaped N ds ps
  →shaped e = let (e1, e2) = or_else_pass (matrix_tests N ds) (tree_tests N ps) e in
      record { matrix = matrix.→proper N ds e1; tree = allowed→ N ps e2 }

  -- an edge that parts a measured pair is not at fault, and the other way round
  module _ (v : ℕ) where
    abbrev column : ℕ → Bool
    column j = some j (λ i. parts_in ds ps v (i, j))

    pub seen→ : Seen N ds ps v → unseen N ds ps v ≡ false
    seen→ s = ap not (some-yes N column s.j s.strain (some-yes s.j (λ i. parts_in ds ps v (i, s.j)) s.i s.rising s.parted))

    pub →seen : unseen N ds ps v ≡ false → Seen N ds ps v
    →seen e =
        let c = lowest N column (not-false (some N column) e) in
        let r = lowest (first N column) (λ i. parts_in ds ps v (i, first N column)) c.fault in
        record { i = first (first N column) (λ i. parts_in ds ps v (i, first N column)); j = first N column; rising = r.below; strain = c.below; parted = r.fault }

  pub all_seen→ : ((v : ℕ) → v < length ps → Seen N ds ps v) → seen_tests N ds ps ≡ pass
  all_seen→ h = at_none (length ps) (unseen N ds ps) (λ v. fault 26 (Edge v)) (some-no (length ps) (unseen N ds ps) (λ v l. seen→ v (h v l)))

  pub →all_seen : seen_tests N ds ps ≡ pass → (v : ℕ) → v < length ps → Seen N ds ps v
  →all_seen e v l = →seen v (some-none (length ps) (unseen N ds ps) (first-pass (length ps) (unseen N ds ps) (λ u. fault 26 (Edge u)) (λ u. refuses 26 (Edge u)) e) v l)

  pub posted→ : Posted N ds ps → posted_tests N ds ps ≡ pass
  posted→ s = pass_or_else (shaped→ (record { matrix = s.matrix; tree = s.tree })) (all_seen→ s.seen)

  pub →posted : posted_tests N ds ps ≡ pass → Posted N ds ps
  →posted e = let (e1, e2) = or_else_pass (shape_tests N ds ps) (seen_tests N ds ps) e in
      let s = →shaped e1 in record { matrix = s.matrix; tree = s.tree; seen = →all_seen e2 }

-- where no sum is at fault, none below n is
none-at : (n : ℕ) (p : ℕ → Bool) (k : ℕ) (x : ℕ → ℤ) → at_first n p (λ i. fault k (EdgeSum i (x i))) ≡ pass → (v : ℕ) → v < n → p v ≡ false
none-at n p k x e = some-none n p (first-pass n p (λ i. fault k (EdgeSum i (x i))) (λ i. refuses k (EdgeSum i (x i))) e)

module _ (N : ℕ) (ds ps : List ℕ) (D : ℕ) (ns : List ℤ) where
  abbrev K : ℕ
  K = length ps

  abbrev n : ℕ → ℤ
  n = entry_of ns

  abbrev x : ℕ → ℤ
  x = edge_sum_of N ds ps D ns

  -- no edge's sum is at fault where each is zero, and the other way round
  pub equations→ : Equations (pairs N) K (parts_in ds ps) (distance ds) (pos D) n → sums_tests Plain N ds ps D ns ≡ pass
  equations→ h = at_none K (not_zero x) (λ i. fault 14 (EdgeSum i (x i))) (some-no K (not_zero x) (λ v l. zero-passes (h v l)))

  pub →equations : sums_tests Plain N ds ps D ns ≡ pass → Equations (pairs N) K (parts_in ds ps) (distance ds) (pos D) n
  →equations e v h = passes-zero (x v) (none-at K (not_zero x) 14 x e v h)

  -- likewise where no length may be negative
  pub conditions→ : Conditions (pairs N) K (parts_in ds ps) (distance ds) (pos D) n → sums_tests Drawable N ds ps D ns ≡ pass
  conditions→ h = pass_or_else
      (at_none K (unbalanced n x) (λ i. fault 14 (EdgeSum i (x i))) (some-no K (unbalanced n x) (λ v l. balanced_passes (n v) (x v) (h.positive v l))))
      (at_none K (pulled n x) (λ i. fault 23 (EdgeSum i (x i))) (some-no K (pulled n x) (λ v l. unpulled_passes (n v) (x v) (h.zero v l))))

  pub →conditions : ((v : ℕ) → v < K → pos 0 ≤ᶻ n v) → sums_tests Drawable N ds ps D ns ≡ pass
      → Conditions (pairs N) K (parts_in ds ps) (distance ds) (pos D) n
  →conditions up e =
      let (e1, e2) = or_else_pass (at_first K (unbalanced n x) (λ i. fault 14 (EdgeSum i (x i)))) (at_first K (pulled n x) (λ i. fault 23 (EdgeSum i (x i)))) e in
      record {
        entries = up;
        positive = λ v l. passes_balanced (n v) (x v) (none-at K (unbalanced n x) 14 x e1 v l);
        zero = λ v l. passes_unpulled (n v) (x v) (none-at K (pulled n x) 23 x e2 v l);
      }

module _ (N : ℕ) (ds ps : List ℕ) (D : ℕ) (ns : List ℤ) (whole : length ns ≡ length ps) where
  -- a fit passes the tests of its signs and sums, and what passes is one
  pub fit→ : (rule : Rule) → FitBy rule N ds ps D ns → (sign_tests rule ns ≡ pass) × (sums_tests rule N ds ps D ns ≡ pass)
  fit→ Plain h = (refl, equations→ N ds ps D ns h)
  fit→ Drawable h =
      (at_none (length ns) (is_negative ns) (λ i. fault 22 (Edge i)) (some-no (length ns) (is_negative ns) (λ v l. not_negative (entry_of ns v) (h.entries v (omega arith)))), conditions→ N ds ps D ns h)

  pub →fit : (rule : Rule) → sign_tests rule ns ≡ pass → sums_tests rule N ds ps D ns ≡ pass → FitBy rule N ds ps D ns
  →fit Plain _ e = →equations N ds ps D ns e
  →fit Drawable g e = →conditions N ds ps D ns
      (λ v l. negative_not (entry_of ns v) (some-none (length ns) (is_negative ns) (first-pass (length ns) (is_negative ns) (λ i. fault 22 (Edge i)) (λ i. refuses 22 (Edge i)) g) v (omega arith))) e

module _ (rule : Rule) (N : ℕ) (ds ps : List ℕ) (D : ℕ) (ns : List ℤ) where
  pub stands→ : Stands rule N ds ps D ns → judge_tests rule N ds ps D ns ≡ pass
  stands→ s =
      let (e1, e2) = fit→ N ds ps D ns s.lengths.whole rule s.fitted.fit in
      pass_or_else (posted→ N ds ps s.fitted.posted)
      (pass_or_else (lengths.proper→ (length ps) D ns s.lengths) (pass_or_else e1 e2))

  -- what passes beside a matrix and a tree that pass stands
  pub proposal-stands : Posted N ds ps → proposal_tests rule N ds ps D ns ≡ pass → Stands rule N ds ps D ns
  proposal-stands s e =
      let (e1, r) = or_else_pass (lengths_tests (length ps) D ns) (sign_tests rule ns or_else sums_tests rule N ds ps D ns) e in
      let (e2, e3) = or_else_pass (sign_tests rule ns) (sums_tests rule N ds ps D ns) r in
      let l = lengths.→proper (length ps) D ns e1 in
      record { lengths = l; fitted = record { posted = s; whole = l.whole; one = l.one; fit = →fit N ds ps D ns l.whole rule e2 e3 } }

  pub →stands : judge_tests rule N ds ps D ns ≡ pass → Stands rule N ds ps D ns
  →stands e = let (e1, e2) = or_else_pass (posted_tests N ds ps) (proposal_tests rule N ds ps D ns) e in proposal-stands (→posted N ds ps e1) e2
