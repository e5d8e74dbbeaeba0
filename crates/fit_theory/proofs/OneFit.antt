-- RULES, One fit only, of a complete matrix: `one-fit` for every fit, `accepted-one` and `accepted-agree` for every input
-- that `judge` accepts. An allowed tree's incidence has no kernel (tree_theory's `no-kernel`), so its paths settle every
-- table, and exact's theorem over any such incidence does the rest.
use mathlib.Core.Path.{◌≡◌, sym, subst}
use mathlib.Core.List.{List}
use Prim.Native.Nat.{ℕ, ◌<◌}
use lib.IntN.{ℤ, pos, ◌*ℤ◌}
use lib.ListN.{length}
use Rattle.verdict.specs.Answer.{pass}
use Rattle.verdict.specs.declared.Rule.{Rule}
use Rattle.verdict.specs.declared.Rule.TheVariants.{Plain, Drawable}
use Rattle.exact.specs.Sum.{pairs}
use Rattle.exact.specs.LeastSquares.{path}
use Rattle.exact.specs.Order.{◌<ᶻ◌}
use Rattle.exact.proofs.Sum.{pairs-sums}
use Rattle.exact.proofs.Sweep.{squares-none}
use Rattle.exact.proofs.OneFit.{Settles, agree, strict}
use Rattle.matrix.specs.Place.{distance, Complete}
use Rattle.tree_theory.specs.Chain.{parent_of}
use Rattle.tree_theory.specs.Allowed.{Allowed}
use Rattle.tree_theory.proofs.Kernel.{no-kernel}
use Rattle.exact.specs.Table.{entry_of}
use Rattle.fit_theory.specs.Quantities.{parts_of, parts_in}
use Rattle.fit_theory.specs.Tests.{judge_tests}
use Rattle.fit_theory.specs.Stands.{FitBy, Against, Fitted, OneFit}
use Rattle.fit_theory.proofs.Complete.{complete-parts}
use Rattle.fit_theory.proofs.Exactly.{→stands}
use Rattle.fit_theory.proofs.Demand3.{some-D, is-minimum, tops-by}

-- the pairs of strains settle every edge of an allowed tree
settles : (N : ℕ) (ds ps : List ℕ) → Complete ds → Allowed N (length ps) (parent_of ps) → Settles (pairs N) (length ps) (parts_in ds ps)
settles N ds ps all ok = subst (Settles (pairs N) (length ps)) (sym (complete-parts ds ps all)) (λ x e. no-kernel N (length ps) (parent_of ps) ok x (squares-none N (path (length ps) (parts_of ps) x) e))

-- what stands is among the tables compared with
pub among : (rule : Rule) (N : ℕ) (ds ps : List ℕ) (D : ℕ) (ns : List ℤ) → pos 0 <ᶻ pos D → FitBy rule N ds ps D ns → Against rule (length ps) (pos D) (entry_of ns)
among Plain N ds ps D ns h fit = record {}
among Drawable N ds ps D ns h fit = record { denominator = h; entries = fit.entries }

module _ (rule : Rule) (N : ℕ) (ds ps : List ℕ) (D : ℕ) (ns : List ℤ) where
  pub one-fit : Complete ds → Fitted rule N ds ps D ns → OneFit rule N ds ps D ns
  one-fit all s =
      let K = length ps in let h = some-D rule N ds ps D ns s in
      let top = tops-by rule N ds ps D ns h s.fit in
      record {
        agree = λ D' ns' s'. let h' = some-D rule N ds ps D' ns' s' in agree (pairs-sums N) K (parts_in ds ps) (distance ds) (pos D) (entry_of ns) (Against rule K) top (settles N ds ps all s.posted.tree)
            (among rule N ds ps D ns h s.fit) (is-minimum rule N ds ps D ns s) (pos D') (entry_of ns') (among rule N ds ps D' ns' h' s'.fit) (is-minimum rule N ds ps D' ns' s');
        strict = strict (pairs-sums N) K (parts_in ds ps) (distance ds) (pos D) (entry_of ns) (Against rule K) top (settles N ds ps all s.posted.tree);
      }

  -- for every input that `judge` accepts
  pub accepted-one : Complete ds → judge_tests rule N ds ps D ns ≡ pass → OneFit rule N ds ps D ns
  accepted-one all e = one-fit all (→stands rule N ds ps D ns e).fitted

  -- two that it accepts
  pub accepted-agree : Complete ds → judge_tests rule N ds ps D ns ≡ pass → (D' : ℕ) (ns' : List ℤ) → judge_tests rule N ds ps D' ns' ≡ pass
      → (v : ℕ) → v < length ps → pos D' *ℤ entry_of ns v ≡ pos D *ℤ entry_of ns' v
  accepted-agree all e D' ns' e' = (accepted-one all e).agree D' ns' (→stands rule N ds ps D' ns' e').fitted
