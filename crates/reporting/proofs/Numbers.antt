-- What keeps the numbers of a fit within 64 bits, and that the table of rounded lengths gives R.
-- `f-fits`, `r-fits`: the ranges of RULES, Least squares. `numerators-summable`,
-- `rounded-summable`: the lengths and the rounded ones can be summed over.
-- `r-same`, `rounded-is`: the table behind whose edges stand zeros has the sums and the entries of the definition.
use mathlib.Core.Path.{◌≡◌, sym, ◌∙◌, ap, subst}
use mathlib.Core.Bool.{cond}
use mathlib.Core.List.{List}
use Prim.Native.Nat.{ℕ, ◌≤◌, ◌<◌}
use native.Mathlib.Nat.{mul-le-mul_right}
use native.Mathlib.Omega.{arith}
use lib.Dec.{ltb}
use lib.IntN.{ℤ, pos, nat_abs, ◌-ℤ◌, ◌*ℤ◌}
use lib.ListN.{length}
use Rattle.exact.specs.Fits.{Fits63}
use Rattle.exact.specs.Sum.{sum, pairs}
use Rattle.exact.specs.Table.{table, entry_of}
use Rattle.exact.specs.LeastSquares.{sq, sum_r}
use Rattle.exact.specs.Nearest.{nearest}
use Rattle.exact.proofs.Fill.{length-table, table_cong}
use Rattle.exact.proofs.LeastSquares.{path_cong}
use Rattle.exact.proofs.Order.{≤_trans}
use Rattle.exact.proofs.Sweep.{sum_abs}
use Rattle.exact.proofs.Sum.{pairs-sums, S-cong}
use Rattle.verdict.specs.declared.Rule.{Rule}
use Rattle.matrix.specs.Place.{distance}
use Rattle.matrix.proofs.Completes.{known-near}
use Rattle.tree_theory.specs.Limits.{max_edges}
use Rattle.lengths.specs.Limits.{max_numerator}
use Rattle.fit_theory.specs.Quantities.{parts_in, rounded_of, tree_length, f_of, r_of, h_of}
use Rattle.fit_theory.specs.Stands.{Stands}
use Rattle.fit_theory.proofs.Demand3.{least, f-range, r-range}
use Rattle.fit_theory.proofs.Ranges.{bounds, rounded-range}
use Rattle.pairs.proofs.Lent as lent
use Rattle.fit_numbers.specs.Terms.{Summable}
use Rattle.fit_numbers.proofs.Squares as squares
use Rattle.fit_numbers.proofs.Written.{rounded-entry}
use Rattle.reporting.specs.Answers.{max_tree_length}

module _ (rule : Rule) (N : ℕ) (ds ps : List ℕ) (D : ℕ) (ns : List ℤ) (s : Stands rule N ds ps D ns) where
  pub edges_few : length ps ≤ max_edges
  edges_few = lent.few-edges s.fitted.posted.tree

  pub total-near : nat_abs (tree_length ns) ≤ max_tree_length
  total-near = let few : length ns ≤ max_edges = omega (arith, s.lengths.whole, edges_few) in
      omega (arith, sum_abs (length ns) max_numerator (entry_of ns) s.lengths.near, mul-le-mul_right max_numerator few)

  pub total-is : sum (length ps) (entry_of ns) ≡ tree_length ns
  total-is = ap (λ (k : ℕ). sum k (entry_of ns)) (sym s.lengths.whole)

  -- the numerators can be summed over
  pub numerators-summable : Summable N (length ps) D ds ps ns
  numerators-summable = record {
    lengthened = record { room = omega arith; allowed = s.fitted.posted.tree; small = lent.small s.lengths };
    most = s.lengths.most;
    room = omega (arith, s.fitted.posted.matrix.whole);
    near = known-near s.fitted.posted.matrix;
  }

  pub f-fits : Fits63 (f_of N ds ps D ns)
  f-fits = record { low = (least rule N ds ps D ns s.fitted).f-low; high = ≤_trans (f-range rule N ds ps D ns s) (record { le = tt }) }

  pub h_fits : Fits63 (h_of N ds ps)
  h_fits = squares.h_fits (length ps) edges_few (parts_in ds ps) N s.fitted.posted.matrix.few

  -- the table of rounded lengths, zeros behind its edges
  module _ (ms : List ℤ) (e : ms ≡ table max_edges (λ v. cond (ltb v (length ps)) (nearest D (entry_of ns v)) (pos 0))) where
    entry-is : (v : ℕ) → v < length ps → entry_of ms v ≡ rounded_of D ns v
    entry-is v h = rounded-entry (length ps) D ns ms e edges_few v h

    pub rounded-summable : Summable N (length ps) 1000 ds ps ms
    rounded-summable = record {
      lengthened = record {
        room = omega arith;
        allowed = s.fitted.posted.tree;
        small = record {
          room = omega (arith, edges_few, ap length e, length-table max_edges (λ u. cond (ltb u (length ps)) (nearest D (entry_of ns u)) (pos 0)));
          near = λ v h. omega (arith, ap nat_abs (entry-is v h), rounded-range (bounds s.fitted.posted.matrix s.lengths) (parts_in ds ps) s.lengths.one v h);
        };
      };
      most = omega arith;
      room = omega (arith, s.fitted.posted.matrix.whole);
      near = known-near s.fitted.posted.matrix;
    }

    pub r-same : sum_r (pairs N) (length ps) (parts_in ds ps) (distance ds) (entry_of ms) ≡ r_of N ds ps D ns
    r-same = S-cong (pairs-sums N) (λ p. ap (λ (z : ℤ). sq (pos 1000 *ℤ distance ds p -ℤ z)) (path_cong (length ps) (parts_in ds ps) (entry_of ms) (rounded_of D ns) entry-is p))

    pub r-fits : Fits63 (sum_r (pairs N) (length ps) (parts_in ds ps) (distance ds) (entry_of ms))
    r-fits = let (low, high) = r-range rule N ds ps D ns s.fitted in subst Fits63 (sym r-same) (record { low = low; high = ≤_trans high (record { le = tt }) })

    pub rounded-is : (after : List ℤ) → after ≡ table (length ps) (entry_of ms) → after ≡ table (length ps) (rounded_of D ns)
    rounded-is after f = f ∙ table_cong (pos 0) (length ps) (entry_of ms) (rounded_of D ns) entry-is
