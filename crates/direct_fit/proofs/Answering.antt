-- A matrix and a resolved tree that pass: the split sums are in range, so the lengths by them are the tree's own, these are a fit
-- (`direct`), and their rounding can be summed over (`rounded-summable`, `r-within`).
use mathlib.Core.Path.{◌≡◌, sym, ◌∙◌, ap, ap₂, subst}
use mathlib.Core.Bool.{Bool, cond}
use mathlib.Core.List.{List, []}
use Prim.Native.Nat.{ℕ, ◌≤◌, ◌<◌}
use native.Mathlib.Omega.{arith}
use borrow.Author.Tests.{lt-ltb}
use lib.IntN.{ℤ, pos, ◌-ℤ◌, ◌*ℤ◌, nat_abs}
use lib.ListN.{length, get_or}
use Rattle.verdict.specs.declared.Place.TheVariants.{Vertex}
use Rattle.verdict.specs.Answer.{pass, test}
use Rattle.verdict.proofs.Answers.{refuses, first-pass, or_else_pass, test-pass}
use Rattle.exact.specs.Order.{◌≤ᶻ◌, Within}
use Rattle.exact.specs.Sum.{pairs}
use Rattle.exact.specs.Table.{table, entry_of}
use Rattle.exact.specs.Nearest.{nearest}
use Rattle.exact.specs.LeastSquares.{sq, sum_r, Equations, Minimum, Rounding, Any}
use Rattle.exact.specs.Fits.{Fits63}
use Rattle.exact.specs.Fraction.{lowest_top, lowest_bottom}
use Rattle.exact.proofs.Divisors.{lowest-is}
use Rattle.exact.proofs.Fill.{length-table, get_or_table, table_cong}
use Rattle.exact.proofs.Order.{nn-pos, pos-≤, ≤_trans, le-by}
use Rattle.exact.proofs.Quote.{by-ring, quote}
use Rattle.exact.proofs.Sum.{pairs-sums, S-cong}
use Rattle.exact.proofs.LeastSquares.{path_cong}
use Rattle.exact.proofs.Sign.{within→abs}
use Rattle.matrix.specs.Limits.{max_distance}
use Rattle.matrix.specs.Place as at
use Rattle.matrix.specs.Place.{place, distance, some_missing, Complete}
use Rattle.matrix.proofs.Completes.{known-near}
use Rattle.tree_theory.specs.Limits.{max_edges}
use Rattle.tree_theory.specs.Chain.{parent_of, parts_pair}
use Rattle.tree_theory.specs.Allowed.{Allowed}
use Rattle.fit_theory.specs.Stands.{Shaped, Posted}
use Rattle.fit_theory.specs.Quantities.{parts_in}
use Rattle.fit_theory.proofs.Steps.{all-parted}
use Rattle.fit_theory.proofs.Complete.{complete-parts, complete-posted}
use Rattle.paths.specs.Standing.{Standing}
use Rattle.fit_numbers.specs.Terms.{Summable}
use Rattle.pairs.proofs.Lent.{few-edges}
use Rattle.tables.specs.Answers.{SplitTable}
use Rattle.direct_theory.specs.Children.{Resolved}
use Rattle.direct_theory.specs.Splits.{split_at, max_split, Gathered, SplitSums, length_by}
use Rattle.direct_theory.specs.Tests.{degree_tests, direct_only}
use Rattle.direct_theory.specs.Lengths.{length_of, top_of, bottom_of, thousandth_of, square_of, Direct}
use Rattle.direct_theory.proofs.BySplits.{edge-positive}
use Rattle.direct_theory.proofs.Degrees.{resolved}
use Rattle.direct_theory.proofs.Ranges.{split-nn, split-le}
use Rattle.direct_theory.proofs.Reduced.{Unreduced, unreduced, lowest-at}
use Rattle.direct_theory.proofs.Fitted.{rounded-small, r-fits, in_lowest, den-most, meets-all, is-minimum, is-rounding}
use Rattle.neighbours.specs.Listed.{Listed}
use Rattle.edge_lengths.specs.Known.{Known}
use Rattle.edge_lengths.specs.Tables.{Lowered}

module _ (N : ℕ) (ds ps : List ℕ) (shaped : Shaped N ds ps) (passed : direct_only N ds ps ≡ pass) where
  abbrev K : ℕ
  K = length ps

  abbrev par : ℕ → ℕ
  par = parent_of ps

  abbrev d : ℕ × ℕ → ℤ
  d = distance ds

  ok : Allowed N K par
  ok = shaped.tree

  both : (degree_tests N ps ≡ pass) × (test 26 (some_missing ds) ≡ pass)
  both = or_else_pass (degree_tests N ps) (test 26 (some_missing ds)) passed

  pub res : Resolved N K par
  res = resolved N K par (first-pass _ _ _ (λ w. refuses 25 (Vertex w)) both.0)

  all : Complete ds
  all = test-pass 26 (some_missing ds) both.1

  -- every pair is measured, so the sums run over all pairs
  parts_are : parts_in ds ps ≡ parts_pair par
  parts_are = complete-parts ds ps all

  pub posted : Posted N ds ps
  posted = complete-posted N ds ps shaped all

  range : (p : ℕ × ℕ) → (pos 0 ≤ᶻ d p) × (d p ≤ᶻ pos max_distance)
  range p = (nn-pos (at.known (get_or ds (place p.0 p.1) 0)), pos-≤ (known-near shaped.matrix (place p.0 p.1)))

  pub direct : Direct N ds ps
  direct = record {
    lowest = in_lowest N K par ok res d range;
    most = den-most N K par ok res d range;
    fits = λ D n c. record {
      equations = subst (λ (A : ℕ → ℕ × ℕ → Bool). Equations (pairs N) K A d D n) (sym parts_are) (meets-all N K par ok res d range D n c);
      minimum = subst (λ (A : ℕ → ℕ × ℕ → Bool). Minimum (pairs N) K A d D n Any) (sym parts_are) (is-minimum N K par ok res d range D n c);
      rounding = subst (λ (A : ℕ → ℕ × ℕ → Bool). Rounding (pairs N) K A d D n (thousandth_of N ds ps) Any) (sym parts_are) (is-rounding N K par ok res d range D n c);
    };
  }

  -- what `split` handed over
  module _ (sums : List ℤ) (is : SplitTable N ds ps sums) where
    sums_are : (v : ℕ) → v < K → entry_of sums v ≡ split_at N par d v
    sums_are v l = is.entries v l ∙ all-parted N ds ps v

    pub splits : SplitSums N K par sums
    splits = record { distances = d; range = range; is = sums_are }

    gathered : Gathered K sums
    gathered = record { near = λ v l. subst (λ z. nat_abs z ≤ max_split) (sym (sums_are v l)) (within→abs max_split (split_at N par d v) (within v)) }
      where
        within : (v : ℕ) → Within (pos max_split) (split_at N par d v)
        within v = record { low = ≤_trans (le-by (nn-pos max_split) (by-ring [] (search quote depth 20) tt)) (split-nn N d range par v); high = split-le N d range ok.few par v }

    pub known : (cs children : List ℕ) → Standing N K ps cs → Listed K par children → Known N K ps cs children sums
    known cs children s l = record { standing = s; resolved = res; listed = l; gathered = gathered }

    -- the lengths by split sums are the tree's own
    own : (v : ℕ) → v < K → (lowest_top (length_by N K par (entry_of sums) v) ≡ top_of N ds ps v) × (lowest_bottom (length_by N K par (entry_of sums) v) ≡ bottom_of N ds ps v)
    own v l = lowest-at (length_by N K par (entry_of sums) v) (length_of N ds ps v) (facts v l) _ _ (lowest-is (length_by N K par (entry_of sums) v) (facts v l).some) (edge-positive N K par ok res d v l)
      where
        facts : (v : ℕ) → v < K → Unreduced (length_by N K par (entry_of sums) v) (length_of N ds ps v)
        facts v l = unreduced N K par ok res d range (entry_of sums) sums_are v l

    -- what `fill` did
    module _ (ns : List ℤ) (es : List ℕ) (ms : List ℤ) (w : Lowered K (length_by N K par (entry_of sums)) ns es ms) where
      pub tops_are : ns ≡ table K (top_of N ds ps)
      tops_are = w.tops ∙ table_cong (pos 0) K _ _ (λ v l. (own v l).0)

      pub bottoms_are : es ≡ table K (bottom_of N ds ps)
      bottoms_are = w.bottoms ∙ table_cong 0 K _ _ (λ v l. (own v l).1)

      entry-is : (v : ℕ) → v < K → entry_of ms v ≡ thousandth_of N ds ps v
      entry-is v h = ap (λ (x : List ℤ). entry_of x v) w.rounded
          ∙ get_or_table max_edges _ (pos 0) v (omega (arith, few-edges ok))
          ∙ ap (λ c. cond c (nearest (lowest_bottom (length_by N K par (entry_of sums) v)) (lowest_top (length_by N K par (entry_of sums) v))) (pos 0)) (lt-ltb v K h)
          ∙ ap₂ nearest (own v h).1 (own v h).0

      pub rounded-summable : Summable N K 1000 ds ps ms
      rounded-summable = record {
        lengthened = record {
          room = omega arith;
          allowed = ok;
          small = record {
            room = omega (arith, few-edges ok, ap length w.rounded ∙ length-table max_edges _);
            near = λ v h. omega (arith, ap nat_abs (entry-is v h), rounded-small N K par ok res d range v h);
          };
        };
        most = omega arith;
        room = omega (arith, shaped.matrix.whole);
        near = known-near shaped.matrix;
      }

      pub r-same : sum_r (pairs N) K (parts_in ds ps) d (entry_of ms) ≡ square_of N ds ps
      r-same = S-cong (pairs-sums N) (λ p. ap (λ (z : ℤ). sq (pos 1000 *ℤ d p -ℤ z)) (path_cong K (parts_in ds ps) (entry_of ms) (thousandth_of N ds ps) entry-is p))

      pub r-within : Fits63 (sum_r (pairs N) K (parts_in ds ps) d (entry_of ms))
      r-within = subst Fits63 (sym r-same) (subst (λ (A : ℕ → ℕ × ℕ → Bool). Fits63 (sum_r (pairs N) K A d (thousandth_of N ds ps))) (sym parts_are) (r-fits N K par ok res d range))

      pub rounded-is : (after : List ℤ) → after ≡ table K (entry_of ms) → after ≡ table K (thousandth_of N ds ps)
      rounded-is after f = f ∙ table_cong (pos 0) K (entry_of ms) (thousandth_of N ds ps) entry-is
