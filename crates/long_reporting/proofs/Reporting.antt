-- What lengths in digits that fit give: the tables that the sums ask for, and the numbers that they are.
use mathlib.Core.Path.{◌≡◌, refl, sym, ◌∙◌, ap, subst}
use mathlib.Core.Bool.{Bool, true, false, cond, true≢false}
use mathlib.Core.List.{List}
use Prim.Native.Nat.{ℕ, zero, suc, ◌+◌, ◌*◌, ◌-◌, ◌≤◌, ◌<◌}
use native.Mathlib.Decide.{ℕ_discrete}
use native.Mathlib.Omega.{arith}
use lib.IntN.{ℤ, pos, nat_abs, ◌-ℤ◌, ◌*ℤ◌}
use lib.ListN.{length, get_or, set}
use lib.Seq.{get_or-set_same, get_or-set_other}
use lib.Dec.{T}
use lib.Signed.{non_neg}
use mir.Syntax.{w32, w64}
use mir.Val.{Fits, SFits, to_z, of_z}
use Rattle.exact.specs.Order.{◌≤ᶻ◌}
use Rattle.exact.specs.Sum.{sum, pairs}
use Rattle.exact.specs.Table.{table, entry_of}
use Rattle.exact.specs.Fits.{Fits63}
use Rattle.exact.specs.Nearest.{nearest}
use Rattle.exact.specs.LeastSquares.{sq, hops, sum_f, sum_r}
use Rattle.exact.proofs.Order.{≤_trans, nn-pos}
use Rattle.exact.proofs.Sign.{back}
use Rattle.exact.proofs.Sum.{sum_cong, pairs-sums, S-cong, S-sq}
use Rattle.exact.proofs.Fill.{length-table, get_or_table}
use Rattle.exact.proofs.LeastSquares.{path_cong}
use Rattle.verdict.specs.declared.Rule.{Rule}
use Rattle.matrix.specs.Place.{distance, pair_count, some_missing}
use Rattle.matrix.specs.Proper.{Proper}
use Rattle.matrix.proofs.Completes.{known-near}
use Rattle.matrix.proofs.Places.{pairs-few}
use Rattle.mean.specs.Mean.{Mean}
use Rattle.std.specs.Prelude.{Some, None}
use Rattle.mean.specs.Mean.{times, mean_of}
use Rattle.tree_theory.specs.Limits.{max_edges}
use Rattle.tree_theory.specs.EdgeTable.{EdgeTable}
use Rattle.fit_theory.specs.Quantities.{parts_in, rounded_of, tree_length, f_of, r_of, h_of}
use Rattle.fit_theory.proofs.Demand3.{least, r-range, h-high}
use Rattle.paths.specs.Standing.{Standing}
use Rattle.fit_numbers.specs.Terms.{Summable}
use Rattle.long_digits.specs.Digits.{base}
use Rattle.long_theory.specs.Long.{digit_of, long_denominator, long_numerator, long_numerators, LongProper, LongStands}
use Rattle.long_sums.specs.Ready.{LongReady}
use Rattle.long_sums.proofs.Filling.{Filling, fill_start, fill_turn, fill_end}
use Rattle.long_lengths.specs.Edge.{LongEdge}
use Rattle.long_rounding.specs.Ready.{LongNear}
use Rattle.long_numbers.specs.Wides.{Natural, Wides}
use Rattle.long_reporting.specs.Reported.{Means}

-- ---- one edge's digits
module _ {K : ℕ} {Ds : List ℕ} {ns : List ℤ} (p : LongProper K Ds ns) (v : ℕ) (l : v < K) where
  pub long-edge : LongEdge K (length Ds) Ds ns v
  long-edge = record { row = record { table = omega (arith, p.whole); edge = l }; levels = omega arith; digits = p.digits; tops = λ k _. p.tops (k * K + v) }

  pub long-near : LongNear K (length Ds) Ds ns v
  long-near = record { one = p.one; near = p.near v l }

-- ---- the table of rounded lengths, filled edge by edge
pub record Rounding (K : ℕ) (f : ℕ → ℤ) (v : ℕ) (r : List ℤ) : Type 0 where
  pub filling : Filling K f v r
  pub near : (u : ℕ) → u < v → nat_abs (entry_of r u) ≤ 100000000001

module _ (K : ℕ) (f : ℕ → ℤ) where
  pub rounding-start : (r : List ℤ) → r ≡ table max_edges (λ _. pos 0) → Rounding K f 0 r
  rounding-start r e = record { filling = fill_start K f r e; near = λ u l. absurd (omega arith) }

  pub rounding-turn : K ≤ max_edges → (v : ℕ) (r : List ℤ) (y : ℤ) → v < K → y ≡ f v → nat_abs y ≤ 100000000001 → Rounding K f v r → Rounding K f (v + 1) (set r v y)
  rounding-turn few v r y l e h w = record { filling = fill_turn K f few v r y l e w.filling; near = λ u q. go u q (ℕ_discrete u v) }
    where
      go : (u : ℕ) → u < v + 1 → Dec (u ≡ v) → nat_abs (entry_of (set r v y) u) ≤ 100000000001
      go u q (yes p) = omega (arith, ap (λ (i : ℕ). nat_abs (entry_of (set r v y) i)) p, ap nat_abs (get_or-set_same r v y (pos 0) (omega (arith, w.filling.size))), h)
      go u q (no p) = omega (arith, ap nat_abs (get_or-set_other r v u y (pos 0) p), w.near u (omega (arith, p, q)))

  pub rounding-end : (v : ℕ) (r : List ℤ) → K ≤ v → Rounding K f v r → EdgeTable K f r × ((u : ℕ) → u < K → nat_abs (entry_of r u) ≤ 100000000001)
  rounding-end v r h w = (fill_end K f v r h w.filling, λ u l. w.near u (omega arith))

-- ---- a fit in digits
module _ (rule : Rule) (N : ℕ) (ds ps Ds : List ℕ) (ns : List ℤ) (s : LongStands rule N ds ps Ds ns) where
  abbrev L : ℕ
  L = length Ds

  abbrev K : ℕ
  K = length ps

  abbrev D : ℕ
  D = long_denominator L Ds

  abbrev n : List ℤ
  n = long_numerators L K ns

  n-is : (v : ℕ) → v < K → entry_of n v ≡ long_numerator L K ns v
  n-is v l = get_or_table K (long_numerator L K ns) (pos 0) v l

  pub long-ready : {cs : List ℕ} → Standing N K ps cs → LongReady N K L Ds ds ps cs ns
  long-ready w = record {
    standing = w;
    room = omega (arith, s.fitted.posted.matrix.whole);
    near = known-near s.fitted.posted.matrix;
    levels = omega arith;
    digits = s.lengths.digits;
    table = omega (arith, s.lengths.whole);
    tops = s.lengths.tops;
  }

  -- F over the numerators as the code has them
  pub f-same : sum_f (pairs N) K (parts_in ds ps) (distance ds) (pos D) (long_numerator L K ns) ≡ f_of N ds ps D n
  f-same = S-cong (pairs-sums N) (λ p. ap (λ z. distance ds p *ℤ (pos D *ℤ distance ds p -ℤ z)) (path_cong K (parts_in ds ps) (long_numerator L K ns) (entry_of n) (λ v l. sym (n-is v l)) p))

  pub f-up : pos 0 ≤ᶻ sum_f (pairs N) K (parts_in ds ps) (distance ds) (pos D) (long_numerator L K ns)
  f-up = subst (λ z. pos 0 ≤ᶻ z) (sym f-same) (least rule N ds ps D n s.fitted).f-low

  pub total-same : sum K (long_numerator L K ns) ≡ tree_length n
  total-same = sum_cong K (λ v l. sym (n-is v l)) ∙ ap (λ (k : ℕ). sum k (entry_of n)) (sym (length-table K (long_numerator L K ns)))

  pub h_fits : Fits63 (h_of N ds ps)
  h_fits = record { low = S-sq (pairs-sums N) (hops K (parts_in ds ps)); high = ≤_trans (h-high K s.lengths.few (parts_in ds ps) N s.fitted.posted.matrix.few) (record { le = tt }) }

  -- the rounded lengths
  module _ {ms : List ℤ} (t : EdgeTable K (λ v. nearest D (long_numerator L K ns v)) ms) (near : (v : ℕ) → v < K → nat_abs (entry_of ms v) ≤ 100000000001) where
    entry-is : (v : ℕ) → v < K → entry_of ms v ≡ rounded_of D n v
    entry-is v l = t.entries v l ∙ ap (nearest D) (sym (n-is v l))

    pub rounded-is : EdgeTable K (rounded_of D n) ms
    rounded-is = record { size = t.size; entries = entry-is; rest = t.rest }

    pub rounded-summable : Summable N K 1000 ds ps ms
    rounded-summable = record {
      lengthened = record {
        room = omega arith;
        allowed = s.fitted.posted.tree;
        small = record { room = omega (arith, t.size, s.lengths.few); near = λ v l. omega (arith, near v l) };
      };
      most = omega arith;
      room = omega (arith, s.fitted.posted.matrix.whole);
      near = known-near s.fitted.posted.matrix;
    }

    pub r-same : sum_r (pairs N) K (parts_in ds ps) (distance ds) (entry_of ms) ≡ r_of N ds ps D n
    r-same = S-cong (pairs-sums N) (λ p. ap (λ (z : ℤ). sq (pos 1000 *ℤ distance ds p -ℤ z)) (path_cong K (parts_in ds ps) (entry_of ms) (rounded_of D n) entry-is p))

    pub r-fits : Fits63 (sum_r (pairs N) K (parts_in ds ps) (distance ds) (entry_of ms))
    r-fits = let (low, high) = r-range rule N ds ps D n s.fitted in subst Fits63 (sym r-same) (record { low = low; high = ≤_trans high (record { le = tt }) })

-- ---- the count that is left of the pairs
pub left-small : {N : ℕ} {ds : List ℕ} (K : ℕ) → Proper N ds → pair_count N - K ≤ 2016
left-small {N} K m = omega (arith, pairs-few N m.few)
