-- One digit a turn: the edges' sums over the digits so far, cut off. `level-ready`, `level-range`: the level at hand is what `edge_sums` asks
-- for. `level-near`: its sums are small enough to be taken in. `gather_start`, `gather_turn`, `gather_end`: the loop.
use mathlib.Core.Path.{◌≡◌, refl, sym, ◌∙◌, ap, ap₂, subst, fun_ext}
use mathlib.Core.Bool.{Bool}
use mathlib.Core.List.{List}
use mathlib.Core.Logic.{inr}
use Prim.Native.Nat.{ℕ, zero, suc, ◌+◌, ◌*◌, ◌-◌, ◌≤◌, ◌<◌}
use native.Mathlib.Nat.{le_refl, mul-le-mul_right}
use native.Mathlib.Numerals.{add-one}
use native.Mathlib.Omega.{arith}
use lib.IntN.{ℤ, pos, nat_abs, ◌+ℤ◌, ◌*ℤ◌}
use lib.ListN.{length, get_or, take, drop, length-drop}
use lib.Seq.{get_or-drop, take_all}
use Rattle.exact.specs.Sum.{pairs, ind}
use Rattle.exact.specs.LeastSquares.{remainder, edge_sum}
use Rattle.exact.specs.Table.{table, entry_of}
use Rattle.exact.proofs.Fill.{length-table, get_or_table_const}
use Rattle.exact.proofs.Sum.{pairs-sums}
use Rattle.exact.proofs.Sweep.{sweep-end, sweep-within, ind_abs}
use Rattle.long_digits.specs.Digits.{base, value, natural}
use Rattle.long_digits.specs.Clamp.{clamp, most}
use Rattle.long_digits.proofs.Values.{value-suc, value_none, value_pos}
use Rattle.long_digits.proofs.Clamps.{clamp-near, clamp_in, clamp-next}
use Rattle.long_digits.proofs.Sums.{edge_sum-value}
use Rattle.matrix.specs.Place.{distance}
use Rattle.tree_theory.specs.Limits.{max_edges}
use Rattle.tree_theory.specs.EdgeTable.{EdgeTable}
use Rattle.fit_theory.specs.Quantities.{parts_in}
use Rattle.fit_theory.proofs.Ranges.{remainder-range}
use Rattle.paths.proofs.Bounds.{few-edges}
use Rattle.pairs.specs.Ready.{Ready, InRange}
use Rattle.pairs.proofs.Bounded.{in_bounds}
use Rattle.edge_sums.specs.Sums.{EdgeSums}
use Rattle.long_theory.specs.Long.{digit_of}
use Rattle.long_sums.specs.Ready.{LongReady, LongSums, Levels}

-- the digits from a place on, as the code lends them
abbrev pub rows : ℕ → List ℤ → List ℤ
rows at ns = take (length ns - at) (drop at ns)

-- the sum of edge v over digit k alone
abbrev pub level_sum : (N K : ℕ) → (Ds ds ps : List ℕ) → List ℤ → ℕ → ℕ → ℤ
level_sum N K Ds ds ps ns k v = edge_sum (pairs N) K (parts_in ds ps) (distance ds) (pos (get_or Ds k 0)) (digit_of K ns k) v

pub record Gathered (N K L : ℕ) (Ds ds ps : List ℕ) (ns : List ℤ) (k at : ℕ) (tops : List ℤ) : Type 0 where
  pub here : k ≤ L
  pub start : at ≡ k * K
  pub sums : EdgeTable K (λ v. clamp most (value k (λ j. level_sum N K Ds ds ps ns j v))) tops

module _ {N K L : ℕ} {Ds ds ps cs : List ℕ} {ns : List ℤ} (w : LongReady N K L Ds ds ps cs ns) where
  pub gather_start : (tops : List ℤ) → tops ≡ table max_edges (λ _. pos 0) → Gathered N K L Ds ds ps ns 0 0 tops
  gather_start tops e = record {
    here = omega arith;
    start = omega arith;
    sums = record {
      size = ap length e ∙ length-table max_edges (λ _. pos 0);
      entries = λ v _. none v ∙ sym (ap (clamp most) (value_none (λ j. level_sum N K Ds ds ps ns j v)) ∙ clamp_in most (pos 0) (omega arith));
      rest = λ v _. none v;
    };
  }
    where
      none : (v : ℕ) → entry_of tops v ≡ pos 0
      none v = ap (λ (l : List ℤ). entry_of l v) e ∙ get_or_table_const max_edges (pos 0) v

  pub gather_end : {k at : ℕ} {tops : List ℤ} → L ≤ k → Gathered N K L Ds ds ps ns k at tops → LongSums N K L Ds ds ps ns tops
  gather_end {k} {at} {tops} h g = record {
    size = g.sums.size;
    entries = λ v l. g.sums.entries v l ∙ ap (clamp most) (whole v);
    rest = g.sums.rest;
  }
    where
      same : k ≡ L
      same = omega (arith, g.here)

      whole : (v : ℕ) → value k (λ j. level_sum N K Ds ds ps ns j v)
          ≡ edge_sum (pairs N) K (parts_in ds ps) (distance ds) (pos (natural L (λ j. get_or Ds j 0))) (λ u. value L (λ j. digit_of K ns j u)) v
      whole v = ap (λ (i : ℕ). value i (λ j. level_sum N K Ds ds ps ns j v)) same
          ∙ sym (edge_sum-value (pairs-sums N) K (parts_in ds ps) (distance ds) L (λ j. pos (get_or Ds j 0)) (digit_of K ns) v)
          ∙ ap (λ z. edge_sum (pairs N) K (parts_in ds ps) (distance ds) z (λ u. value L (λ j. digit_of K ns j u)) v) (value_pos L (λ j. get_or Ds j 0))

  module _ {k at : ℕ} {tops : List ℤ} (g : Gathered N K L Ds ds ps ns k at tops) (l : k < L) where
    pub level-room : at + K ≤ length ns
    level-room = omega (arith, g.start, w.table, mul-le-mul_right {m = suc k} {n = L} K l)

    whole : rows at ns ≡ drop at ns
    whole = take_all (length ns - at) (drop at ns) (omega (arith, length-drop at ns))

    level-at : (v : ℕ) → entry_of (rows at ns) v ≡ digit_of K ns k v
    level-at v = ap (λ (x : List ℤ). entry_of x v) whole ∙ get_or-drop at ns v (pos 0) ∙ ap (λ (i : ℕ). entry_of ns (i + v)) g.start

    level-small : (v : ℕ) → nat_abs (entry_of (rows at ns) v) < base
    level-small v = omega (arith, ap nat_abs (level-at v), w.tops (k * K + v))

    long : K ≤ length (rows at ns)
    long = omega (arith, level-room, ap length whole, length-drop at ns)

    pub level-ready : Ready N K (get_or Ds k 0) ds ps cs (rows at ns)
    level-ready = record {
      standing = w.standing;
      most = omega (arith, w.digits k);
      room = w.room;
      near = w.near;
      small = record { room = long; near = λ v _. omega (arith, level-small v) };
    }

    pub level-range : InRange K (rows at ns)
    level-range = record { room = long; near = λ v _. omega (arith, level-small v) }

    module _ {sums : List ℤ} (s : EdgeSums N K (get_or Ds k 0) ds ps (rows at ns) sums) where
      level-is : (v : ℕ) → v < K → entry_of sums v ≡ level_sum N K Ds ds ps ns k v
      level-is v h = s.entries v h
          ∙ ap (λ (x : ℕ → ℤ). edge_sum (pairs N) K (parts_in ds ps) (distance ds) (pos (get_or Ds k 0)) x v) (fun_ext level-at)

      level-near : (v : ℕ) → v < K → nat_abs (entry_of sums v) ≤ 999999 * most
      level-near v h = omega (
        arith,
        ap nat_abs (s.entries v h ∙ sym (sweep-end term N)),
        sweep-within N 12550000000000 term w.standing.allowed.few
            (λ p _ _. omega (arith, ind_abs (parts_in ds ps v p) (r p), remainder-range (in_bounds level-ready level-range) (parts_in ds ps) p))
            N 0 (le_refl N) (omega arith) (inr refl),
      )
        where
          r : ℕ × ℕ → ℤ
          r p = remainder K (parts_in ds ps) (distance ds) (pos (get_or Ds k 0)) (entry_of (rows at ns)) p

          term : ℕ × ℕ → ℤ
          term p = ind (parts_in ds ps v p) *ℤ remainder K (parts_in ds ps) (distance ds) (pos (get_or Ds k 0)) (entry_of (rows at ns)) p

      pub levels : Levels K tops sums
      levels = record {
        room = omega (arith, s.size, few-edges w.standing);
        top = λ v h. omega (arith, ap nat_abs (g.sums.entries v h), clamp-near most (value k (λ j. level_sum N K Ds ds ps ns j v)));
        next = level-near;
      }

      pub gather_turn : {new : List ℤ} → EdgeTable K (λ v. clamp most (pos base *ℤ entry_of tops v +ℤ entry_of sums v)) new
          → Gathered N K L Ds ds ps ns (k + 1) (at + K) new
      gather_turn {new} t = rw add-one (record {
        here = l;
        start = omega (arith, g.start);
        sums = record {
          size = t.size;
          entries = λ v h. t.entries v h
              ∙ ap (λ z. clamp most (pos base *ℤ z +ℤ entry_of sums v)) (g.sums.entries v h)
              ∙ clamp-next most (entry_of sums v) (level-near v h) (value k (λ j. level_sum N K Ds ds ps ns j v))
              ∙ ap (λ z. clamp most (pos base *ℤ value k (λ j. level_sum N K Ds ds ps ns j v) +ℤ z)) (level-is v h)
              ∙ ap (clamp most) (sym (value-suc k (λ j. level_sum N K Ds ds ps ns j v)));
          rest = t.rest;
        };
      })
