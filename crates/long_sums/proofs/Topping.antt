-- One digit a turn: the numerators over the digits so far, cut off.
use mathlib.Core.Path.{◌≡◌, sym, ◌∙◌, ap}
use mathlib.Core.List.{List}
use Prim.Native.Nat.{ℕ, suc, ◌+◌, ◌*◌, ◌-◌, ◌≤◌, ◌<◌}
use native.Mathlib.Nat.{mul-le-mul_right}
use native.Mathlib.Numerals.{add-one}
use native.Mathlib.Omega.{arith}
use lib.IntN.{ℤ, pos, nat_abs, ◌+ℤ◌, ◌*ℤ◌}
use lib.ListN.{length, drop, length-drop}
use lib.Seq.{get_or-drop, take_all}
use Rattle.exact.specs.Table.{table, entry_of}
use Rattle.exact.proofs.Fill.{length-table, get_or_table_const}
use Rattle.long_digits.specs.Digits.{base, value}
use Rattle.long_digits.specs.Clamp.{clamp, most}
use Rattle.long_digits.proofs.Values.{value-suc, value_none}
use Rattle.long_digits.proofs.Clamps.{clamp-near, clamp_in, clamp-next}
use Rattle.tree_theory.specs.Limits.{max_edges}
use Rattle.tree_theory.specs.EdgeTable.{EdgeTable}
use Rattle.long_theory.specs.Long.{digit_of}
use Rattle.long_sums.specs.Ready.{LongDigits, Levels}
use Rattle.long_sums.proofs.Gathering.{rows}

pub record Topped (K L : ℕ) (ns : List ℤ) (k at : ℕ) (tops : List ℤ) : Type 0 where
  pub here : k ≤ L
  pub start : at ≡ k * K
  pub sums : EdgeTable K (λ v. clamp most (value k (λ j. digit_of K ns j v))) tops

module _ {K L : ℕ} {ns : List ℤ} (w : LongDigits K L ns) where
  pub top_start : (tops : List ℤ) → tops ≡ table max_edges (λ _. pos 0) → Topped K L ns 0 0 tops
  top_start tops e = record {
    here = omega arith;
    start = omega arith;
    sums = record {
      size = ap length e ∙ length-table max_edges (λ _. pos 0);
      entries = λ v _. none v ∙ sym (ap (clamp most) (value_none (λ j. digit_of K ns j v)) ∙ clamp_in most (pos 0) (omega arith));
      rest = λ v _. none v;
    };
  }
    where
      none : (v : ℕ) → entry_of tops v ≡ pos 0
      none v = ap (λ (l : List ℤ). entry_of l v) e ∙ get_or_table_const max_edges (pos 0) v

  pub top-end : {k at : ℕ} {tops : List ℤ} → L ≤ k → Topped K L ns k at tops → EdgeTable K (λ v. clamp most (value L (λ j. digit_of K ns j v))) tops
  top-end {k} {at} {tops} h g = let e : k ≡ L = omega (arith, g.here) in record {
    size = g.sums.size;
    entries = λ v l. g.sums.entries v l ∙ ap (λ (i : ℕ). clamp most (value i (λ j. digit_of K ns j v))) e;
    rest = g.sums.rest;
  }

  module _ {k at : ℕ} {tops : List ℤ} (g : Topped K L ns k at tops) (l : k < L) where
    pub top-room : at + K ≤ length ns
    top-room = omega (arith, g.start, w.table, mul-le-mul_right {m = suc k} {n = L} K l)

    whole : rows at ns ≡ drop at ns
    whole = take_all (length ns - at) (drop at ns) (omega (arith, length-drop at ns))

    at-is : (v : ℕ) → entry_of (rows at ns) v ≡ digit_of K ns k v
    at-is v = ap (λ (x : List ℤ). entry_of x v) whole ∙ get_or-drop at ns v (pos 0) ∙ ap (λ (i : ℕ). entry_of ns (i + v)) g.start

    near : (v : ℕ) → nat_abs (entry_of (rows at ns) v) ≤ 999999 * most
    near v = omega (arith, ap nat_abs (at-is v), w.tops (k * K + v))

    pub top-levels : Levels K tops (rows at ns)
    top-levels = record {
      room = omega (arith, top-room, ap length whole, length-drop at ns);
      top = λ v h. omega (arith, ap nat_abs (g.sums.entries v h), clamp-near most (value k (λ j. digit_of K ns j v)));
      next = λ v _. near v;
    }

    pub top-turn : {new : List ℤ} → EdgeTable K (λ v. clamp most (pos base *ℤ entry_of tops v +ℤ entry_of (rows at ns) v)) new → Topped K L ns (k + 1) (at + K) new
    top-turn {new} t = rw add-one (record {
      here = l;
      start = omega (arith, g.start);
      sums = record {
        size = t.size;
        entries = λ v h. t.entries v h
            ∙ ap (λ z. clamp most (pos base *ℤ z +ℤ entry_of (rows at ns) v)) (g.sums.entries v h)
            ∙ clamp-next most (entry_of (rows at ns) v) (near v) (value k (λ j. digit_of K ns j v))
            ∙ ap (λ z. clamp most (pos base *ℤ value k (λ j. digit_of K ns j v) +ℤ z)) (at-is v)
            ∙ ap (clamp most) (sym (value-suc k (λ j. digit_of K ns j v)));
        rest = t.rest;
      };
    })
