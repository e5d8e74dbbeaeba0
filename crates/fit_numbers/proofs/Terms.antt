-- F, gathered modulo 2^64. The idea: each term fits an i64, so the accumulator takes it exactly, modulo 2^64.
use mathlib.Core.Path.{◌≡◌, sym, ap, ap₂, ◌∙◌, subst}
use mathlib.Core.Bool.{true}
use mathlib.Core.List.{List}
use Prim.Native.Nat.{ℕ, ◌+◌, ◌<◌, ◌^◌}
use native.Mathlib.Numerals.{add-one}
use native.Mathlib.Omega.{arith}
use lib.IntN.{ℤ, pos, nat_abs, ◌+ℤ◌, ◌*ℤ◌, *ℤ-zero}
use lib.ListN.{get_or}
use mir.Syntax.{w64}
use mir.Val.{SFits, to_z, of_z}
use Rattle.exact.specs.Sum.{sweep}
use Rattle.exact.specs.Modulo.{Modulo}
use Rattle.exact.proofs.Modular.{modulo_chain}
use Rattle.exact.proofs.Sign.{fits_abs, back, back-pos}
use Rattle.matrix.specs.Limits.{missing}
use Rattle.matrix.specs.Place.{distance, measured, place}
use Rattle.matrix.proofs.Looking.{known_of}
use Rattle.fit_theory.specs.Quantities.{parts_in}
use Rattle.exact.proofs.Sweep.{sweep-start, sweep-step, sweep-column}
use Rattle.pairs.specs.Ready.{Ready, InRange, remainder_at}
use Rattle.fit_theory.proofs.Ranges.{product-range}
use Rattle.pairs.proofs.Bounded.{in_bounds}
use Rattle.pairs.proofs.Remaining.{far-near, has_not}
use Rattle.fit_numbers.specs.Terms.{term_of}
use Rattle.fit_numbers.proofs.Back.{remainder-back}

module _ {N K D : ℕ} {ds ps cs : List ℕ} {ns : List ℤ} (w : Ready N K D ds ps cs ns) (w' : InRange K ns) where
  -- k is where the code reads the distance, off what it gets as the remainder
  module _ (i j : ℕ) (rising : i < j) (strain : j < N) (k : ℕ) (e : k ≡ place i j) where
    pub term-none : get_or ds k 0 ≡ missing → pos 0 ≡ term_of K D ds ps ns (i, j)
    term-none m = sym (ap (λ (y : ℤ). distance ds (i, j) *ℤ y) (has_not w i j rising strain k e m) ∙ *ℤ-zero (distance ds (i, j)))

    module _ (m : measured ds (i, j) ≡ true) (off : ℤ) (g : off ≡ remainder_at K D ds ps ns (i, j)) where
      same : to_z w64 (get_or ds k 0) *ℤ to_z w64 (of_z w64 off) ≡ term_of K D ds ps ns (i, j)
      same = rw e (ap₂ ◌*ℤ◌ (back-pos (get_or ds (place i j) 0) (omega (arith, far-near w i j rising strain m)) ∙ ap pos (sym (known_of (get_or ds (place i j) 0) m)))
          (remainder-back w i j rising strain off g))

      near : nat_abs (to_z w64 (get_or ds k 0) *ℤ to_z w64 (of_z w64 off)) < 2 ^ 63
      near = omega (arith, ap nat_abs same, product-range (in_bounds w w') (parts_in ds ps) (i, j))

      pub term_fits : SFits w64 (to_z w64 (get_or ds k 0) *ℤ to_z w64 (of_z w64 off))
      term_fits = fits_abs (to_z w64 (get_or ds k 0) *ℤ to_z w64 (of_z w64 off)) near

      pub term-back : to_z w64 (of_z w64 (to_z w64 (get_or ds k 0) *ℤ to_z w64 (of_z w64 off))) ≡ term_of K D ds ps ns (i, j)
      term-back = back (to_z w64 (get_or ds k 0) *ℤ to_z w64 (of_z w64 off)) near ∙ same

  -- a term comes back as it went in
  pub term-whole : (p : ℕ × ℕ) → to_z w64 (of_z w64 (term_of K D ds ps ns p)) ≡ term_of K D ds ps ns p
  term-whole p = back (term_of K D ds ps ns p) (omega (arith, product-range (in_bounds w w') (parts_in ds ps) p))

-- one term more, for any terms f
pub gathered_next : (f : ℕ × ℕ → ℤ) (i j acc r : ℕ) (t : ℤ) → Modulo acc (sweep f j i) → Modulo r (pos acc +ℤ t) → t ≡ f (i, j)
    → Modulo r (sweep f j (i + 1))
gathered_next f i j acc r t h g e = subst (Modulo r) (ap (λ z. sweep f j i +ℤ z) e ∙ sym (sweep-step f j i) ∙ ap (sweep f j) (sym (add-one i))) (modulo_chain t h g)

-- nothing stands before the pair 0 1
pub swept_start : (f : ℕ × ℕ → ℤ) → sweep f 1 0 ≡ pos 0
swept_start f = sweep-column f 0 ∙ sweep-start f
