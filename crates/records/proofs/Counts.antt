-- 4 by the outcome of each test of a body's counts, and by the kind of the body.
use mathlib.Core.Path.{◌≡◌, refl, sym, ap, ◌∙◌}
use mathlib.Core.Bool.{true, false, not, ◌||◌}
use mathlib.Core.List.{List}
use Prim.Native.Nat.{ℕ, zero, suc, ◌+◌, ◌-◌, ◌*◌, ◌^◌, ◌<◌, ◌≤◌}
use native.Mathlib.Decide.{ℕ_discrete}
use native.Mathlib.Nat.{mul-suc, mul-le-mul}
use native.Mathlib.Omega.{arith}
use borrow.Author.Tests.{lt-ltb, le-ltb, eq-eqb, ne_eqb, eqb-true, not-false}
use lib.Dec.{eqb, ltb}
use Rattle.exact.proofs.Decide.{by_cases}
use Rattle.verdict.proofs.Answers.{or_none}
use Rattle.records.specs.Form.{names_kind, long_kind, size_at, counts_size, count_at, body_length, no_vertices, counts_out, names_cut, levels_at, long_edges_at, long_length, long_out, body_out}

-- N bytes fewer than N² follow N; both are small
pub square : (n : ℕ) → n * n - n ≡ n * (n - 1)
square zero = refl
square (suc n) = let e : suc n - 1 ≡ n = omega arith in rw e (omega (arith, mul-suc (suc n) n))

pub square-small : (n : ℕ) → n < 2 ^ 16 → n * n ≤ 65535 * 65535
square-small n h = mul-le-mul {n₂ = 65535} {m₂ = 65535} (omega arith) (omega arith)

pub square_large : (n : ℕ) → n ≤ n * n
square_large zero = omega arith
square_large (suc n) = omega (arith, mul-suc (suc n) n)

-- V bytes and three, where V is not 0
pub behind_vertices : (size v : ℕ) → 4 ≤ size → not (eqb (size + 1) (4 + v)) ≡ (eqb v 0 || not (eqb size (4 + (v - 1))))
behind_vertices size v h =
    by_cases (ℕ_discrete v 0)
    (λ z. simp (ne_eqb (size + 1) (4 + v) (omega arith), eq-eqb v 0 z))
    (λ z. by_cases (ℕ_discrete (size + 1) (4 + v))
    (λ e. simp (ne_eqb v 0 z, eq-eqb (size + 1) (4 + v) e, eq-eqb size (4 + (v - 1)) (omega arith)))
    (λ e. simp (ne_eqb v 0 z, ne_eqb (size + 1) (4 + v) e, ne_eqb size (4 + (v - 1)) (omega arith))))

module _ (s : List ℕ) (at : ℕ) where
  pub short : (kind : ℕ) → size_at s at < counts_size kind → true ≡ counts_out s at kind
  short kind h = simp (lt-ltb (size_at s at) (counts_size kind) h)

  module _ (size n : ℕ) (e : size ≡ size_at s at) where
    by-strains : n ≡ count_at s at 1 → 2 ≤ size → not (eqb size (2 + (n * n - n))) ≡ counts_out s at 1
    by-strains f h = simp (sym e, sym f, square n, le-ltb size 2 h)

    by_vertices : n ≡ count_at s at 2 → 4 ≤ size → not (eqb (size + 1) (4 + n)) ≡ counts_out s at 2
    by_vertices f h = simp (sym e, sym f, le-ltb size 4 h) (behind_vertices size n h)

    -- by the kind
    module _ (kind : ℕ) (f : n ≡ count_at s at kind) (h : counts_size kind ≤ size) where
      pub of-matrix : kind ≡ 1 → not (eqb size (2 + (n * n - n))) ≡ counts_out s at kind
      of-matrix k = by-strains (rw k at f) (rw k at h) ∙ ap (counts_out s at) (sym k)

      pub of_tree : kind ≡ 2 → not (eqb (size + 1) (4 + n)) ≡ counts_out s at kind
      of_tree k = by_vertices (rw k at f) (rw k at h) ∙ ap (counts_out s at) (sym k)

      pub of-lengths : (kind ≡ 1 → ⊥) → (kind ≡ 2 → ⊥) → not (eqb size (6 + 8 * n)) ≡ counts_out s at kind
      of-lengths k l = simp (sym e, sym f, le-ltb size (counts_size kind) h, ne_eqb kind 1 k, ne_eqb kind 2 l)

-- counts that are in order say how long the body is
pub counted : (s : List ℕ) (at kind : ℕ) → counts_out s at kind ≡ false → size_at s at ≡ body_length kind (count_at s at kind)
counted s at kind e =
    let due = body_length kind (count_at s at kind) in
    let none = no_vertices kind (count_at s at kind) in
    let (_, rest) = or_none (ltb (size_at s at) (counts_size kind)) (none || not (eqb (size_at s at) due)) e in
    eqb-true (size_at s at) due (not-false (eqb (size_at s at) due) (or_none none (not (eqb (size_at s at) due)) rest).1)

-- ---- long lengths
-- L times K + 1 is small
pub product_small : (l k : ℕ) → l < 2 ^ 16 → k < 2 ^ 16 → l * (k + 1) ≤ 65535 * 65536
product_small l k h g = mul-le-mul {n₂ = 65535} {m₂ = 65536} (omega arith) (omega arith)

module _ (s : List ℕ) (at : ℕ) where
  pub long-short : (size : ℕ) → size ≡ size_at s at → size < 4 → true ≡ long_out s at
  long-short size e h = simp (sym e, lt-ltb size 4 h)

  pub long-by : (size l k : ℕ) → size ≡ size_at s at → l ≡ levels_at s at → k ≡ long_edges_at s at → 4 ≤ size → not (eqb size (4 + 4 * (l * (k + 1)))) ≡ long_out s at
  long-by size l k e f g h = simp (sym e, sym f, sym g, le-ltb size 4 h)

  pub long-counted : long_out s at ≡ false → size_at s at ≡ long_length (levels_at s at) (long_edges_at s at)
  long-counted e =
      let due = long_length (levels_at s at) (long_edges_at s at) in
      eqb-true (size_at s at) due (not-false (eqb (size_at s at) due) (or_none (ltb (size_at s at) 4) (not (eqb (size_at s at) due)) e).1)

  -- ---- by the kind
  module _ (kind : ℕ) where
    pub body_names : kind ≡ names_kind → body_out s at kind ≡ names_cut s at
    body_names e = simp (eq-eqb kind names_kind e)

    module _ (n : kind ≡ names_kind → ⊥) where
      pub body_long : kind ≡ long_kind → body_out s at kind ≡ long_out s at
      body_long e = simp (ne_eqb kind names_kind n, eq-eqb kind long_kind e)

      pub body_counts : (kind ≡ long_kind → ⊥) → body_out s at kind ≡ counts_out s at kind
      body_counts e = simp (ne_eqb kind names_kind n, ne_eqb kind long_kind e)
