-- The tree length of an accepted sheet, from its third record.
use mathlib.Core.Path.{◌≡◌, refl, sym, ◌∙◌, ap, ap₂}
use mathlib.Core.List.{List}
use Prim.Native.Nat.{ℕ, ◌+◌, ◌*◌, ◌≤◌, ◌<◌}
use native.Mathlib.Omega.{arith}
use lib.IntN.{ℤ, pos, nat_abs}
use lib.ListN.{length}
use mir.Syntax.{w64}
use mir.Val.{to_z, of_z}
use Rattle.exact.specs.Sum.{sum}
use Rattle.exact.specs.Table.{padded, entry_of}
use Rattle.exact.proofs.Fill.{length-table, get_or_table}
use Rattle.exact.proofs.Sum.{sum_cong}
use Rattle.exact.proofs.Sweep.{sum_abs}
use Rattle.std.specs.Prelude.{Result, Ok, Err, IsOk}
use Rattle.verdict.specs.Answer.{pass, answer_of}
use Rattle.verdict.specs.declared.Refusal.{Refusal}
use Rattle.verdict.specs.declared.Rule.TheVariants.{Plain}
use Rattle.tree_theory.specs.Limits.{max_edges}
use Rattle.lengths.specs.Limits.{max_numerator}
use Rattle.fit_theory.specs.Quantities.{tree_length}
use Rattle.pairs.specs.Ready.{InRange}
use Rattle.records.proofs.Decoding.{padded-length, padded-before}
use Rattle.endian.specs.Bytes.{number, twos}
use Rattle.records.specs.Form.{start_of}
use Rattle.reading.specs.Holds.{denominator_of, edges_of, numerator_at, numerators_of}
use Rattle.reading.specs.Tests.{sheet_tests}
use Rattle.reporting.specs.Answers.{max_tree_length}
use Rattle.sheet.proofs.Laws.{back, not_pass, sheet-stands}
use Rattle.comparison.specs.Measured.{LengthOf}
use Rattle.comparison.proofs.Inside.{lengths-there}

-- what passes has a value
pub has_value : {A : Type 0} (r : Result A Refusal) → answer_of r ≡ pass → IsOk r
has_value (Ok x) e = refl
has_value (Err q) e = absurd (not_pass q e)

-- ---- an accepted sheet
module _ (s : List ℕ) (z : sheet_tests Plain s ≡ pass) where
  abbrev held : List ℤ
  held = padded (pos 0) max_edges (edges_of s) (numerator_at s)

  many : length (numerators_of s) ≡ edges_of s
  many = length-table (edges_of s) (numerator_at s)

  pub few : edges_of s ≤ max_edges
  few = let l = (sheet-stands s Plain z).lengths in omega (arith, many, l.whole, l.few)

  -- the table of the numerators is the sheet's
  entry : (v : ℕ) → v < edges_of s → entry_of held v ≡ entry_of (numerators_of s) v
  entry v h = padded-before (pos 0) max_edges (edges_of s) (numerator_at s) v h ∙ sym (get_or_table (edges_of s) (numerator_at s) (pos 0) v h)

  near : (v : ℕ) → v < edges_of s → nat_abs (entry_of held v) ≤ max_numerator
  near v h = omega (arith, ap nat_abs (entry v h), (sheet-stands s Plain z).lengths.near v (omega (arith, many, h)))

  pub ranged : InRange (edges_of s) held
  ranged = record { room = omega (arith, few, padded-length (pos 0) max_edges (edges_of s) (numerator_at s) few); near = near }

  whole : sum (edges_of s) (entry_of held) ≡ tree_length (numerators_of s)
  whole = sum_cong (edges_of s) entry ∙ ap (λ (n : ℕ). sum n (entry_of (numerators_of s))) (sym many)

  -- code has the sum as bits
  pub length-of : (t : ℤ) (d : ℕ) → t ≡ sum (edges_of s) (entry_of held) → d ≡ denominator_of s
      → LengthOf s (record { numerator = to_z w64 (of_z w64 t); denominator = d })
  length-of t d e f =
      let small = sum_abs (edges_of s) max_numerator (entry_of held) near in
      let n : nat_abs t ≤ max_tree_length = omega (arith, ap nat_abs e, small, few) in
      let l = (sheet-stands s Plain z).lengths in
      let b = back t (omega (arith, n)) in record {
        total = b ∙ e ∙ whole;
        over = f;
        near = omega (arith, ap nat_abs b, n);
        one = omega (arith, f, l.one);
        most = omega (arith, f, l.most);
      }

-- ---- by the place where the third record starts
module _ (s : List ℕ) (z : sheet_tests Plain s ≡ pass) (x : ℕ) (e : x ≡ start_of s 2) where
  pub edges_are : (n : ℕ) → n ≡ number 2 s (x + 6 + 4) → n ≡ edges_of s
  edges_are n f = f ∙ ap (λ (i : ℕ). number 2 s (i + 6 + 4)) e

  pub denominator-is : (d : ℕ) → d ≡ number 4 s (x + 6) → d ≡ denominator_of s
  denominator-is d f = f ∙ ap (λ (i : ℕ). number 4 s (i + 6)) e

  pub held-is : (n : ℕ) (ns : List ℤ) → n ≡ edges_of s → ns ≡ padded (pos 0) max_edges n (λ k. twos (number 8 s (x + 6 + 6 + 8 * k))) → ns ≡ held s z
  held-is n ns f g = g ∙ ap₂ (λ (m i : ℕ). padded (pos 0) max_edges m (λ k. twos (number 8 s (i + 6 + 6 + 8 * k)))) f e

  pub inside : (n : ℕ) → n ≡ edges_of s → x + 6 + 6 + 8 * n ≤ length s
  inside n f = omega (arith, e, f, lengths-there s z)
