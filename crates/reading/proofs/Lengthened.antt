-- The lengths that the reader hands over: none in a sheet of two records; of three or four, none where K is not the tree's count.
use mathlib.Core.Path.{◌≡◌, refl, sym, ap, ap₂, ◌∙◌}
use mathlib.Core.Bool.{Bool, true, false, not, ◌&&◌}
use mathlib.Core.List.{List}
use Prim.Native.Nat.{ℕ, ◌+◌, ◌-◌, ◌*◌, ◌<◌}
use borrow.Author.Tests.{lt-ltb, eq-eqb, ne_eqb}
use lib.Dec.{eqb}
use lib.IntN.{ℤ, pos}
use Rattle.exact.specs.Table.{table_from, table, padded}
use Rattle.verdict.specs.declared.Reason.TheVariants.{Edges}
use Rattle.verdict.specs.declared.Place.TheVariants.{Nowhere}
use Rattle.std.specs.Prelude.{Ok, Err}
use Rattle.verdict.specs.Answer.{test}
use Rattle.tree_theory.specs.Limits.{max_edges}
use Rattle.endian.specs.Bytes.{number, twos}
use Rattle.records.specs.Form.{start_of}
use Rattle.reading.specs.declared.Proposal.{Proposal}
use Rattle.reading.specs.Holds.{vertices_of, edges_of, edges_in, numerator_at}
use Rattle.reading.specs.Tests.{edges_differ}
use Rattle.reading.specs.Reads.{Proposed}

-- nothing before the zeros
padded-none : (f : ℕ → ℤ) → padded (pos 0) max_edges 0 f ≡ table max_edges (λ _. pos 0)
unfolding table_from
padded-none f = refl

module _ (s : List ℕ) (ns : List ℤ) where
  two_records : ns ≡ table max_edges (λ _. pos 0) → Proposed 2 s ns (Ok (record { denominator = 0; edges = 0 }))
  two_records n = record { answer = refl; held = record { denominator = refl; edges = refl; numerators = n ∙ sym (padded-none (numerator_at s)) } }

  pub without-lengths : (count : ℕ) → count ≡ 2 → ns ≡ table max_edges (λ _. pos 0) → Proposed count s ns (Ok (record { denominator = 0; edges = 0 }))
  without-lengths count e n = rw e (two_records n)

  module _ (at k edges : ℕ) (e : at ≡ start_of s 2) (f : k ≡ number 2 s (at + 6 + 4)) (g : edges ≡ vertices_of s - 1) where
    counted : k ≡ edges_of s
    counted = f ∙ ap (λ (a : ℕ). number 2 s (a + 6 + 4)) e

    -- three records or more
    module _ (count : ℕ) (three : 2 < count) where
      asked : (b : Bool) → eqb (edges_of s) (vertices_of s - 1) ≡ b → test 11 (edges_differ count s) ≡ test 11 (not b)
      asked b q = ap₂ (λ (x y : Bool). test 11 (x && not y)) (lt-ltb 2 count three) q

      pub other-count : (k ≡ edges → ⊥) → Proposed count s ns (Err (record { reason = Edges; place = Nowhere }))
      other-count h = record { answer = sym (asked false (ne_eqb (edges_of s) (vertices_of s - 1) (λ q. h (counted ∙ q ∙ sym g)))); held = tt }

      pub with_lengths : k ≡ edges → (p : Proposal) → p.denominator ≡ number 4 s (at + 6) → p.edges ≡ edges
          → ns ≡ padded (pos 0) max_edges edges (λ i. twos (number 8 s (at + 6 + 6 + 8 * i))) → Proposed count s ns (Ok p)
      with_lengths h p d m n =
          let there : edges_in count s ≡ edges_of s = rw (lt-ltb 2 count three) in
          record {
            answer = sym (asked true (eq-eqb (edges_of s) (vertices_of s - 1) (sym counted ∙ h ∙ g)));
            held = record {
              denominator = d ∙ ap (λ (a : ℕ). number 4 s (a + 6)) e ∙ rw (lt-ltb 2 count three);
              edges = m ∙ sym h ∙ counted ∙ sym there;
              numerators = n ∙ ap₂ (λ (c a : ℕ). padded (pos 0) max_edges c (λ i. twos (number 8 s (a + 6 + 6 + 8 * i)))) (sym h ∙ counted ∙ sym there) e;
            };
          }
