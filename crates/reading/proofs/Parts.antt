-- For a caller of `read`: what its parts are, where it accepts. `read-parts` serves a sheet of any count, `read-posted` and `read-lengths`
-- one with lengths, that is of three records or four.
use mathlib.Core.Path.{◌≡◌, sym, ap, ◌∙◌}
use mathlib.Core.Bool.{Bool, false, cond, not, ◌&&◌}
use mathlib.Core.List.{List}
use Prim.Native.Nat.{ℕ, ◌-◌, ◌<◌, ◌≤◌}
use native.Mathlib.Omega.{arith}
use borrow.Author.Tests.{lt-ltb, eqb-true, not-false}
use lib.Dec.{eqb}
use lib.IntN.{ℤ, pos}
use lib.ListN.{length, take, drop}
use Rattle.exact.specs.Table.{table, padded}
use Rattle.exact.proofs.Fill.{length-table}
use Rattle.std.specs.Prelude.{Ok}
use Rattle.verdict.specs.Answer.{pass, answer_of, test, ◌or_else◌}
use Rattle.verdict.proofs.Answers.{or_else_pass, test-pass}
use Rattle.tree_theory.specs.Limits.{max_edges}
use Rattle.fit_theory.specs.Stands.{Shaped, Posted}
use Rattle.records.specs.Form.{form_tests}
use Rattle.records.proofs.Decoding.{front-is, front_length, front-there}
use Rattle.reading.specs.declared.Sheet.{Sheet}
use Rattle.reading.specs.declared.Outline.{Outline}
use Rattle.reading.specs.Holds.{strains_of, distances_of, vertices_of, parents_of, denominator_of, edges_of, numerator_at, numerators_of}
use Rattle.reading.specs.Tests.{edges_differ, pair_tests, read_tests}
use Rattle.reading.specs.Reads.{Held, together, OutlineAnswer, SheetAnswer}
use Rattle.records.proofs.InTurn.{fewer-pass}
use Rattle.records.proofs.Formed.{form_records}
use Rattle.front.specs.declared.Front.{Front}
use Rattle.front.proofs.Parts as front
use Rattle.front.proofs.Answered.{pair-shaped, pair-posted, parents-few}

-- the matrix at the front of its array, the parents as a part of the bytes
pub record Parts (s : List ℕ) (r : Sheet) : Type 0 where
  pub shaped : Shaped (strains_of s) (distances_of s) (parents_of s)
  pub strains : r.strains ≡ strains_of s
  pub room : r.pairs ≤ length r.distances
  pub size : r.pairs ≡ length (take r.pairs r.distances)
  pub distances : take r.pairs r.distances ≡ distances_of s
  pub starts : r.parents ≤ r.end
  pub ends : r.end ≤ length s
  pub parents : take (r.end - r.parents) (drop r.parents s) ≡ parents_of s
  pub count : r.end - r.parents ≡ length (parents_of s)

-- the numerators at the front of theirs, as many as there are parents
pub record Lengths (s : List ℕ) (r : Sheet) : Type 0 where
  pub denominator : r.denominator ≡ denominator_of s
  pub room : r.edges ≤ length r.numerators
  pub size : r.edges ≡ length (take r.edges r.numerators)
  pub numerators : take r.edges r.numerators ≡ numerators_of s
  pub count : r.edges ≡ length (parents_of s)
  pub few : r.edges ≤ max_edges

-- what is front's of a sheet, beside the distances
abbrev front_of : Sheet → Front
front_of r = record { strains = r.strains; pairs = r.pairs; parents = r.parents; end = r.end }

pub accepted : (count : ℕ) (s : List ℕ) (r : Sheet) → SheetAnswer count s (Ok r) → read_tests count s ≡ pass
accepted count s r a = sym a.answer

module _ (count : ℕ) (s : List ℕ) (z : read_tests count s ≡ pass) where
  behind-form : (pair_tests count s or_else test 11 (edges_differ count s)) ≡ pass
  behind-form = (or_else_pass (form_tests count s) (pair_tests count s or_else test 11 (edges_differ count s)) z).1

  pub form-passes : form_tests count s ≡ pass
  form-passes = (or_else_pass (form_tests count s) (pair_tests count s or_else test 11 (edges_differ count s)) z).0

  pub pair-passes : pair_tests count s ≡ pass
  pair-passes = (or_else_pass (pair_tests count s) (test 11 (edges_differ count s)) behind-form).0

  pub edges-same : edges_differ count s ≡ false
  edges-same = test-pass 11 (edges_differ count s) (or_else_pass (pair_tests count s) (test 11 (edges_differ count s)) behind-form).1

  pub shaped : Shaped (strains_of s) (distances_of s) (parents_of s)
  shaped = pair-shaped count s pair-passes

  parent_count : vertices_of s - 1 ≡ length (parents_of s)
  parent_count = sym (length-table (vertices_of s - 1) _)

  module _ (two : 2 ≤ count) (r : Sheet) (h : Held count s r) where
    of-front : front.Parts s r.distances (front_of r)
    of-front = front.parts count s (fewer-pass s count 2 two (form_records count s form-passes)) pair-passes r.distances (front_of r)
        (record { strains = h.strains; pairs = h.pairs; distances = h.distances; parents = h.parents; end = h.end })

    pub parts : Parts s r
    parts = let p = of-front in record {
      shaped = p.shaped;
      strains = p.strains;
      room = p.room;
      size = p.size;
      distances = p.distances;
      starts = p.starts;
      ends = p.ends;
      parents = p.parents;
      count = p.count;
    }

-- three records or more
module _ (count : ℕ) (s : List ℕ) (three : 2 < count) (z : read_tests count s ≡ pass) (r : Sheet) (h : Held count s r) where
  whole : edges_of s ≡ vertices_of s - 1
  whole =
      let same = eqb (edges_of s) (vertices_of s - 1) in
      eqb-true (edges_of s) (vertices_of s - 1) (not-false same (sym (ap (λ (b : Bool). b && not same) (lt-ltb 2 count three)) ∙ edges-same count s z))

  edges : r.edges ≡ edges_of s
  edges = h.edges ∙ ap (λ (b : Bool). cond b (edges_of s) 0) (lt-ltb 2 count three)

  few : r.edges ≤ max_edges
  few = omega (arith, edges, whole, parents-few count s (pair-passes count s z))

  lent : r.numerators ≡ padded (pos 0) max_edges r.edges (numerator_at s)
  lent = h.numerators ∙ ap (λ (k : ℕ). padded (pos 0) max_edges k (numerator_at s)) (sym h.edges)

  pub lengths : Lengths s r
  lengths = record {
    denominator = h.denominator ∙ ap (λ (b : Bool). cond b (denominator_of s) 0) (lt-ltb 2 count three);
    room = front-there (pos 0) max_edges r.edges (numerator_at s) r.numerators lent few;
    size = front_length (pos 0) max_edges r.edges (numerator_at s) r.numerators lent;
    numerators = front-is (pos 0) max_edges r.edges (numerator_at s) r.numerators lent ∙ ap (λ (k : ℕ). table k (numerator_at s)) edges;
    count = edges ∙ whole ∙ parent_count count s z;
    few = few;
  }

-- ---- by the reader's answer
pub read-parts : (count : ℕ) (s : List ℕ) (r : Sheet) → 2 ≤ count → SheetAnswer count s (Ok r) → Parts s r
read-parts count s r two a = parts count s (accepted count s r a) two r a.held

-- a sheet with lengths: its matrix and tree pass together
pub read-posted : (count : ℕ) (s : List ℕ) (r : Sheet) → 2 < count → SheetAnswer count s (Ok r) → Posted (strains_of s) (distances_of s) (parents_of s)
read-posted count s r three a = pair-posted count s three (pair-passes count s (accepted count s r a))

pub read-lengths : (count : ℕ) (s : List ℕ) (r : Sheet) → 2 < count → SheetAnswer count s (Ok r) → Lengths s r
read-lengths count s r three a = lengths count s three (accepted count s r a) r a.held

-- an outline that was accepted, with its tables, is a sheet
pub outline_sheet : (count : ℕ) (s ds : List ℕ) (ns : List ℤ) (r : Outline) → OutlineAnswer count s ds ns (Ok r) → SheetAnswer count s (Ok (together r ds ns))
outline_sheet count s ds ns r a = record { answer = a.answer; held = a.held }

-- ---- what is shown of the parts holds of what the records hold
pub of_parts : {s : List ℕ} {r : Sheet} → Parts s r → (P : ℕ → List ℕ → List ℕ → Type 0)
    → P r.strains (take r.pairs r.distances) (take (r.end - r.parents) (drop r.parents s)) → P (strains_of s) (distances_of s) (parents_of s)
of_parts {s} {r} h P p = rw (h.strains, h.distances, h.parents) at p

pub of-lengths : {s : List ℕ} {r : Sheet} → Parts s r → Lengths s r → (P : ℕ → List ℕ → List ℕ → ℕ → List ℤ → Type 0)
    → P r.strains (take r.pairs r.distances) (take (r.end - r.parents) (drop r.parents s)) r.denominator (take r.edges r.numerators)
    → P (strains_of s) (distances_of s) (parents_of s) (denominator_of s) (numerators_of s)
of-lengths {s} {r} h l P p = rw (h.strains, h.distances, h.parents, l.denominator, l.numerators) at p

-- ---- and the other way
pub to-parts : {s : List ℕ} {r : Sheet} → Parts s r → (P : ℕ → List ℕ → List ℕ → Type 0) → P (strains_of s) (distances_of s) (parents_of s)
    → P r.strains (take r.pairs r.distances) (take (r.end - r.parents) (drop r.parents s))
to-parts {s} {r} h P p = rw (h.strains, h.distances, h.parents) p
