-- The direct fit of a sheet, from what its reader handed over: the answer to the degrees of its tree is the sheet's (`degrees_asked`); a
-- fit has its numbers and its three tables (`fitted-sheet`).
use mathlib.Core.Path.{◌≡◌, refl, sym, ◌∙◌, ap}
use mathlib.Core.List.{List, ◌++◌}
use Prim.Native.Nat.{ℕ, ◌+◌, ◌-◌, ◌≤◌}
use native.Mathlib.Omega.{arith}
use lib.IntN.{ℤ, pos}
use lib.ListN.{length, get_or, take, drop, length-drop, length-append, get_or-append}
use lib.Seq.{length-take-le, get_or-drop, get_or-append-add}
use Rattle.exact.specs.Table.{table}
use Rattle.exact.proofs.Fill.{length-table, get_or_table, get_or_table_const}
use Rattle.verdict.specs.Answer.{Answer, pass}
use Rattle.std.specs.Prelude.{Ok}
use Rattle.tree_theory.specs.Limits.{max_edges}
use Rattle.tree_theory.specs.EdgeTable.{EdgeTable}
use Rattle.tree_theory.proofs.EdgeTables.{front_kept}
use Rattle.fit_theory.specs.Stands.{Shaped}
use Rattle.direct_theory.specs.Tests.{direct_only}
use Rattle.direct_theory.specs.Lengths.{top_of, bottom_of, thousandth_of}
use Rattle.direct_fit.specs.declared.DirectFit.{DirectFit}
use Rattle.direct_fit.specs.Answers.{Resolves}
use Rattle.reading.specs.declared.Sheet.{Sheet}
use Rattle.reading.specs.Holds.{strains_of, distances_of, parents_of}
use Rattle.reading.specs.Reads.{SheetAnswer}
use Rattle.reading.proofs.Parts.{Parts, accepted, read-parts, of_parts, to-parts}
use Rattle.reading.proofs.Whole.{two-asked}
use Rattle.unfitted_sheet.specs.Fits.{unfitted_tests, UnfittedAnswer}

-- a table of one value: its front has room for each edge, and what is behind the front has that value
module _ {A : Type 0} (d : A) (zeros : List A) (blank : zeros ≡ table max_edges (λ _. d)) (k : ℕ) where
  size : length zeros ≡ max_edges
  size = ap length blank ∙ length-table max_edges (λ _. d)

  rest-blank : (i : ℕ) → get_or (drop k zeros) i d ≡ d
  rest-blank i = get_or-drop k zeros i d ∙ ap (λ (l : List A). get_or l (k + i) d) blank ∙ get_or_table_const max_edges d (k + i)

  rest-size : length (drop k zeros) ≡ max_edges - k
  rest-size = length-drop k zeros ∙ ap (λ (n : ℕ). n - k) size

  module _ (few : k ≤ max_edges) where
    pub front-there : k ≤ length zeros
    front-there = omega (arith, size)

    pub front-size : k ≡ length (take k zeros)
    front-size = sym (length-take-le k zeros front-there)

module _ (s : List ℕ) (r : Sheet) (a : SheetAnswer 2 s (Ok r)) where
  pub parts : Parts s r
  parts = read-parts 2 s r (omega arith) a

  few : length (parents_of s) ≤ max_edges
  few = omega (arith, parts.shaped.tree.most, parts.shaped.tree.few)

  pub few-edges : r.end - r.parents ≤ max_edges
  few-edges = omega (arith, few, parts.count)

  pub shaped : Shaped r.strains (take r.pairs r.distances) (take (r.end - r.parents) (drop r.parents s))
  shaped = to-parts parts Shaped parts.shaped

  pub parents-size : r.end - r.parents ≡ length (take (r.end - r.parents) (drop r.parents s))
  parents-size = parts.count ∙ sym (ap length parts.parents)

  pub degrees_asked : (k : Answer) → k ≡ direct_only r.strains (take r.pairs r.distances) (take (r.end - r.parents) (drop r.parents s)) → k ≡ unfitted_tests s
  degrees_asked k h =
      of_parts parts (λ N ds ps. k ≡ direct_only N ds ps) h
      ∙ sym (two-asked s (accepted 2 s r a) (direct_only (strains_of s) (distances_of s) (parents_of s)))

  module _ (h : pass ≡ direct_only r.strains (take r.pairs r.distances) (take (r.end - r.parents) (drop r.parents s)))
      (blank blank' : List ℤ) (none : List ℕ) (b : blank ≡ table max_edges (λ _. pos 0)) (c : none ≡ table max_edges (λ _. 0)) (d : blank' ≡ table max_edges (λ _. pos 0))
      (ns ms : List ℤ) (es : List ℕ) (x : DirectFit)
      (p : Resolves r.strains (take r.pairs r.distances) (take (r.end - r.parents) (drop r.parents s)) ns es ms x) where
    fit : Resolves (strains_of s) (distances_of s) (parents_of s) ns es ms x
    fit = of_parts parts (λ N ds ps. Resolves N ds ps ns es ms x) p

    behind : {A : Type 0} (y : A) (l : List A) → l ≡ table max_edges (λ _. y) → length (drop (r.end - r.parents) l) ≡ max_edges - length (parents_of s)
    behind y l h = rest-size y l h (r.end - r.parents) ∙ ap (λ (k : ℕ). max_edges - k) parts.count

    kept : (f : ℕ → ℤ) (front l : List ℤ) → front ≡ table (length (parents_of s)) f → l ≡ table max_edges (λ _. pos 0)
        → EdgeTable (length (parents_of s)) f (front ++ drop (r.end - r.parents) l)
    kept f front l h b = front_kept (pos 0) (length (parents_of s)) f front (drop (r.end - r.parents) l) few h (rest-blank (pos 0) l b (r.end - r.parents)) (behind (pos 0) l b)

    pub fitted-sheet : UnfittedAnswer s (Ok (record {
      fit = x;
      strains = r.strains;
      edges = r.end - r.parents;
      tops = ns ++ drop (r.end - r.parents) blank;
      bottoms = es ++ drop (r.end - r.parents) none;
      rounded = ms ++ drop (r.end - r.parents) blank';
    }))
    fitted-sheet = record {
      answer = degrees_asked pass h;
      fitted = record {
        strains = parts.strains;
        edges = parts.count;
        few = few;
        resolves = record { tops = refl; bottoms = refl; rounded = refl; r = fit.r; h = fit.h; direct = fit.direct };
        tops = kept (top_of (strains_of s) (distances_of s) (parents_of s)) ns blank fit.tops b;
        bottoms = front_kept 0 (length (parents_of s)) (bottom_of (strains_of s) (distances_of s) (parents_of s)) es (drop (r.end - r.parents) none) few fit.bottoms (rest-blank 0 none c (r.end - r.parents)) (behind 0 none c);
        rounded = kept (thousandth_of (strains_of s) (distances_of s) (parents_of s)) ms blank' fit.rounded d;
      };
    }
