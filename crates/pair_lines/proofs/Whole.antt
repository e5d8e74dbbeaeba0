-- What stands is printed: the tables that were lent are what the rows ask, and rows by tables are the rows of the definition.
use mathlib.Core.Path.{◌≡◌, refl, sym, ap, ap₂, ◌∙◌, subst}
use mathlib.Core.Bool.{Bool, true, false, cond}
use mathlib.Core.List.{List, [], ◌∷◌}
use Prim.Native.Nat.{ℕ, ◌+◌, ◌-◌, ◌*◌, ◌≤◌, ◌<◌}
use native.Mathlib.Omega.{arith}
use lib.Dec.{ltb}
use lib.IntN.{ℤ, pos, nat_abs, ◌-ℤ◌, ◌*ℤ◌}
use lib.ListN.{length, get_or}
use Rattle.exact.specs.Nearest.{nearest}
use Rattle.exact.specs.Table.{table, padded, entry_of}
use Rattle.exact.specs.LeastSquares.{path}
use Rattle.exact.proofs.Fill.{length-table}
use Rattle.exact.proofs.LeastSquares.{path_cong}
use Rattle.verdict.specs.declared.Rule.TheVariants.{Plain}
use Rattle.matrix.specs.Limits.{max_strains}
use Rattle.matrix.specs.Place.{place, measured, distance, pair_count}
use Rattle.matrix.proofs.Looking.{known_of}
use Rattle.matrix.proofs.Places.{pairs-few}
use Rattle.tree_theory.specs.Limits.{max_edges}
use Rattle.tree_theory.specs.Chain.{parent_of}
use Rattle.fit_theory.specs.Quantities.{parts_of, parts_in, path_of, remainder_of, rounded_of}
use Rattle.fit_theory.specs.Stands.{Stands}
use Rattle.fit_theory.proofs.Measured.{measured-remainder}
use Rattle.fit_theory.proofs.Ranges.{bounds, rounded-range}
use Rattle.pairs.proofs.Lent as lent
use Rattle.inner_paths.specs.Between.{Lengthened}
use Rattle.fit_numbers.proofs.Written.{rounded-entry}
use Rattle.writing.specs.Text.{Wrote}
use Rattle.writing.proofs.Writing.{wrote_then}
use Rattle.lines.specs.Lines.{line, fit_word}
use Rattle.lines.proofs.Sizes.{line-length}
use Rattle.pieces.specs.Pieces.{pieces}
use Rattle.pieces.proofs.Pieces.{pieces_cong}
use Rattle.records.specs.Names.{name_start}
use Rattle.records.proofs.Decoding.{padded-before}
use Rattle.names.specs.Record.{name_of}
use Rattle.names.proofs.Walking.{name-ends}
use Rattle.newick_put.specs.Put.{word_at}
use Rattle.pair_line.specs.Line.{pair_line, widest_pair, NameThere}
use Rattle.pair_lines.specs.Lines.{line_of, row_of, pairs_text, rounded_path, pairs_page, NamesFrom, line_by, row_by, rows_by}
use Rattle.pair_line.proofs.Lining.{room_after}

-- ---- names, by the table of their starts
module _ (names : List ℕ) (from n : ℕ) (f : NamesFrom names from n) (starts : List ℕ) (e : starts ≡ padded 0 max_strains n (name_start names from)) where
  start_is : (i : ℕ) → i < n → get_or starts i 0 ≡ name_start names from i
  start_is i h = ap (λ (l : List ℕ). get_or l i 0) e ∙ padded-before 0 max_strains n (name_start names from) i h

  pub name-there : (i : ℕ) → i < n → NameThere names (get_or starts i 0)
  name-there i h = rw (start_is i h) (record { within = omega (arith, name-ends names from n i h, f.within); short = f.short i h })

  pub word-is : (i : ℕ) → i < n → word_at names starts i ≡ name_of names from i
  unfolding name_of
  word-is i h = rw (start_is i h)

-- ---- lines, rows and the whole
module _ (N : ℕ) (ds ps : List ℕ) (D : ℕ) (ns : List ℤ) (s : Stands Plain N ds ps D ns) where
  pub edges_few : length ps ≤ max_edges
  edges_few = lent.few-edges s.fitted.posted.tree

  pub exactly : Lengthened N (length ps) ps ns
  exactly = record { room = omega arith; allowed = s.fitted.posted.tree; small = lent.small s.lengths }

  module _ (ms : List ℤ) (e : ms ≡ table max_edges (λ v. cond (ltb v (length ps)) (nearest D (entry_of ns v)) (pos 0))) where
    rounded-is : (v : ℕ) → v < length ps → entry_of ms v ≡ rounded_of D ns v
    rounded-is = rounded-entry (length ps) D ns ms e edges_few

    pub nearly : Lengthened N (length ps) ps ms
    nearly = record {
      room = omega arith;
      allowed = s.fitted.posted.tree;
      small = record {
        room = omega (arith, edges_few, ap length e, length-table max_edges (λ v. cond (ltb v (length ps)) (nearest D (entry_of ns v)) (pos 0)));
        near = λ v h. omega (arith, ap nat_abs (rounded-is v h), rounded-range (bounds s.fitted.posted.matrix s.lengths) (parts_in ds ps) s.lengths.one v h);
      };
    }

    module _ (word label : ℕ → List ℕ) (called : (i : ℕ) → i < N → word i ≡ label i) where
      -- a remainder stands in a line only where its pair was measured
      line-by : (a b : List ℕ) (q : ℤ) (p : ℕ × ℕ) (m : Bool) → measured ds p ≡ m
          → pair_line a b m (distance ds p) (path_of ps ns p) q (pos D *ℤ distance ds p -ℤ path_of ps ns p) ≡ pair_line a b m (distance ds p) (path_of ps ns p) q (remainder_of ds ps D ns p)
      line-by a b q p true z = ap (λ (r : ℤ). pair_line a b true (distance ds p) (path_of ps ns p) q r)
          (sym (measured-remainder ds ps p z (length ps) (pos D) (entry_of ns) ∙ ap (λ (k : ℕ). pos D *ℤ pos k -ℤ path_of ps ns p) (sym (known_of (get_or ds (place p.0 p.1) 0) z))))
      line-by a b q p false z = unfold pair_line in refl

      line-is : (i j : ℕ) → i < N → j < N → line_by word (length ps) ds (parent_of ps) D (entry_of ns) (entry_of ms) i j ≡ line_of label ds ps D ns i j
      unfolding line_by line_of
      line-is i j h g =
          ap₂ (λ (a b : List ℕ). pair_line a b (measured ds (i, j)) (distance ds (i, j)) (path_of ps ns (i, j)) (path (length ps) (parts_of ps) (entry_of ms) (i, j)) (pos D *ℤ distance ds (i, j) -ℤ path_of ps ns (i, j))) (called i h) (called j g)
          ∙ ap (λ (q : ℤ). pair_line (label i) (label j) (measured ds (i, j)) (distance ds (i, j)) (path_of ps ns (i, j)) q (pos D *ℤ distance ds (i, j) -ℤ path_of ps ns (i, j))) (path_cong (length ps) (parts_of ps) (entry_of ms) (rounded_of D ns) rounded-is (i, j))
          ∙ line-by (label i) (label j) (rounded_path ps D ns (i, j)) (i, j) (measured ds (i, j)) refl

      row_is : (i : ℕ) → i < N → row_by word N (length ps) ds (parent_of ps) D (entry_of ns) (entry_of ms) i ≡ row_of label N ds ps D ns i
      unfolding row_by row_of
      row_is i h = pieces_cong (N - (i + 1)) (λ k. line_by word (length ps) ds (parent_of ps) D (entry_of ns) (entry_of ms) i (i + 1 + k)) (λ k. line_of label ds ps D ns i (i + 1 + k)) (λ k l. line-is i (i + 1 + k) h (omega arith))

      pub rows_are : rows_by word N (length ps) ds (parent_of ps) D (entry_of ns) (entry_of ms) ≡ pieces N (row_of label N ds ps D ns)
      unfolding rows_by
      rows_are = pieces_cong N (row_by word N (length ps) ds (parent_of ps) D (entry_of ns) (entry_of ms)) (row_of label N ds ps D ns) row_is

      -- the first line leaves room for all rows
      pub text-written : {b c d : List ℕ} {m k : ℕ} → pairs_page ≤ length b → Wrote b c 0 (line (fit_word Plain) (pos N ∷ pos (length ps) ∷ pos D ∷ [])) m
          → Wrote c d m (rows_by word N (length ps) ds (parent_of ps) D (entry_of ns) (entry_of ms)) k → Wrote b d 0 (pairs_text label N ds ps D ns) k
      unfolding pairs_text
      text-written {b} {c} {d} {m} {k} room p q = wrote_then (omega (arith, line-length (fit_word Plain) (pos N ∷ pos (length ps) ∷ pos D ∷ []))) p (subst (λ (l : List ℕ). Wrote c d m l k) rows_are q)

  -- there are at most 2,016 pairs, so behind the first line there is room for all rows
  pub rows-room : {b c : List ℕ} {m : ℕ} → pairs_page ≤ length b → Wrote b c 0 (line (fit_word Plain) (pos N ∷ pos (length ps) ∷ pos D ∷ [])) m → m + widest_pair * pair_count N ≤ length c
  rows-room room p = room_after (widest_pair * pair_count N) (omega (arith, pairs-few N s.fitted.posted.matrix.few, line-length (fit_word Plain) (pos N ∷ pos (length ps) ∷ pos D ∷ []))) p
