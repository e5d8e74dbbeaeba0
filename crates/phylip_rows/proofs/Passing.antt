-- One row a turn: what is left behind it is where the next begins, and it changes nothing of the rows before it.
use mathlib.Core.Path.{◌≡◌, refl, sym, ◌∙◌, ap, ap₂}
use mathlib.Core.Bool.{Bool, true, false, not, ◌||◌}
use mathlib.Core.List.{List}
use Prim.Native.Nat.{ℕ, ◌+◌, ◌-◌, ◌*◌, ◌≤◌, ◌<◌}
use native.Mathlib.Decide.{ℕ_discrete}
use native.Mathlib.Numerals.{add-one}
use native.Mathlib.Omega.{arith}
use borrow.Author.Tests.{eq-eqb, ne_eqb}
use lib.Dec.{eqb}
use lib.ListN.{length, get_or, drop, length-drop}
use lib.Seq.{drop-drop}
use Rattle.exact.proofs.Decide.{by_cases}
use Rattle.verdict.specs.Table.{some}
use Rattle.verdict.proofs.Table.{some-yes, some-no}
use Rattle.verdict.proofs.Answers.{none_or}
use Rattle.matrix.specs.Limits.{max_strains}
use Rattle.cells.specs.Cell.{cell_out, cell_entry}
use Rattle.cells.specs.Row.{rest, cell_text, cell_bad, Read}
use Rattle.cells.specs.declared.RowRead.{RowRead}
use Rattle.phylip_text.specs.Form.{name_size, name_bad, cells_of, behind_cells, end_bad, next_line, row_bad, row_text, rows_bad, cell_at, decimals_out, entry_at}
use Rattle.phylip_lines.specs.Lines.{EndRead}
use Rattle.std.specs.Prelude.{Some, None, Ok, Err}
use Rattle.phylip_rows.specs.Rows.{NameRead, RowIs, RowsRead}

or_left : (a b : Bool) → a ≡ true → (a || b) ≡ true
or_left a b e = ap (λ (q : Bool). q || b) e

or_right : (a b : Bool) → b ≡ true → (a || b) ≡ true
or_right true b e = refl
or_right false b e = e

-- ---- one row
module _ (s : List ℕ) (at n i : ℕ) (grid names : List ℕ) where
  abbrev l : List ℕ
  l = drop at s

  -- the row is not of the form
  bad : {grid' names' : List ℕ} → row_bad n l ≡ true → length grid' ≡ length grid → length names' ≡ length names
      → ((k : ℕ) → k < max_strains * i → get_or grid' k 0 ≡ get_or grid k 0) → ((k : ℕ) → k < name_size * i → get_or names' k 0 ≡ get_or names k 0)
      → RowIs s at n i grid grid' names names' None
  bad e gs ns gk nk = record { bad-is = sym e; grid_size = gs; names-size = ns; grid_kept = gk; names-kept = nk; row = tt }

  module _ {names' : List ℕ} {no_name : Bool} (m : NameRead s at (name_size * i) names names' no_name) where
    pub row_unnamed : no_name ≡ true → RowIs s at n i grid grid names names' None
    unfolding row_bad
    row_unnamed e = bad (or_left (name_bad l) (some n (cell_bad (cells_of l)) || end_bad (behind_cells n l)) (sym m.bad-is ∙ e)) refl m.size (λ k h. refl) m.kept

    cells-here : drop (at + name_size) s ≡ cells_of l
    cells-here = sym (drop-drop name_size at s)

    module _ {grid' : List ℕ} (c : Read s (at + name_size) n (max_strains * i) grid grid' None) where
      pub row-no-cells : RowIs s at n i grid grid' names names' None
      unfolding row_bad
      row-no-cells = bad
          (or_right (name_bad l) (some n (cell_bad (cells_of l)) || end_bad (behind_cells n l)) (or_left (some n (cell_bad (cells_of l))) (end_bad (behind_cells n l)) (ap (λ (x : List ℕ). some n (cell_bad x)) (sym cells-here) ∙ sym c.bad-is)))
          c.size m.size c.kept m.kept

    module _ {grid' : List ℕ} {read : RowRead} (c : Read s (at + name_size) n (max_strains * i) grid grid' (Some read)) where
      ends-here : drop read.end s ≡ behind_cells n l
      ends-here = c.cells.behind-all ∙ ap (λ (x : List ℕ). rest n x) cells-here

      module _ {at_fault : ℕ} (d : EndRead s read.end (Err at_fault)) where
        pub row-no-end : RowIs s at n i grid grid' names names' None
        unfolding row_bad
        row-no-end = bad
            (or_right (name_bad l) (some n (cell_bad (cells_of l)) || end_bad (behind_cells n l)) (or_right (some n (cell_bad (cells_of l))) (end_bad (behind_cells n l)) (ap end_bad (sym ends-here) ∙ sym d.bad-is)))
            c.size m.size c.kept m.kept

      module _ {end : ℕ} (d : EndRead s read.end (Ok end)) where
        pub row_read : no_name ≡ false → RowIs s at n i grid grid' names names' (Some (record { end = end; out = read.out }))
        unfolding row_bad
        row_read e = record {
          bad-is = sym (none_or (sym m.bad-is ∙ e) (none_or (ap (λ (x : List ℕ). some n (cell_bad x)) (sym cells-here) ∙ sym c.bad-is) (ap end_bad (sym ends-here) ∙ sym d.bad-is)));
          grid_size = c.size;
          names-size = m.size;
          grid_kept = c.kept;
          names-kept = m.kept;
          row = record {
            within = d.within;
            next = d.next-is ∙ ap next_line ends-here;
            out-is = c.cells.out-is ∙ ap (λ (x : List ℕ). some n (λ j. cell_out (cell_text x j))) cells-here;
            entries = λ j h. c.cells.each j h ∙ ap (λ (x : List ℕ). cell_entry (cell_text x j)) cells-here;
            name = m.each e;
          };
        }

-- ---- i rows of n are read
pub record RowsAt (s : List ℕ) (at n : ℕ) (grid grid' names names' : List ℕ) (end : ℕ) (out : Bool) (i : ℕ) : Type 0 where
  pub few : i ≤ n
  pub within : end ≤ length s
  pub here : drop end s ≡ row_text n (drop at s) i
  pub good : (k : ℕ) → k < i → row_bad n (row_text n (drop at s) k) ≡ false
  pub out-is : out ≡ some i (λ k. some n (λ j. cell_out (cell_at n (drop at s) k j)))
  pub grid_size : length grid' ≡ length grid
  pub names-size : length names' ≡ length names
  pub entries : (k j : ℕ) → k < i → j < n → get_or grid' (max_strains * k + j) 0 ≡ entry_at n (drop at s) k j
  pub named : (k m : ℕ) → k < i → m < name_size → get_or names' (name_size * k + m) 0 ≡ get_or (row_text n (drop at s) k) m 0

module _ (s : List ℕ) (at n : ℕ) (grid names : List ℕ) where
  pub rows_start : at ≤ length s → RowsAt s at n grid grid names names at false 0
  unfolding row_text some
  rows_start h = record {
    few = omega arith;
    within = h;
    here = refl;
    good = λ k l. absurd (omega arith);
    out-is = refl;
    grid_size = refl;
    names-size = refl;
    entries = λ k j l m. absurd (omega arith);
    named = λ k m l o. absurd (omega arith);
  }

  module _ {grid' names' : List ℕ} {end : ℕ} {out : Bool} {i : ℕ} (t : RowsAt s at n grid grid' names names' end out i) where
    module _ {grid'' names'' : List ℕ} (more : i < n) (w : RowIs s end n i grid' grid'' names' names'' None) where
      pub rows-bad : RowsRead s at n grid grid'' names names'' None
      unfolding rows_bad
      rows-bad = record {
        bad-is = sym (or_left (some n (λ k. row_bad n (row_text n (drop at s) k))) (not (eqb (length (row_text n (drop at s) n)) 0))
            (some-yes n (λ k. row_bad n (row_text n (drop at s) k)) i more (ap (row_bad n) (sym t.here) ∙ sym w.bad-is)));
        grid_size = w.grid_size ∙ t.grid_size;
        names-size = w.names-size ∙ t.names-size;
        rows = tt;
      }

    module _ {grid'' names'' : List ℕ} {read : RowRead} (few : n ≤ max_strains) (more : i < n) (w : RowIs s end n i grid' grid'' names' names'' (Some read)) where
      pub rows-turn : (o : Bool) → o ≡ (out || read.out) → RowsAt s at n grid grid'' names names'' read.end o (i + 1)
      unfolding row_text some entry_at
      rows-turn o q = let v = w.row in rw add-one (record {
        few = more;
        within = v.within;
        here = v.next ∙ ap (λ (x : List ℕ). next_line (behind_cells n x)) t.here;
        good = λ k l. by_cases (ℕ_discrete k i) (λ z. ap (λ (x : ℕ). row_bad n (row_text n (drop at s) x)) z ∙ ap (row_bad n) (sym t.here) ∙ sym w.bad-is) (λ z. t.good k (omega arith));
        out-is = q ∙ ap₂ (λ (a b : Bool). a || b) t.out-is (v.out-is ∙ ap (λ (x : List ℕ). some n (λ j. cell_out (cell_text (cells_of x) j))) t.here);
        grid_size = w.grid_size ∙ t.grid_size;
        names-size = w.names-size ∙ t.names-size;
        entries = λ k j l m. by_cases (ℕ_discrete k i)
            (λ z. ap (λ (x : ℕ). get_or grid'' (max_strains * x + j) 0) z ∙ v.entries j m ∙ ap (λ (x : List ℕ). cell_entry (cell_text (cells_of x) j)) t.here ∙ sym (ap (λ (x : ℕ). entry_at n (drop at s) x j) z))
            (λ z. w.grid_kept (max_strains * k + j) (omega arith) ∙ t.entries k j (omega arith) m);
        named = λ k m l o. by_cases (ℕ_discrete k i)
            (λ z. ap (λ (x : ℕ). get_or names'' (name_size * x + m) 0) z ∙ v.name m o ∙ ap (λ (x : List ℕ). get_or x m 0) t.here ∙ sym (ap (λ (x : ℕ). get_or (row_text n (drop at s) x) m 0) z))
            (λ z. w.names-kept (name_size * k + m) (omega arith) ∙ t.named k m (omega arith) o);
      })

    over-is : i ≡ n → not (eqb end (length s)) ≡ not (eqb (length (row_text n (drop at s) n)) 0)
    over-is e = by_cases (ℕ_discrete end (length s))
        (λ q. ap not (eq-eqb end (length s) q ∙ sym (eq-eqb (length (row_text n (drop at s) n)) 0 (left ∙ omega arith))))
        (λ q. ap not (ne_eqb end (length s) q ∙ sym (ne_eqb (length (row_text n (drop at s) n)) 0 (λ z. q (omega (arith, left, z, t.within))))))
      where
        left : length (row_text n (drop at s) n) ≡ length s - end
        left = ap (λ (x : ℕ). length (row_text n (drop at s) x)) (sym e) ∙ ap length (sym t.here) ∙ length-drop end s

    good-rows : n ≤ i → rows_bad n (drop at s) ≡ not (eqb end (length s))
    unfolding rows_bad
    good-rows h = let e : i ≡ n = omega (arith, t.few) in
        ap (λ (q : Bool). q || not (eqb (length (row_text n (drop at s) n)) 0)) (some-no n (λ k. row_bad n (row_text n (drop at s) k)) (λ k l. t.good k (omega arith))) ∙ sym (over-is e)

    -- something follows the last row
    pub rows_follow : n ≤ i → (end ≡ length s → ⊥) → RowsRead s at n grid grid' names names' None
    rows_follow h d = record {
      bad-is = sym (good-rows h ∙ ap not (ne_eqb end (length s) d));
      grid_size = t.grid_size;
      names-size = t.names-size;
      rows = tt;
    }

    pub rows_end : n ≤ i → end ≡ length s → RowsRead s at n grid grid' names names' (Some out)
    unfolding decimals_out
    rows_end h d = let e : i ≡ n = omega (arith, t.few) in record {
      bad-is = sym (good-rows h ∙ ap not (eq-eqb end (length s) d));
      grid_size = t.grid_size;
      names-size = t.names-size;
      rows = record {
        out-is = t.out-is ∙ ap (λ (x : ℕ). some x (λ k. some n (λ j. cell_out (cell_at n (drop at s) k j)))) e;
        entries = λ k j l m. t.entries k j (omega arith) m;
        named = λ k m l o. t.named k m (omega arith) o;
      };
    }
