-- The tests one behind the other. Where the rows are not of the form the grid says nothing, and nothing is asked of it.
use mathlib.Core.Path.{◌≡◌, refl, sym, ◌∙◌, ap, ap₂, subst}
use mathlib.Core.Bool.{Bool, true, false, cond, not, ◌||◌}
use mathlib.Core.List.{List}
use Prim.Native.Nat.{ℕ, ◌≤◌, ◌<◌}
use native.Mathlib.Decide.{dec_lt}
use native.Mathlib.Omega.{arith}
use borrow.Author.Tests.{lt-ltb, le-ltb, ltb-false}
use lib.Dec.{eqb, ltb}
use lib.ListN.{length, drop}
use Rattle.exact.proofs.Decide.{by_cases}
use Rattle.verdict.specs.Answer.{Answer, fault, refusal_of, test, ◌or_else◌}
use Rattle.verdict.specs.declared.Place.TheVariants.{Nowhere}
use Rattle.std.specs.Prelude.{Some, None, Ok, Err}
use Rattle.verdict.specs.declared.Refusal.{Refusal}
use Rattle.verdict.specs.Table.{some}
use Rattle.verdict.proofs.Table.{some_cong}
use Rattle.verdict.proofs.Answers.{or_none}
use Rattle.matrix.specs.Limits.{min_strains, max_strains}
use Rattle.matrix.specs.Tests.{strains_out}
use Rattle.digits.specs.Digits.{most, at_most}
use Rattle.digits.proofs.Reading.{low-cut, high_cut}
use Rattle.phylip_text.specs.Form.{count_of, behind_count, end_bad, next_line, rows_of, rows_bad, decimals_out, entry_at, halves_out, count_size}
use Rattle.phylip_text.specs.Tests.{max_text, countless, entries, text_tests}
use Rattle.phylip_lines.specs.Lines.{CountRead, EndRead}
use Rattle.phylip_lines.specs.declared.Count.{Count}
use Rattle.phylip_rows.specs.Rows.{RowsRead, Rows}
use Rattle.phylip_grid.specs.Grid.{grid_at}
use Rattle.phylip_survey.specs.declared.Head.{Head}
use Rattle.phylip_survey.specs.Survey.{head_tests, Opened, HeadRead, Held}

-- ---- the first line
-- a count is out exactly where it is so cut
cut-strains : (n : ℕ) → strains_out (at_most n) ≡ strains_out n
cut-strains n = by_cases (dec_lt most n)
    (λ h. ap strains_out (high_cut n h) ∙ big most (omega arith) ∙ sym (big n (omega arith)))
    (λ h. ap strains_out (low-cut n (omega arith)))
  where
    big : (k : ℕ) → max_strains < k → strains_out k ≡ true
    big k h = ap₂ (λ (a b : Bool). a || b) (le-ltb k min_strains (omega arith)) (lt-ltb max_strains k h)

-- a cut count that is not out is the count
small_count : (n : ℕ) → strains_out n ≡ false → (at_most n ≡ n) × (n ≤ max_strains)
small_count n h = let e = ltb-false max_strains n (or_none (ltb n min_strains) (ltb max_strains n) h).1 in (low-cut n (omega (arith, e)), e)

module _ (t : List ℕ) where
  abbrev counts : Bool → Bool → Bool → Answer
  counts a b c = test 17 a or_else test 6 b or_else test 17 c

  -- a text too long, or without a count
  pub long_told : ltb max_text (length t) ≡ true → fault 17 Nowhere ≡ head_tests t
  long_told e = sym (ap (λ (b : Bool). counts (b || eqb (count_size t) 0) (strains_out (count_of t)) (end_bad (behind_count t))) e)

  module _ (short : ltb max_text (length t) ≡ false) where
    none_told : (b : Bool) → b ≡ eqb (count_size t) 0 → head_tests t ≡ counts b (strains_out (count_of t)) (end_bad (behind_count t))
    none_told b e = ap₂ (λ (p q : Bool). counts (p || q) (strains_out (count_of t)) (end_bad (behind_count t))) short (sym e)

    pub countless_told : {at_fault : ℕ} → CountRead t (Err at_fault) → fault 17 Nowhere ≡ head_tests t
    countless_told c = sym (none_told true c.none_is)

    module _ {count : Count} (c : CountRead t (Ok count)) where
      out-is : strains_out count.strains ≡ strains_out (count_of t)
      out-is = ap strains_out c.strains_are ∙ cut-strains (count_of t)

      past-count : (b : Bool) → b ≡ strains_out count.strains → head_tests t ≡ counts false b (end_bad (behind_count t))
      past-count b e = none_told false c.none_is ∙ ap (λ (p : Bool). counts false p (end_bad (behind_count t))) (sym (e ∙ out-is))

      pub strains_told : strains_out count.strains ≡ true → fault 6 Nowhere ≡ head_tests t
      strains_told e = sym (past-count true (sym e))

      module _ (in_range : strains_out count.strains ≡ false) where
        past-strains : (b : Bool) → b ≡ end_bad (drop count.end t) → head_tests t ≡ test 17 b
        past-strains b e = past-count false (sym in_range) ∙ ap (test 17) (sym (e ∙ ap end_bad c.behind-is))

        pub unended_told : {at_fault : ℕ} → EndRead t count.end (Err at_fault) → fault 17 Nowhere ≡ head_tests t
        unended_told d = sym (past-strains true d.bad-is)

        pub head_read : {rows : ℕ} → EndRead t count.end (Ok rows) → HeadRead t (Ok (record { strains = count.strains; rows = rows }))
        head_read d =
            let n = small_count (count_of t) (sym out-is ∙ in_range) in
            let e : count.strains ≡ count_of t = c.strains_are ∙ n.0 in record {
              answer = sym (past-strains false d.bad-is);
              opened = record {
                count-is = e;
                few = omega (arith, e, n.1);
                within = d.within;
                rows_are = d.next-is ∙ ap next_line c.behind-is;
              };
            }

-- ---- the whole text
-- a first line that does not end and rows that are not of the form are one test
apart : (a b c d : Bool) (x : Answer) → (test 17 a or_else test 6 b or_else test 17 (c || d) or_else x) ≡ ((test 17 a or_else test 6 b or_else test 17 c) or_else (test 17 d or_else x))
apart true b c d x = refl
apart false true c d x = refl
apart false false true d x = refl
apart false false false d x = refl

abbrev row_tests : List ℕ → Answer
row_tests t = test 17 (rows_bad (count_of t) (rows_of t)) or_else test 18 (decimals_out (count_of t) (rows_of t)) or_else test 19 (halves_out (count_of t) (entries t))

in_two : (t : List ℕ) → text_tests t ≡ (head_tests t or_else row_tests t)
in_two t = apart (countless t) (strains_out (count_of t)) (end_bad (behind_count t)) (rows_bad (count_of t) (rows_of t)) (test 18 (decimals_out (count_of t) (rows_of t)) or_else test 19 (halves_out (count_of t) (entries t)))

halves_cong : (n : ℕ) (f g : ℕ → ℕ → ℕ) → ((i j : ℕ) → i < n → j < n → f i j ≡ g i j) → halves_out n f ≡ halves_out n g
unfolding halves_out
halves_cong n f g h = some_cong n (λ i. some n (λ j. not (eqb (f i j) (cond (eqb i j) 0 (f j i))))) (λ i. some n (λ j. not (eqb (g i j) (cond (eqb i j) 0 (g j i)))))
    (λ i l. some_cong n (λ j. not (eqb (f i j) (cond (eqb i j) 0 (f j i)))) (λ j. not (eqb (g i j) (cond (eqb i j) 0 (g j i))))
    (λ j m. ap₂ (λ (x y : ℕ). not (eqb x (cond (eqb i j) 0 y))) (h i j l m) (h j i m l)))

module _ (t : List ℕ) where
  -- a first line that is refused
  pub head_refused : (r : Refusal) → HeadRead t (Err r) → refusal_of r ≡ text_tests t
  head_refused r h = ap (λ (a : Answer). a or_else row_tests t) h.answer ∙ sym (in_two t)

  module _ {head : Head} (h : HeadRead t (Ok head)) where
    abbrev strains : ℕ
    strains = head.strains

    o : Opened t strains head.rows
    o = h.opened

    behind-head : text_tests t ≡ row_tests t
    behind-head = in_two t ∙ ap (λ (a : Answer). a or_else row_tests t) (sym h.answer)

    bad_are : (b : Bool) → b ≡ rows_bad strains (drop head.rows t) → rows_bad (count_of t) (rows_of t) ≡ b
    bad_are b e = sym (e ∙ ap₂ rows_bad o.count-is o.rows_are)

    past-form : (b : Bool) → b ≡ rows_bad strains (drop head.rows t)
        → text_tests t ≡ (test 17 b or_else test 18 (decimals_out (count_of t) (rows_of t)) or_else test 19 (halves_out (count_of t) (entries t)))
    past-form b e = behind-head
        ∙ ap (λ (x : Bool). test 17 x or_else test 18 (decimals_out (count_of t) (rows_of t)) or_else test 19 (halves_out (count_of t) (entries t))) (bad_are b e)

    module _ {grid grid' names names' : List ℕ} where
      pub rows_told : RowsRead t head.rows strains grid grid' names names' None → fault 17 Nowhere ≡ text_tests t
      rows_told w = sym (past-form true w.bad-is)

      -- the rows, by N and where they begin
      module _ {out : Bool} (w : RowsRead t head.rows strains grid grid' names names' (Some out)) where
        read-rows : Rows (rows_of t) strains grid' names' out
        read-rows = subst (λ (l : List ℕ). Rows l strains grid' names' out) o.rows_are w.rows

        cells_are : (i j : ℕ) → i < strains → j < strains → grid_at grid' i j ≡ entries t i j
        cells_are i j l m = read-rows.entries i j l m ∙ ap (λ (n : ℕ). entry_at n (rows_of t) i j) o.count-is

        outs_are : out ≡ decimals_out (count_of t) (rows_of t)
        outs_are = read-rows.out-is ∙ ap (λ (n : ℕ). decimals_out n (rows_of t)) o.count-is

        halves_are : halves_out strains (grid_at grid') ≡ halves_out (count_of t) (entries t)
        halves_are = halves_cong strains (grid_at grid') (entries t) cells_are ∙ ap (λ (n : ℕ). halves_out n (entries t)) o.count-is

        past-rows : (off : Bool) → off ≡ halves_out strains (grid_at grid') → text_tests t ≡ (test 18 out or_else test 19 off)
        past-rows off e = past-form false w.bad-is ∙ ap₂ (λ (x y : Bool). test 18 x or_else test 19 y) (sym outs_are) (sym (e ∙ halves_are))

        pub decimals_told : out ≡ true → fault 18 Nowhere ≡ text_tests t
        decimals_told e = sym (past-rows (halves_out strains (grid_at grid')) refl ∙ ap (λ (x : Bool). test 18 x or_else test 19 (halves_out strains (grid_at grid'))) e)

        pub halves_told : out ≡ false → (off : Bool) → off ≡ halves_out strains (grid_at grid') → test 19 off ≡ text_tests t
        halves_told e off f = sym (past-rows off f ∙ ap (λ (x : Bool). test 18 x or_else test 19 off) e)

        pub held_read : Held t strains grid' names'
        held_read = record { count-is = o.count-is; cells = cells_are; named = read-rows.named }
