-- The functions that fill a lent buffer: the tests come first, the buffer is asked last, and nothing is written before that.
-- `split-..`: split sums. `paths-..`: path lengths.
use mathlib.Core.Path.{◌≡◌, refl, sym, ◌∙◌, ap}
use mathlib.Core.List.{List}
use Prim.Native.Nat.{ℕ, ◌<◌}
use borrow.Author.Tests.{ne_eqb}
use lib.IntN.{ℤ, pos}
use lib.ListN.{length}
use Rattle.exact.specs.Table.{table, entry_of}
use Rattle.exact.proofs.Decide.{eq_yes}
use Rattle.exact.proofs.Fill.{table_cong}
use Rattle.verdict.specs.Answer.{Answer, pass, fault, refusal_of, test, ◌or_else◌}
use Rattle.verdict.specs.declared.Refusal.{Refusal}
use Rattle.verdict.specs.declared.Place.TheVariants.{Nowhere}
use Rattle.verdict.specs.declared.Reason.TheVariants.{Buffer}
use Rattle.std.specs.Prelude.{Ok, Err}
use Rattle.verdict.proofs.Answers.{not_pass}
use Rattle.matrix.specs.Place.{pair_count, row_place}
use Rattle.tree_theory.specs.Tests.{tree_tests}
use Rattle.lengths.specs.Tests.{lengths_tests}
use Rattle.fit_theory.specs.Quantities.{split_sum, path_of}
use Rattle.fit_theory.specs.Tests.{buffer_out, posted_tests, split_tests, paths_tests}
use Rattle.tables.specs.Answers.{SplitAnswer, PathsAnswer}

-- 15, as a refusal
abbrev pub no_room : Refusal
no_room = record { reason = Buffer; place = Nowhere }

wrong_size : (a b : ℕ) → (a ≡ b → ⊥) → fault 15 Nowhere ≡ test 15 (buffer_out a b)
wrong_size a b h = rw (ne_eqb a b h)

right-size : (a b : ℕ) → a ≡ b → pass ≡ test 15 (buffer_out a b)
right-size a b e = rw (eq_yes e)

-- ---- split sums
module _ (N : ℕ) (ds ps : List ℕ) (before : List ℤ) where
  abbrev split-size : Answer
  split-size = test 15 (buffer_out (length before) (length ps))

  split-left : (k : Refusal) → refusal_of k ≡ split_tests N ds ps (length before) → SplitAnswer N ds ps before before (Err k)
  split-left k w = record { answer = w; filled = λ z. absurd (not_pass k (w ∙ z)); kept = λ _. refl }

  pub split-refused : (k : Refusal) → refusal_of k ≡ posted_tests N ds ps → SplitAnswer N ds ps before before (Err k)
  split-refused k q = split-left k (ap (λ (z : Answer). z or_else split-size) q)

  module _ (q : pass ≡ posted_tests N ds ps) where
    split-number : split-size ≡ split_tests N ds ps (length before)
    split-number = ap (λ (z : Answer). z or_else split-size) q

    pub split-buffer : (length before ≡ length ps → ⊥) → SplitAnswer N ds ps before before (Err no_room)
    split-buffer h = split-left no_room (wrong_size (length before) (length ps) h ∙ split-number)

    pub split-filled : (worked after : List ℤ) → length before ≡ length ps → ((u : ℕ) → u < length ps → entry_of worked u ≡ split_sum N ds ps u)
        → after ≡ table (length ps) (entry_of worked) → SplitAnswer N ds ps before after (Ok tt)
    split-filled worked after s w e =
        let number : pass ≡ split_tests N ds ps (length before) = right-size (length before) (length ps) s ∙ split-number in
        record { answer = number; filled = λ _. e ∙ table_cong (pos 0) (length ps) (entry_of worked) (split_sum N ds ps) w; kept = λ h. absurd (h (sym number)) }

-- ---- path lengths
module _ (N : ℕ) (ps : List ℕ) (D : ℕ) (ns before : List ℤ) where
  abbrev paths-size : Answer
  paths-size = test 15 (buffer_out (length before) (pair_count N))

  paths-left : (k : Refusal) → refusal_of k ≡ paths_tests N ps D ns (length before) → PathsAnswer N ps D ns before before (Err k)
  paths-left k w = record { answer = w; size = refl; filled = λ z. absurd (not_pass k (w ∙ z)); kept = λ _. refl }

  -- what is asked behind the tree, and behind the lengths
  behind-tree : (a : Answer) → a ≡ tree_tests N ps → (a or_else lengths_tests (length ps) D ns or_else paths-size) ≡ paths_tests N ps D ns (length before)
  behind-tree a q = ap (λ (z : Answer). z or_else lengths_tests (length ps) D ns or_else paths-size) q

  behind-lengths : pass ≡ tree_tests N ps → (a : Answer) → a ≡ lengths_tests (length ps) D ns → (a or_else paths-size) ≡ paths_tests N ps D ns (length before)
  behind-lengths q a p = ap (λ (z : Answer). z or_else paths-size) p ∙ behind-tree pass q

  pub paths-tree : (k : Refusal) → refusal_of k ≡ tree_tests N ps → PathsAnswer N ps D ns before before (Err k)
  paths-tree k q = paths-left k (behind-tree (refusal_of k) q)

  pub paths-lengths : (k : Refusal) → pass ≡ tree_tests N ps → refusal_of k ≡ lengths_tests (length ps) D ns → PathsAnswer N ps D ns before before (Err k)
  paths-lengths k q p = paths-left k (behind-lengths q (refusal_of k) p)

  module _ (q : pass ≡ tree_tests N ps) (p : pass ≡ lengths_tests (length ps) D ns) where
    pub paths-buffer : (length before ≡ pair_count N → ⊥) → PathsAnswer N ps D ns before before (Err no_room)
    paths-buffer h = paths-left no_room (wrong_size (length before) (pair_count N) h ∙ behind-lengths q pass p)

    pub paths-filled : (after : List ℤ) → length before ≡ pair_count N → length after ≡ length before
        → ((i j : ℕ) → i < j → j < N → entry_of after (row_place N i j) ≡ path_of ps ns (i, j)) → PathsAnswer N ps D ns before after (Ok tt)
    paths-filled after s c w =
        let number : pass ≡ paths_tests N ps D ns (length before) = right-size (length before) (pair_count N) s ∙ behind-lengths q pass p in
        record { answer = number; size = c; filled = λ _. w; kept = λ h. absurd (h (sym number)) }
