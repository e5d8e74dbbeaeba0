-- The answer to names, a tree and thousandths by the answer to each of its tests; and what passes may be told.
use mathlib.Core.Path.{◌≡◌, refl, sym, ◌∙◌, ap}
use mathlib.Core.Bool.{true, not}
use mathlib.Core.List.{List}
use Prim.Native.Nat.{ℕ, ◌+◌, ◌<◌}
use native.Mathlib.Decide.{dec_lt}
use native.Mathlib.Omega.{arith}
use borrow.Author.Tests.{lt-ltb, le-ltb, eqb-true, not-false}
use lib.Dec.{eqb}
use lib.IntN.{ℤ}
use lib.ListN.{length}
use Rattle.exact.proofs.Decide.{by_cases}
use Rattle.verdict.specs.Answer.{Answer, pass, refusal_of, ◌or_else◌}
use Rattle.std.specs.Prelude.{Ok, Err}
use Rattle.verdict.specs.declared.Refusal.{Refusal}
use Rattle.verdict.proofs.Answers.{or_else_pass, test-pass}
use Rattle.matrix.specs.Limits.{min_strains, max_strains}
use Rattle.matrix.specs.Tests.{strains_out}
use Rattle.tree_theory.specs.Tests.{tree_tests}
use Rattle.lengths.specs.Tests.{lengths_tests}
use Rattle.lengths.proofs.Checked.{→proper}
use Rattle.records.specs.Form.{head_size}
use Rattle.names.specs.Record.{record_count, names_tests, NamesAnswer}
use Rattle.names.proofs.Laws.{lent-within, lent-formed}
use Rattle.writing.specs.Text.{Wrote}
use Rattle.newick_text.specs.Tree.{max_text}
use Rattle.newick_text.specs.Tests.{thousand}
use Rattle.newick_write.specs.Answers.{Tellable, room_out, write_tests, strains_cut, Judged, tree_text, WriteAnswer}

-- more strains than a tree may have are refused whatever their number
large_out : (n : ℕ) → max_strains < n → strains_out n ≡ true
large_out n h = rw (le-ltb n min_strains (omega arith), lt-ltb max_strains n h)

pub cut-tree : (count : ℕ) (ps : List ℕ) → tree_tests (strains_cut count) ps ≡ tree_tests count ps
cut-tree count ps = by_cases (dec_lt max_strains count)
    (λ h. let cut : strains_cut count ≡ max_strains + 1 = rw (lt-ltb max_strains count h) in
    ap (λ (n : ℕ). tree_tests n ps) cut ∙ simp (large_out count h))
    (λ h. let cut : strains_cut count ≡ count = rw (le-ltb max_strains count (omega arith)) in ap (λ (n : ℕ). tree_tests n ps) cut)

module _ (names ps : List ℕ) (ms : List ℤ) (room : ℕ) where
  abbrev rest : Answer
  rest = tree_tests (record_count names) ps or_else lengths_tests (length ps) thousand ms or_else room_out room

  pub names-refused : (r : Refusal) → NamesAnswer names (Err r) → refusal_of r ≡ write_tests names ps ms room
  names-refused r a = ap (λ (x : Answer). x or_else rest) a.answer

  -- behind the names
  pub past-names : {n : ℕ} → NamesAnswer names (Ok n) → write_tests names ps ms room ≡ (tree_tests (strains_cut n) ps or_else lengths_tests (length ps) thousand ms or_else room_out room)
  past-names {n} a = sym (ap (λ (x : Answer). x or_else lengths_tests (length ps) thousand ms or_else room_out room) (cut-tree n ps ∙ ap (λ (k : ℕ). tree_tests k ps) a.count)
      ∙ ap (λ (x : Answer). x or_else rest) a.answer)

-- what passes may be told
pub tellable : (names ps : List ℕ) (ms : List ℤ) (buffer : List ℕ) → write_tests names ps ms (length buffer) ≡ pass → Tellable names head_size (record_count names) ps ms buffer
tellable names ps ms buffer p =
    let lengths = lengths_tests (length ps) thousand ms in
    let q = or_else_pass (names_tests names) (tree_tests (record_count names) ps or_else lengths or_else room_out (length buffer)) p in
    let r = or_else_pass (tree_tests (record_count names) ps) (lengths or_else room_out (length buffer)) q.1 in
    let s = or_else_pass lengths (room_out (length buffer)) r.1 in
    record {
      within = lent-within names q.0;
      named = lent-formed names q.0;
      allowed = r.0;
      edges = omega (arith, (→proper (length ps) thousand ms s.0).whole);
      room = eqb-true (length buffer) max_text (not-false _ (test-pass 15 (not (eqb (length buffer) max_text)) s.1));
    }

-- ---- the writer, by what was judged
module _ (names ps : List ℕ) (ms : List ℤ) (before : List ℕ) where
  pub judged-refused : (r : Refusal) → Judged names ps ms (length before) (Err r) → WriteAnswer names ps ms before before (Err r)
  judged-refused r j = record { answer = j.answer; written = tt; kept = refl }

  module _ {n : ℕ} (j : Judged names ps ms (length before) (Ok n)) where
    pub judged-ready : Tellable names head_size n ps ms before
    judged-ready = rw (j.count) (tellable names ps ms before (sym j.answer))

    pub judged-passed : (after : List ℕ) (next : ℕ) → Wrote before after 0 (tree_text names head_size n ps ms) next → WriteAnswer names ps ms before after (Ok next)
    judged-passed after next w = record { answer = j.answer; written = rw (j.count) at w; kept = tt }
