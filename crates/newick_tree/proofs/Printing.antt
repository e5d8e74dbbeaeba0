-- Where the names record ends; and the print of what a text shows, by its answer.
use mathlib.Core.Path.{◌≡◌, sym, ◌∙◌, ap, subst}
use mathlib.Core.List.{List, [], ◌∷◌}
use Prim.Native.Nat.{ℕ, ◌+◌, ◌-◌, ◌<◌, ◌≤◌}
use native.Mathlib.Omega.{arith}
use borrow.Author.Tests.{lt-ltb, le-ltb, ltb-false}
use lib.Dec.{ltb}
use lib.IntN.{ℤ, pos}
use lib.ListN.{length, take, drop, length-drop}
use lib.Seq.{take_all}
use Rattle.verdict.specs.Answer.{pass, reason_number, test}
use Rattle.verdict.specs.Answer.{Verdict}
use Rattle.std.specs.Prelude.{Result, Ok, Err, IfOk}
use Rattle.verdict.specs.declared.Refusal.{Refusal}
use Rattle.verdict.specs.declared.Place.TheVariants.{Nowhere}
use Rattle.verdict.proofs.Answers.{refuses, or_else_pass, test-pass, or_none}
use Rattle.matrix.specs.Limits.{min_strains, max_strains}
use Rattle.matrix.specs.Tests.{strains_out}
use Rattle.tree_theory.specs.Limits.{max_edges}
use Rattle.endian.specs.Bytes.{number}
use Rattle.records.specs.Form.{head_size, end_at}
use Rattle.writing.specs.Text.{Wrote}
use Rattle.writing.proofs.Writing.{wrote_then}
use Rattle.lines.specs.Lines.{line, edge_lines, refused_line}
use Rattle.lines.specs.Page.{widest}
use Rattle.lines.proofs.Sizes.{line-length}
use Rattle.answer_lines.specs.Texts.{by_answer}
use Rattle.names.specs.Record.{record_count, names_tests}
use Rattle.newick_text.specs.Tests.{row_tests}
use Rattle.newick_survey.specs.Text.{find_in, head_tests, Answered, by_names, by_form, by_row, Surveyed}
use Rattle.newick_survey.specs.declared.Survey.{Survey}
use Rattle.newick_tree.specs.Tree.{record_end, names_part, text_part, tree_word, row_of, tree_lines, survey_text}

-- ---- where the record ends
module _ (s : List ℕ) (n : ℕ) (h : head_size ≤ length s) (e : n ≡ number 4 s 0) where
  pub end-cut : length s < head_size + n → length s ≡ record_end s
  end-cut l = simp (le-ltb (length s) head_size h, lt-ltb (length s) (end_at s 0) (omega (arith, e)))

  pub end-there : head_size + n ≤ length s → head_size + n ≡ record_end s
  end-there l = simp (le-ltb (length s) head_size h, le-ltb (length s) (end_at s 0) (omega (arith, e))) (omega (arith, e))

-- ---- what passes has few strains and few edges
module _ (names text : List ℕ) where
  few-strains : head_tests names ≡ pass → record_count names ≤ max_strains
  few-strains h =
      let out = test-pass 6 (strains_out (record_count names)) (or_else_pass (names_tests names) (test 6 (strains_out (record_count names))) h).1 in
      ltb-false max_strains (record_count names) (or_none (ltb (record_count names) min_strains) (ltb max_strains (record_count names)) out).1

  pub few : (v : Result Survey Refusal) → Surveyed names text v → IfOk v (λ x. (x.strains ≤ max_strains) × (x.edges ≤ max_edges))
  few (Err q) a = tt
  few (Ok v) a = go a.answer
    where
      go : Answered names text (row_tests (find_in names) (record_count names)) pass → (v.strains ≤ max_strains) × (v.edges ≤ max_edges)
      go (by_names n e) = absurd (n (sym e))
      go (by_form h n e) = absurd (refuses 28 Nowhere (sym e))
      go (by_row h r t e) = let held = a.held r t in (omega (arith, held.strains, few-strains h), held.few)

-- ---- the print
pub first-end : (N K m : ℕ) (b c : List ℕ) → Wrote b c 0 (line tree_word (pos N ∷ pos K ∷ [])) m → m ≤ widest
first-end N K m b c w = omega (arith, w.place, line-length tree_word (pos N ∷ pos K ∷ []))

pub shows-refusal : (b c : List ℕ) (m k : ℕ) (q : Refusal) → k ≡ reason_number q.reason → Wrote b c 0 (refused_line k q.place) m → Wrote b c 0 (survey_text (Err q)) m
shows-refusal b c m k q f w = subst (λ (x : ℕ). Wrote b c 0 (refused_line x q.place) m) f w

pub lines_then : (N K : ℕ) (ps : List ℕ) (ms : List ℤ) (b c d : List ℕ) (m k : ℕ) → widest ≤ length b → Wrote b c 0 (line tree_word (pos N ∷ pos K ∷ [])) m → Wrote c d m (edge_lines K (row_of ps ms)) k
    → Wrote b d 0 (tree_lines N K ps ms) k
unfolding tree_lines
lines_then N K ps ms b c d m k room p q = wrote_then (omega (arith, line-length tree_word (pos N ∷ pos K ∷ []))) p q

-- the input parted where the record ends
pub parted : (s : List ℕ) (e : ℕ) (v : Result Survey Refusal) → e ≡ record_end s → Surveyed (take e s) (take (length s - e) (drop e s)) v → Surveyed (names_part s) (text_part s) v
parted s e v f a =
    let rest : take (length s - e) (drop e s) ≡ drop e s = take_all (length s - e) (drop e s) (omega (arith, length-drop e s)) in
    subst (λ (n : ℕ). Surveyed (take n s) (drop n s) v) f (subst (λ (l : List ℕ). Surveyed (take e s) l v) rest a)
