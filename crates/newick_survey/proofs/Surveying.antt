-- What each step of going through a text gives: the root filled into blank tables, and the answers, one exit after the other.
use mathlib.Core.Path.{◌≡◌, refl, sym, ◌∙◌, ap, ap₂, subst}
use mathlib.Core.Bool.{Bool, true, false}
use mathlib.Core.List.{List, [], ◌∷◌}
use Prim.Native.Nat.{ℕ, ◌+◌, ◌-◌, ◌≤◌}
use native.Mathlib.Omega.{arith}
use borrow.Author.Tests.{eqb-true, eqb-false, ltb-false}
use lib.Dec.{eqb, ltb}
use lib.IntN.{ℤ, pos}
use lib.ListN.{length, get_or, take}
use Rattle.exact.specs.Table.{table, padded}
use Rattle.exact.proofs.Fill.{length-table}
use Rattle.verdict.specs.Answer.{Answer, pass, fault, answer_of, refusal_of, test, ◌or_else◌}
use Rattle.verdict.specs.Table.{some, first}
use Rattle.verdict.specs.declared.Refusal.{Refusal}
use Rattle.std.specs.Prelude.{Result, Ok, Err, IfOk}
use Rattle.verdict.specs.declared.Reason.TheVariants.{Newick, Names}
use Rattle.verdict.specs.declared.Place.TheVariants.{Nowhere}
use Rattle.verdict.proofs.Table.{some-none, lowest}
use Rattle.verdict.proofs.Answers.{refuses, not_pass, or_none}
use Rattle.matrix.specs.Limits.{min_strains, max_strains}
use Rattle.matrix.specs.Tests.{strains_out}
use Rattle.tree_theory.specs.Limits.{max_edges}
use Rattle.tree_theory.specs.Tests.{tree_tests}
use Rattle.lengths.specs.Tests.{lengths_tests}
use Rattle.records.specs.Names.{name_start}
use Rattle.records.specs.Form.{head_size}
use Rattle.records.proofs.Decoding.{padded-before}
use Rattle.names.specs.Record.{place_of, record_count, NamesAnswer}
use Rattle.names.proofs.Laws.{lent-within}
use Rattle.name_keys.specs.Keyed.{Firsts, Keyed}
use Rattle.newick_text.specs.Tree.{Row, node, text_then, Formed, Text, max_open}
use Rattle.newick_text.specs.Tree as tree
use Rattle.newick_text.specs.Table.{number_of, filled}
use Rattle.newick_text.specs.Tests.{thousand, edges_in, parents_in, numerators_in, names_wrong, row_tests}
use Rattle.newick_text.specs.Count.{occurs}
use Rattle.newick_text.proofs.Unique.{semicolon_ends, one-row}
use Rattle.newick_text.proofs.Counting.{commas}
use Rattle.newick_text.proofs.Using.{names-right, names-many, names-missing}
use Rattle.newick_text.proofs.Filling.{filled-length}
use Rattle.newick_form.specs.Form.{Found, TextRead}
use Rattle.newick_fill.specs.declared.Step.{Step}
use Rattle.newick_fill.specs.Fill.{parent_entry, length_entry, Vertex, Children, TookAll}
use Rattle.newick_fill.proofs.Steps.{bracket_kids, took_bracket}
use Rattle.newick_words.proofs.Edges.{first-is}
use Rattle.newick_survey.specs.declared.Survey.{Survey}
use Rattle.newick_survey.specs.Text.{find_in, head_tests, table_tests, Entered, Held, TextSurvey, formless, formed, by_names, by_form, by_row, Surveyed}
use Rattle.newick_survey.proofs.Fronts.{tests_are, passes-few, passes-lengths, parents_are, numerators_are, entry-unused, entry-used}

-- ---- the root
pub root_stands : (s : List ℕ) (r : Row) → Text s r → Vertex s 0
unfolding text_then
root_stands s r x = record { tree = node r; room = max_open; rest = 59 ∷ []; formed = x.formed; stop = semicolon_ends; text = x.text }

-- it opens a bracket, and its children stand behind that
pub root-opens : (s : List ℕ) (r : Row) → Text s r → get_or s 0 0 ≡ 40
unfolding text_then Formed
root-opens s tree.none x = absurd x.formed.1
root-opens s (tree.some t w o) x = first-is s 0 40 _ x.text

pub root-kids : (s : List ℕ) (r : Row) (x : Text s r) → Children s 1
root-kids s r x = bracket_kids (λ _. 0) s 0 0 [] [] [] [] (root-opens s r x) (root_stands s r x)

pub entered : (s : List ℕ) (N : ℕ) (r : Row) (x : Text s r) {find : List ℕ → ℕ} {p q : List ℕ} {y z : List ℤ} {o : Step} → p ≡ table max_edges (λ _. 0) → y ≡ table max_edges (λ _. pos 0)
    → ((c : Children s 1) → TookAll find s 1 N p q y z o c) → Entered find N r (record { strains = N; edges = o.number; parents = q; numerators = z })
unfolding root_stands number_of
entered s N r x {find} {p} {q} {y} {z} {o} ep ey t =
    let k = took_bracket find s 0 N p q y z (root-opens s r x) o t (root_stands s r x) in
    record {
      strains = refl;
      edges = k.number;
      parents = k.parents ∙ ap (filled find parent_entry (node r) N) ep;
      numerators = k.numerators ∙ ap (filled find length_entry (node r) N) ey;
    }

-- ---- the names by their keys
pub names_keyed : (s : List ℕ) (n : ℕ) (firsts starts : List ℕ) → n ≤ max_strains → name_start s head_size n ≤ length s → Firsts s head_size n firsts → starts ≡ padded 0 max_strains n (name_start s head_size)
    → Keyed s head_size n firsts starts
names_keyed s n firsts starts few within first e = record {
  few = few;
  within = within;
  first = first;
  begins = λ i h. ap (λ (l : List ℕ). get_or l i 0) e ∙ padded-before 0 max_strains n (name_start s head_size) i h;
}

-- ---- a text beside names
module _ (find : List ℕ → ℕ) (N : ℕ) (text : List ℕ) where
  pub survey_formless : TextRead text false → TextSurvey find N text (Err (record { reason = Newick; place = Nowhere }))
  survey_formless n = formless n refl

  -- of the form
  module _ (f : Found text) where
    abbrev r : Row
    r = f.row

    wrong : names_wrong find N r ≡ true → TextSurvey find N text (Err (record { reason = Names; place = Nowhere }))
    wrong w =
        let t : row_tests find N r ≡ test 29 true = ap (λ (q : Bool). test 29 q or_else tree_tests N (parents_in find N r) or_else lengths_tests (edges_in find N r) thousand (numerators_in find N r)) w in
        formed r f.text (record { answer = sym t; held = tt })

    -- more or fewer leaves than names
    pub survey_many : (occurs 44 text + 1 ≡ N → ⊥) → TextSurvey find N text (Err (record { reason = Names; place = Nowhere }))
    survey_many d = wrong (names-many find N r (λ h. d (omega (arith, h, commas text r f.text))))

    module _ (few : N ≤ max_strains) (t : Survey) (entries : Entered find N r t) where
      -- a name that is not used
      pub survey_unused : some N (λ i. eqb (get_or t.parents i 0) 0) ≡ true → TextSurvey find N text (Err (record { reason = Names; place = Nowhere }))
      survey_unused u =
          let l = lowest N (λ i. eqb (get_or t.parents i 0) 0) u in
          let i = first N (λ j. eqb (get_or t.parents j 0) 0) in
          wrong (names-missing find N r i l.below (entry-unused find N r i l.below few (sym (ap (λ (p : List ℕ). get_or p i 0) entries.parents) ∙ eqb-true _ 0 l.fault)))

      -- every name once: the tables are judged
      module _ (three : strains_out N ≡ false) (all : occurs 44 text + 1 ≡ N) (used : some N (λ i. eqb (get_or t.parents i 0) 0) ≡ false) where
        right : names_wrong find N r ≡ false
        right = names-right find N r (omega (arith, all, commas text r f.text))
            (λ i l. entry-used find N r i l few (λ z. eqb-false _ 0 (some-none N (λ j. eqb (get_or t.parents j 0) 0) used i l) (ap (λ (p : List ℕ). get_or p i 0) entries.parents ∙ z)))

        told : table_tests N t.edges t.parents t.numerators ≡ row_tests find N r
        told = ap (λ (k : ℕ). table_tests N k t.parents t.numerators) entries.edges
            ∙ ap₂ (λ (p : List ℕ) (x : List ℤ). table_tests N (edges_in find N r) p x) entries.parents entries.numerators
            ∙ tests_are find N r three right

        pub judge-refused : (q : Refusal) → refusal_of q ≡ table_tests N t.edges t.parents t.numerators → TextSurvey find N text (Err q)
        judge-refused q a = formed r f.text (record { answer = a ∙ told; held = tt })

        pub survey_judged : pass ≡ table_tests N t.edges t.parents t.numerators → TextSurvey find N text (Ok t)
        survey_judged a = let ok : row_tests find N r ≡ pass = sym (a ∙ told) in let k = passes-few find N r three ok in formed r f.text (record {
          answer = sym ok;
          held = record {
            strains = entries.strains;
            edges = entries.edges;
            few = omega (arith, entries.edges, k);
            parents = ap₂ (λ (j : ℕ) (p : List ℕ). take j p) entries.edges entries.parents ∙ parents_are find N r k;
            numerators = ap₂ (λ (j : ℕ) (x : List ℤ). take j x) entries.edges entries.numerators ∙ numerators_are find N r k (passes-lengths find N r ok);
          };
        })

-- the tables have room for as many edges as a tree may have
pub entered-room : (find : List ℕ → ℕ) (N : ℕ) (r : Row) (t : Survey) → Entered find N r t → (length t.parents ≡ max_edges) × (length t.numerators ≡ max_edges)
entered-room find N r t e = (
  ap length e.parents ∙ filled-length find parent_entry (node r) N (table max_edges (λ _. 0)) ∙ length-table max_edges (λ _. 0),
  ap length e.numerators ∙ filled-length find length_entry (node r) N (table max_edges (λ _. pos 0)) ∙ length-table max_edges (λ _. pos 0),
)

pub strains-few : (N : ℕ) → strains_out N ≡ false → N ≤ max_strains
strains-few N h = ltb-false max_strains N (or_none (ltb N min_strains) (ltb max_strains N) h).1

pub strains-some : (N : ℕ) → strains_out N ≡ false → min_strains ≤ N
strains-some N h = ltb-false N min_strains (or_none (ltb N min_strains) (ltb max_strains N) h).0

-- one leaf more than commas, or not, by the test of the commas
module _ (N : ℕ) (h : strains_out N ≡ false) (text : List ℕ) where
  pub leaves_all : eqb (occurs 44 text) (N - 1) ≡ true → occurs 44 text + 1 ≡ N
  leaves_all e = omega (arith, eqb-true (occurs 44 text) (N - 1) e, strains-some N h)

  pub leaves_out : eqb (occurs 44 text) (N - 1) ≡ false → occurs 44 text + 1 ≡ N → ⊥
  leaves_out e q = eqb-false (occurs 44 text) (N - 1) e (omega (arith, q))

-- ---- names first
-- what follows a refusal does not matter
pub same_head : (a b c : Answer) → (a ≡ pass → b ≡ c) → (a or_else b) ≡ (a or_else c)
same_head pass b c h = h refl
same_head (fault k p) b c h = refl

module _ (names text : List ℕ) where
  -- a refusal of the names, or of how many there are
  refused-first : (q : Refusal) → refusal_of q ≡ head_tests names → Surveyed names text (Err q)
  refused-first q e = record { answer = by_names (λ ok. not_pass q (e ∙ ok)) e; held = tt }

  pub survey_unnamed : (q : Refusal) → NamesAnswer names (Err q) → Surveyed names text (Err q)
  survey_unnamed q a = refused-first q (ap (λ (x : Answer). x or_else test 6 (strains_out (record_count names))) a.answer)

  module _ {n : ℕ} (a : NamesAnswer names (Ok n)) where
    head-is : head_tests names ≡ test 6 (strains_out n)
    head-is = sym (ap₂ (λ (x : Answer) (k : ℕ). x or_else test 6 (strains_out k)) a.answer a.count)

    pub survey_uncounted : (q : Refusal) → refusal_of q ≡ test 6 (strains_out n) → Surveyed names text (Err q)
    survey_uncounted q e = refused-first q (e ∙ sym head-is)

    module _ (e : strains_out n ≡ false) where
      passed : head_tests names ≡ pass
      passed = head-is ∙ ap (test 6) e

      pub names-known : (strains_out n ≡ false) × (name_start names head_size n ≤ length names)
      names-known = (e, omega (arith, ap (name_start names head_size) a.count, lent-within names (sym a.answer)))

      pub survey_named : (v : Result Survey Refusal) → TextSurvey (place_of names head_size n) n text v → Surveyed names text v
      survey_named v t = go v (subst (λ (k : ℕ). TextSurvey (place_of names head_size k) k text v) a.count t)
        where
          any-row : (w : Result Survey Refusal) (r : Row) → Text text r → IfOk w (λ x. Held (find_in names) (record_count names) r x)
              → IfOk w (λ x. (q : Row) → Text text q → Held (find_in names) (record_count names) q x)
          any-row (Ok x) r y h = λ q z. subst (λ (u : Row). Held (find_in names) (record_count names) u x) (one-row text r q y z) h
          any-row (Err f) r y h = tt

          none : (w : Result Survey Refusal) → answer_of w ≡ test 28 true → IfOk w (λ x. (q : Row) → Text text q → Held (find_in names) (record_count names) q x)
          none (Ok x) h = absurd (refuses 28 Nowhere (sym h))
          none (Err f) h = tt

          go : (w : Result Survey Refusal) → TextSurvey (find_in names) (record_count names) text w → Surveyed names text w
          go w (formless n h) = record { answer = by_form passed n h; held = none w h }
          go w (formed r x s) = record { answer = by_row passed r x s.answer; held = any-row w r x s.held }
