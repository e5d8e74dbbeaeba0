-- What a text is asked beside N names (RULES, Trees in text), where `find` gives the number of a name, N or above where it is unknown.
use Rattle.std.specs.Prelude.{Bool, not, ◌||◌, List, ℕ, eqb, leb, ℤ, pos}
use Rattle.exact.specs.Table.{table}
use Rattle.verdict.specs.Answer.{Answer, test, ◌or_else◌}
use Rattle.verdict.specs.Table.{some}
use Rattle.tree_theory.specs.Tests.{tree_tests}
use Rattle.lengths.specs.Tests.{lengths_tests}
use Rattle.newick_text.specs.Length.{value_of}
use Rattle.newick_text.specs.Tree.{Row, node, leaves_with}
use Rattle.newick_text.specs.Table.{row_after, filled}

-- lengths are thousandths
abbrev pub thousand : ℕ
thousand = 1000

module _ (find : List ℕ → ℕ) (N : ℕ) (r : Row) where
  -- the root's number, and so how many edges there are
  abbrev pub edges_in : ℕ
  edges_in = row_after r N

  -- the parents and the numerators over 1000, an entry for each edge
  abbrev pub parents_in : List ℕ
  parents_in = filled find (λ v l. v) (node r) N (table edges_in (λ _. 0))

  abbrev pub numerators_in : List ℤ
  numerators_in = filled find (λ v l. value_of l) (node r) N (table edges_in (λ _. pos 0))

  -- 29: a name unknown, or a strain used twice or missing
  abbrev pub names_wrong : Bool
  names_wrong = leb 1 (leaves_with (λ n. leb N (find n)) (node r)) || some N (λ i. not (eqb (leaves_with (λ n. eqb (find n) i) (node r)) 1))

  -- 29; then the tree and the lengths as they are asked anywhere: 8, 10; 13
  abbrev pub row_tests : Answer
  row_tests = test 29 names_wrong or_else tree_tests N parents_in or_else lengths_tests edges_in thousand numerators_in

  -- 15: room for other than K parents or K numerators
  abbrev pub room_out : ℕ → ℕ → Bool
  room_out parents numerators = not (eqb parents edges_in) || not (eqb numerators edges_in)
