-- The tree that lent tables hold, and what a buffer holds once a piece of its text is written.
use Rattle.std.specs.Prelude.{◌≡◌, List, ◌++◌, ℕ, ◌+◌, ◌<◌, ◌≤◌, ℤ, length, get_or, take, drop}
use Rattle.exact.specs.Table.{entry_of}
use Rattle.newick_text.specs.Length.{length_text}
use Rattle.newick_text.specs.Tree.{Tree, Row}
use Rattle.newick_text.specs.Table.{tree_of, children_of}

-- the name of strain i: in the names, at the place that the starts give it, a length byte and so many bytes
abbrev pub word_at : List ℕ → List ℕ → ℕ → List ℕ
word_at names starts i = take (get_or names (get_or starts i 0) 0) (drop (get_or starts i 0 + 1) names)

-- n names, all of them within the bytes
pub record Words (names starts : List ℕ) (n : ℕ) : Type 0 where
  pub enough : n ≤ length starts
  pub within : (i : ℕ) → i < n → get_or starts i 0 + 1 + get_or names (get_or starts i 0) 0 ≤ length names

-- the length of edge w as it is written
abbrev pub edge_text : List ℤ → ℕ → List ℕ
edge_text lengths w = length_text (entry_of lengths w)

-- the tree of vertex v, and the children of v
abbrev pub tree_at : List ℕ → List ℤ → List ℕ → List ℕ → ℕ → ℕ → Tree
tree_at parents lengths names starts n v = tree_of parents (word_at names starts) (edge_text lengths) n v

abbrev pub children_at : List ℕ → List ℤ → List ℕ → List ℕ → ℕ → ℕ → Row
children_at parents lengths names starts n v = children_of parents (word_at names starts) (edge_text lengths) n v

-- a piece of text stands from a to e in what the buffer b became, c; `piece k` is the piece with k behind it. Nothing before or behind it moved
pub record Laid (piece : List ℕ → List ℕ) (size : ℕ) (b c : List ℕ) (a e : ℕ) : Type 0 where
  pub text : (k : List ℕ) → take e c ++ k ≡ take a b ++ piece k
  pub behind : drop e c ≡ drop e b
  pub end : e ≡ a + size
  pub same : length c ≡ length b

-- the most bytes of a length: a minus, twenty digits, a point, three digits
abbrev pub widest_length : ℕ
widest_length = 25
