-- What filling the tables of a text promises, of every vertex that stands at a place: where it ends, its number, the next number, and its
-- entries in both tables.
use Rattle.std.specs.Prelude.{◌≡◌, cond, List, ◌∷◌, ◌++◌, ℕ, suc, ◌+◌, ◌<◌, ◌≤◌, ltb, ℤ, length, drop}
use Rattle.digits.specs.Digits.{run}
use Rattle.names.specs.Name.{is_name_byte}
use Rattle.newick_text.specs.Length.{value_of}
use Rattle.newick_text.specs.Tree.{Tree, Row, some, text_then, row_then, Formed, RowFormed}
use Rattle.newick_text.specs.Table.{after, row_after, number_of, filled, row_filled}
use Rattle.newick_words.specs.Words.{cut}
use Rattle.newick_fill.specs.declared.Step.{Step}

-- a number as a table of bytes holds it: those above 255 are none of a tree that is allowed
abbrev pub byte_of : ℕ → ℕ
byte_of v = cond (ltb v 256) v 255

-- what the tables hold of a vertex, where v is its bracket and l its length
abbrev pub parent_entry : ℕ → List ℕ → ℕ
parent_entry v l = byte_of v

abbrev pub length_entry : ℕ → List ℕ → ℤ
length_entry v l = cut (value_of l)

-- how far a number may be ahead of the place where it is given
abbrev pub ahead : ℕ
ahead = 64

-- a formed vertex stands at a
pub record Vertex (s : List ℕ) (a : ℕ) : Type 0 where
  pub tree : Tree
  pub room : ℕ
  pub rest : List ℕ
  pub formed : Formed tree room
  pub stop : run is_name_byte rest ≡ 0
  pub text : drop a s ≡ text_then tree rest

-- children stand at a, behind a bracket that opened or a comma
pub record Children (s : List ℕ) (a : ℕ) : Type 0 where
  pub first : Tree
  pub word : List ℕ
  pub others : Row
  pub room : ℕ
  pub rest : List ℕ
  pub formed : RowFormed (some first word others) room
  pub text : drop a s ≡ text_then first (58 ∷ (word ++ row_then others 44 rest))

-- the vertex was read: k was the next number, p and x the tables, which became q and y
pub record Took (find : List ℕ → ℕ) (s : List ℕ) (a k : ℕ) (p q : List ℕ) (x y : List ℤ) (r : Step) (v : Vertex s a) : Type 0 where
  pub behind : drop r.end s ≡ v.rest
  pub onward : a < r.end
  pub within : r.end ≤ length s
  pub number : r.number ≡ number_of find v.tree k
  pub next : r.next ≡ after v.tree k
  pub small : r.next ≤ r.end + ahead
  pub parents : q ≡ filled find parent_entry v.tree k p
  pub numerators : y ≡ filled find length_entry v.tree k x

-- children, up to and with the bracket that closes, whose number is theirs
pub record TookAll (find : List ℕ → ℕ) (s : List ℕ) (a k : ℕ) (p q : List ℕ) (x y : List ℤ) (r : Step) (v : Children s a) : Type 0 where
  pub behind : drop r.end s ≡ v.rest
  pub onward : a < r.end
  pub within : r.end ≤ length s
  pub number : r.number ≡ row_after (some v.first v.word v.others) k
  pub next : r.next ≡ suc r.number
  pub small : r.next ≤ r.end + ahead
  pub parents : q ≡ row_filled find parent_entry (some v.first v.word v.others) r.number k p
  pub numerators : y ≡ row_filled find length_entry (some v.first v.word v.others) r.number k x
