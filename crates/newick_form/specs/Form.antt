-- What the judge of a text promises: accepted, there is a row whose text it is; refused, there is none.
use Rattle.std.specs.Prelude.{◌≡◌, Bool, true, false, List, ℕ, ◌<◌, ◌≤◌, length, drop, Option, Some, None}
use Rattle.digits.specs.Digits.{run}
use Rattle.names.specs.Name.{is_name_byte}
use Rattle.newick_text.specs.Tree.{Tree, Row, text_then, Formed, Text}

-- a vertex stands from a to e, with m more brackets at most; any other that begins at a ends there too, where no byte of a name follows it
pub record Stands (s : List ℕ) (a m e : ℕ) : Type 0 where
  pub tree : Tree
  pub text : drop a s ≡ text_then tree (drop e s)
  pub formed : Formed tree m
  pub only : (t : Tree) (n : ℕ) (k : List ℕ) → Formed t n → run is_name_byte k ≡ 0 → drop a s ≡ text_then t k → k ≡ drop e s
  pub onward : a < e
  pub within : e ≤ length s

abbrev pub FormRead : List ℕ → ℕ → ℕ → Option ℕ → Type 0
FormRead s a m None = (t : Tree) (k : List ℕ) → Formed t m → run is_name_byte k ≡ 0 → drop a s ≡ text_then t k → ⊥
FormRead s a m (Some e) = Stands s a m e

-- the text of a row
pub record Found (s : List ℕ) : Type 0 where
  pub row : Row
  pub text : Text s row

abbrev pub TextRead : List ℕ → Bool → Type 0
TextRead s true = Found s
TextRead s false = (r : Row) → Text s r → ⊥
