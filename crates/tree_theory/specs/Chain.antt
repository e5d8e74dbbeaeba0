-- Which vertices stand above which. The parent of vertex v is `par v`, the root is K, and parents are greater than children.
use Rattle.std.specs.Prelude.{Bool, not, cond, List, ℕ, zero, suc, ◌<◌, eqb, get_or}

-- the parent that a table gives vertex v
abbrev pub parent_of : List ℕ → ℕ → ℕ
parent_of ps v = get_or ps v 0

-- the chain from i: i, the parent of i, the parent of that, .. up to the root K
pub data Chain (par : ℕ → ℕ) (K i : ℕ) : ℕ → Type 0 where
  here : Chain par K i i
  next : {a : ℕ} → a < K → Chain par K i a → Chain par K i (par a)

-- where j stands once vertex w has been passed: at w's parent if it stood at w
abbrev pub pass : (ℕ → ℕ) → ℕ → ℕ → ℕ
pass par w j = cond (eqb j w) (par w) j

-- the first vertex at or above number w on i's chain: the vertices below w are passed in turn
unfoldable pub lift : (ℕ → ℕ) → ℕ → ℕ → ℕ
lift par zero i = i
lift par (suc w) i = pass par w (lift par w i)

-- i is below v, or is v: v is on i's chain (`below_chain` and `chain-below` show that it is the chain)
unfoldable pub below : (ℕ → ℕ) → ℕ → ℕ → Bool
below par i v = eqb (lift par v i) v

-- edge v parts i and j: exactly one of the two is below v
unfoldable pub parts : (ℕ → ℕ) → ℕ → ℕ → ℕ → Bool
parts par v i j = cond (below par i v) (not (below par j v)) (below par j v)

-- the same, over pairs
abbrev pub parts_pair : (ℕ → ℕ) → ℕ → ℕ × ℕ → Bool
parts_pair par v p = parts par v p.0 p.1

-- u is a child of w
abbrev pub kid : (ℕ → ℕ) → ℕ → ℕ → Bool
kid par w u = eqb (par u) w
