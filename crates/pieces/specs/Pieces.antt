-- A text that is pieces, one behind the other.
use Rattle.std.specs.Prelude.{List, [], ◌++◌, ℕ, zero, suc}

-- p i, p (i + 1), .., n of them, one behind the other
unfoldable pub pieces_from : ℕ → ℕ → (ℕ → List ℕ) → List ℕ
pieces_from i zero p = []
pieces_from i (suc n) p = p i ++ pieces_from (suc i) n p

-- p 0, p 1, .., p (n - 1)
abbrev pub pieces : ℕ → (ℕ → List ℕ) → List ℕ
pieces n p = pieces_from 0 n p
