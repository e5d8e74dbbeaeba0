-- A line in a buffer that is fed piece by piece: it ends at LF, and a CR right before LF belongs to its end.
use Rattle.std.specs.Prelude.{◌≡◌, Bool, cond, not, ◌&&◌, List, ℕ, ◌+◌, ◌-◌, ◌≤◌, eqb, ltb, length, get_or, take, drop, Option, is_some, IfSome}
use Rattle.digits.specs.Digits.{run}
use Rattle.desk_feed.specs.declared.Found.{Found}

-- a byte that ends no line by itself
abbrev pub in_line : ℕ → Bool
in_line x = not (eqb x 10)

-- where LF stands, behind the bytes of the line that begins at a place; the end of the buffer where none has come
abbrev pub feed_at : List ℕ → ℕ → ℕ
feed_at s from = from + run in_line (drop from s)

-- where the line's bytes end that has LF at a place: a CR right before it is no byte of the line
abbrev pub end_of : List ℕ → ℕ → ℕ → ℕ
end_of s from at = cond (ltb from at && eqb (get_or s (at - 1) 0) 13) (at - 1) at

-- the line that begins at a place, whose end has come
pub record IsLine (s : List ℕ) (from : ℕ) (l : Found) : Type 0 where
  pub end_is : l.end ≡ end_of s from (feed_at s from)
  pub next-is : l.next ≡ feed_at s from + 1
  pub begins : from ≤ l.end
  pub ends : l.end ≤ l.next
  pub within : l.next ≤ length s

-- it is there where LF has come
pub record LineFound (s : List ℕ) (from : ℕ) (r : Option Found) : Type 0 where
  pub whole_is : is_some r ≡ ltb (feed_at s from) (length s)
  pub line : IfSome r (λ l. IsLine s from l)

-- the bytes from one place to another moved to the front
pub record Moved (before : List ℕ) (from to : ℕ) (after : List ℕ) (r : ℕ) : Type 0 where
  pub count-is : r ≡ to - from
  pub size : length after ≡ length before
  pub front-is : take r after ≡ take r (drop from before)
  pub back_is : drop r after ≡ drop r before
