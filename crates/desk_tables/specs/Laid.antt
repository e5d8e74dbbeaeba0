-- What is laid into the front of a table.
use Rattle.std.specs.Prelude.{◌≡◌, List, ℕ, length, take, drop}

-- a list stands at the front of a table, and behind it what stood there
pub record Front (l before after : List ℕ) : Type 0 where
  pub size : length after ≡ length before
  pub front-is : take (length l) after ≡ l
  pub back_is : drop (length l) after ≡ drop (length l) before
