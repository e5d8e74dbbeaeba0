-- Behind a line the next begins further on.
use Prim.Native.Nat.{ℕ, ◌<◌}
use mathlib.Core.List.{List}
use native.Mathlib.Omega.{arith}
use Rattle.desk_feed.specs.Feed.{IsLine}
use Rattle.desk_feed.specs.declared.Found.{Found}

pub line-further : (s : List ℕ) (from : ℕ) (l : Found) → IsLine s from l → from < l.next
line-further s from l h = let n = h.next-is in omega (arith, n)
