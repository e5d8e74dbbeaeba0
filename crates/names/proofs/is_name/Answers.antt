-- The length first, then every byte.
use mathlib.Core.Path.{ap, ◌∙◌}
use Prim.Native.Nat.{ℕ}
use native.Mathlib.Omega.{arith}
use native.Mathlib.Nat.{zero-add}
use borrow.Author.Tests.{lt-leb, le-leb}
use lib.Dec.{eqb}
use lib.ListN.{length}
use Rattle.names.specs.Name.{max_name, is_name}
use Rattle.names.proofs.is_name.Goals as goal

pub returns-then-bytes-lt1 : goal.returns-then-bytes-lt1
unfolding is_name
returns-then-bytes-lt1 c = let l = c.args.bytes.now in simp (lt-leb 1 (length l) (omega arith))

pub returns-then-bytes-gt-MAX_NAME : goal.returns-then-bytes-gt-MAX_NAME
unfolding is_name
returns-then-bytes-gt-MAX_NAME c = let l = c.args.bytes.now in simp (le-leb 1 (length l) (omega arith), lt-leb (length l) max_name (omega arith))

pub returns : goal.returns
unfolding is_name
returns c = let l = c.args.bytes.now in
    ap (λ (k : ℕ). eqb k (length l)) (c.name_end.ensures.0 ∙ zero-add _) ∙ simp (le-leb 1 (length l) (omega arith), le-leb (length l) max_name (omega arith))
