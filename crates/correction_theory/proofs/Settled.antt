-- One matrix and one tree have one table of sums and one of counts beside them.
use mathlib.Core.Path.{◌≡◌}
use mathlib.Core.List.{List}
use Prim.Native.Nat.{ℕ}
use lib.IntN.{ℤ}
use Rattle.tree_theory.proofs.EdgeTables.{one_table}
use Rattle.correction_theory.specs.Kept.{Beside}

pub one-beside : {N : ℕ} {ds ps : List ℕ} {ss ss' cs cs' : List ℤ} → Beside N ds ps ss cs → Beside N ds ps ss' cs' → (ss ≡ ss') × (cs ≡ cs')
one-beside a b = (one_table a.split b.split, one_table a.counted b.counted)
