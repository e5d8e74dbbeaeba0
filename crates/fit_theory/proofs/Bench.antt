-- The definitions give every starred figure: one claim, computed. Every bound holds where it is tight; and what is computed of two tables
-- that agree is what One fit only says of any two.
use mathlib.Core.Path.{◌≡◌, refl, sym, ◌∙◌, ap}
use mathlib.Core.Bool.{true}
use mathlib.Core.List.{List, [], ◌∷◌}
use Prim.Native.Nat.{ℕ}
use native.Mathlib.Omega.{arith}
use borrow.Author.Tests.{le-leb}
use lib.IntN.{ℤ, pos, negsuc}
use lib.ListN.{length}
use Rattle.exact.specs.Sum.{sum, pairs, ind}
use Rattle.exact.specs.Table.{table_from, table}
use Rattle.exact.proofs.Fill.{table_cong}
use Rattle.verdict.specs.declared.Rule.{Rule}
use Rattle.exact.specs.LeastSquares.{path, hops}
use Rattle.exact.specs.Nearest.{nearest}
use Rattle.verdict.specs.Table.{first, some, count}
use Rattle.matrix.specs.Place.{place, known}
use Rattle.tree_theory.specs.Chain.{lift, below, parts}
use Rattle.fit_theory.specs.Figures.{same, same_list, bench_holds, agree_at, Tight}
use Rattle.fit_theory.specs.Stands.{Fitted, OneFit, scaled}

pub bench : bench_holds ≡ true
unfolding sum pairs ind table_from path hops nearest some first count place known lift below parts
bench = refl

pub tight : Tight
unfolding sum pairs ind table_from path hops nearest some first count place known lift below parts
tight = record { accepted = refl; least = refl; strict = refl; millions = refl; rounding = refl; paths = refl; agree = refl; kernel = refl }

same_self : (a : ℤ) → same a a ≡ true
same_self (pos k) = rw (le-leb k k (omega arith))
same_self (negsuc k) = rw (le-leb k k (omega arith))

same_lists : (xs : List ℤ) → same_list xs xs ≡ true
same_lists [] = refl
same_lists (x ∷ xs) = rw (same_self x, same_lists xs)

pub agrees : (rule : Rule) (N : ℕ) (ds ps : List ℕ) (D : ℕ) (ns : List ℤ) (D' : ℕ) (ns' : List ℤ) → OneFit rule N ds ps D ns → Fitted rule N ds ps D' ns' → agree_at (length ps) D ns D' ns' ≡ true
agrees rule N ds ps D ns D' ns' one s =
    ap (λ (l : List ℤ). same_list (table (length ps) (scaled D' ns)) l) (sym (table_cong (pos 0) (length ps) (scaled D' ns) (scaled D ns') (one.agree D' ns' s)))
    ∙ same_lists (table (length ps) (scaled D' ns))
