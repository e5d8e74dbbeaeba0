-- `check_tree`: at each `return` the tests before it did not apply, and `Numbers` says which answer that is.
use borrow.Author.Rules.{rules}
use mathlib.Core.Path.{◌≡◌, sym, ◌∙◌, subst}
use mathlib.Core.List.{List}
use Prim.Native.Nat.{ℕ, ◌+◌, ◌≤◌, ◌<◌}
use native.Mathlib.Omega.{arith}
use borrow.Author.Tests.{lt-ltb, le-ltb}
use lib.ListN.{length}
use Rattle.verdict.specs.declared.Place.TheVariants.{Vertex}
use Rattle.verdict.specs.Answer.{fault, pass}
use Rattle.verdict.specs.Table.{first}
use Rattle.verdict.proofs.Table.{first_past, first_cong}
use Rattle.tree_theory.specs.Chain.{parent_of}
use Rattle.tree_theory.specs.Limits.{max_edges}
use Rattle.tree_theory.specs.Tests.{tree_tests, parent_out, parent_fault, children_few, children_out}
use Rattle.tree_theory.proofs.Faults.{parent_ok, few-is}
use Rattle.tree_theory.proofs.Numbers.{Sized, too_few, too_many, short, long, bad_vertex, short_vertex, parent_refused, children-refused, accepted}
use Rattle.tree.proofs.check_tree.Goals as goal

-- with every edge to spare, only too few children are out
few-test : (N K : ℕ) (par : ℕ → ℕ) → K ≤ max_edges → first (K + 1) (children_out max_edges N K par) ≡ first (K + 1) (children_few N K par)
few-test N K par h = first_cong (K + 1) _ _ (λ w _. few-is max_edges N K par w h)

-- the answers at a vertex that the code found to be the lowest
module _ (N : ℕ) (ps : List ℕ) (s : Sized N (length ps)) where
  module _ (v : ℕ) (e : v ≡ bad_vertex N ps) (l : v < length ps) where
    found : tree_tests N ps ≡ parent_fault (length ps) (parent_of ps) v
    found = subst (λ w. tree_tests N ps ≡ parent_fault (length ps) (parent_of ps) w) (sym e) (parent_refused N ps s (omega (arith, e, l)))

    past : length ps < parent_of ps v → fault 16 (Vertex v) ≡ tree_tests N ps
    past h = rw (lt-ltb (length ps) (parent_of ps v) h) at (sym found)

    within : parent_of ps v ≤ length ps → fault 9 (Vertex v) ≡ tree_tests N ps
    within h = rw (le-ltb (length ps) (parent_of ps v) h) at (sym found)

  module _ (p : length ps ≤ bad_vertex N ps) (w : ℕ) (e : w ≡ first (length ps + 1) (children_out max_edges N (length ps) (parent_of ps))) (h : length ps ≤ max_edges) where
    lowest : w ≡ short_vertex N ps
    lowest = e ∙ few-test N (length ps) (parent_of ps) h

    short-of : w ≤ length ps → fault 10 (Vertex w) ≡ tree_tests N ps
    short-of l = sym (subst (λ x. tree_tests N ps ≡ fault 10 (Vertex x)) (sym lowest) (children-refused N ps s p (omega (arith, lowest, l))))

    none-short : length ps < w → pass ≡ tree_tests N ps
    none-short l = sym (accepted N ps s p (omega (arith, lowest, l)))

pub returns-then-strains-lt-MIN_STRAINS : goal.returns-then-strains-lt-MIN_STRAINS
returns-then-strains-lt-MIN_STRAINS c = let n = c.args.n in
    let ps = c.args.parents.now in
    sym (too_few n ps (omega arith))

pub returns-then-strains-gt-MAX_STRAINS : goal.returns-then-strains-gt-MAX_STRAINS
returns-then-strains-gt-MAX_STRAINS c = let n = c.args.n in
    let ps = c.args.parents.now in
    sym (too_many n ps (omega arith))

pub returns-then-edges-strains : goal.returns-then-edges-strains
returns-then-edges-strains c = let n = c.args.n in
    let ps = c.args.parents.now in
    sym (short n ps (omega arith) (omega arith) (omega arith))

pub returns-then-edges-strains-2 : goal.returns-then-edges-strains-2
returns-then-edges-strains-2 c = let n = c.args.n in
    let ps = c.args.parents.now in
    sym (long n ps (omega arith) (omega arith) (omega arith))

pub overflow_cast-parents : goal.overflow_cast-parents
overflow_cast-parents c = omega (arith, c.shared_slice_known-then-v-edges-1.given c.first_parent_out-v.result)

pub returns-then-parents-v : goal.returns-then-parents-v
returns-then-parents-v c = let n = c.args.n in
    let ps = c.args.parents.now in
    past n ps (record { three = omega arith; few = omega arith; edges = omega arith; most = omega arith }) c.first_parent_out-v.result c.first_parent_out-v.ensures c.if-v-edges.true c.if-parents-v.true

pub returns-then-v-edges : goal.returns-then-v-edges
returns-then-v-edges c = let n = c.args.n in
    let ps = c.args.parents.now in
    within n ps (record { three = omega arith; few = omega arith; edges = omega arith; most = omega arith }) c.first_parent_out-v.result c.first_parent_out-v.ensures c.if-v-edges.true c.if-parents-v.false

pub first_children_out-w-requires : goal.first_children_out-w-requires
first_children_out-w-requires c = let n = c.args.n in
    let ps = c.args.parents.now in
    let K = length ps in record {
      n_in_bounds = (search rules, omega arith);
      by_index = λ v h. (parent_ok n K (parent_of ps) v (first_past K (parent_out n K (parent_of ps)) (omega (arith, c.first_parent_out-v.ensures, c.if-v-edges.false)) v h)).2;
    }

pub returns-then-w-edges : goal.returns-then-w-edges
returns-then-w-edges c = let n = c.args.n in
    let ps = c.args.parents.now in
    short-of n ps (record { three = omega arith; few = omega arith; edges = omega arith; most = omega arith }) (omega (arith, c.first_parent_out-v.ensures, c.if-v-edges.false)) c.first_children_out-w.result
    c.first_children_out-w.ensures (omega arith) c.if-w-edges.true

pub returns : goal.returns
returns c = let n = c.args.n in
    let ps = c.args.parents.now in
    none-short n ps (record { three = omega arith; few = omega arith; edges = omega arith; most = omega arith }) (omega (arith, c.first_parent_out-v.ensures, c.if-v-edges.false)) c.first_children_out-w.result
    c.first_children_out-w.ensures (omega arith) c.if-w-edges.false
