-- `first_children_out`: while the loop runs, no vertex met so far is out; strains are not asked, and the root is tested last.
use borrow.Author.Rules.{rules}
use mathlib.Core.Path.{◌≡◌, sym, ◌∙◌, ap₂}
use mathlib.Core.Bool.{Bool, ◌||◌}
use Prim.Native.Nat.{ℕ, ◌+◌}
use native.Mathlib.Omega.{arith}
use borrow.Author.Count.{below_more}
use lib.Dec.{ltb}
use lib.ListN.{length}
use Rattle.verdict.proofs.Table.{first-is, past_first}
use Rattle.tree_theory.specs.Chain.{parent_of}
use Rattle.tree_theory.specs.Allowed.{children}
use Rattle.tree_theory.specs.Tests.{children_out}
use Rattle.tree_theory.proofs.Faults.{strain-passes, inner-asked, root-asked}
use Rattle.tree.proofs.first_children_out.Goals as goal
use Rattle.tree.proofs.first_children_out.Goals.{After-count_out, After-count_out-2}

-- a count read from the table is the vertex's
read : (b : Bool) (count K : ℕ) (par : ℕ → ℕ) (w least spare : ℕ) → b ≡ (ltb count least || ltb (least + spare) count) → count ≡ children K par w
    → b ≡ (ltb (children K par w) least || ltb (least + spare) (children K par w))
read b count K par w least spare e f = e ∙ ap₂ (λ (x y : ℕ). ltb x least || ltb (least + spare) y) f f

-- what the test of an inner vertex says
asked : (c : After-count_out) → let a = c.args in
    c.count_out.result ≡ children_out a.spare a.n (length a.parents.now) (parent_of a.parents.now) c.loop-w.w
asked c =
    let a = c.args in
    read c.count_out.result _ (length a.parents.now) (parent_of a.parents.now) c.loop-w.w 2 a.spare c.count_out.ensures (c.child_counts-counts.ensures c.loop-w.w)
    ∙ sym (inner-asked a.spare a.n (length a.parents.now) (parent_of a.parents.now) c.loop-w.w c.loop-w.invariant.0 (omega arith))

-- what the test of the root says
asked-root : (c : After-count_out-2) → let a = c.args in
    c.count_out-2.result ≡ children_out a.spare a.n (length a.parents.now) (parent_of a.parents.now) (length a.parents.now)
asked-root c = let K = length c.args.parents.now in
    let par = parent_of c.args.parents.now in
    read c.count_out-2.result _ K par K 3 c.args.spare c.count_out-2.ensures (c.child_counts-counts.ensures K) ∙ sym (root-asked c.args.spare c.args.n K par c.requires.n_in_bounds.0)

pub child_counts-counts-requires : goal.child_counts-counts-requires
child_counts-counts-requires c = record {
  parents_len_bound = c.requires.n_in_bounds.1;
  by_index = c.requires.by_index;
}

pub loop-w-init : goal.loop-w-init
loop-w-init c = (search rules, search rules, λ k l. strain-passes _ _ _ _ k l)

pub returns-then-count_out : goal.returns-then-count_out
returns-then-count_out c = sym (first-is _ _ c.loop-w.w (omega arith) (sym (asked (goal.at.returns-then-count_out c).After-count_out) ∙ c.if-count_out.true) c.loop-w.invariant.2)

pub loop-w-preserved : goal.loop-w-preserved
loop-w-preserved c = (search rules, search rules, below_more _ _ c.loop-w.invariant.2 (sym (asked (goal.at.loop-w-preserved c).After-count_out) ∙ c.if-count_out.false))

pub returns-then-count_out-2 : goal.returns-then-count_out-2
returns-then-count_out-2 c = sym (first-is _ _ _ (omega arith) (sym (asked-root (goal.at.returns-then-count_out-2 c).After-count_out-2) ∙ c.if-count_out-2.true) (λ i h. c.loop-w.invariant.2 i (omega arith)))

pub returns : goal.returns
returns c = sym (past_first _ _ (below_more _ _ (λ i h. c.loop-w.invariant.2 i (omega arith)) (sym (asked-root (goal.at.returns c).After-count_out-2) ∙ c.if-count_out-2.false)))
