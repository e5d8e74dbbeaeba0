-- `resolve`: each part is worked by its own function; that the lengths are a fit keeps R within 64 bits.
use mathlib.Core.Path.{refl, ◌∙◌}
use mathlib.Core.List.{List}
use Prim.Native.Nat.{ℕ}
use lib.ListN.{length}
use mir.Facts.{to_z-of_z}
use mir.Syntax.{w64}
use mir.Val.{SFits}
use Rattle.paths.specs.Standing.{Standing}
use Rattle.pairs.proofs.Lent.{standing, few-edges}
use Rattle.direct_fit.proofs.Answering.{res, posted, direct, splits, known, tops_are, bottoms_are, rounded-summable, r-same, r-within, rounded-is}
use Rattle.direct_fit.proofs.resolve.Goals as goal
use Rattle.direct_fit.proofs.resolve.Goals.{After-child_table-children, After-clusters-masks, After-fill-worked, After-split-sums, Start}

-- the clusters that were made
module _ (m : After-clusters-masks) where
  abbrev given : Start
  given = m.before.before.before.before.before

  abbrev N : ℕ
  N = given.args.n

  abbrev ds : List ℕ
  ds = given.args.distances.now

  abbrev ps : List ℕ
  ps = given.args.parents.now

  stands : Standing N (length ps) ps m.clusters-masks.result
  stands = standing N ps m.clusters-masks.result m.clusters-masks.ensures given.requires.shaped.tree

-- what `fill` handed over, and what it was lent
module _ (f : After-fill-worked) where
  abbrev listed : After-child_table-children
  listed = (goal.at.After-fill-worked f).After-child_table-children

  abbrev sums : After-split-sums
  sums = (goal.at.After-child_table-children listed).After-split-sums

  abbrev made : After-clusters-masks
  made = (goal.at.After-split-sums sums).After-clusters-masks

pub split-sums-requires : goal.split-sums-requires
split-sums-requires c = record {
  posted = posted (N (goal.at.split-sums-requires c).After-clusters-masks) (ds (goal.at.split-sums-requires c).After-clusters-masks) (ps (goal.at.split-sums-requires c).After-clusters-masks) c.requires.shaped c.requires.parents_value;
  standing = stands (goal.at.split-sums-requires c).After-clusters-masks;
}

pub child_table-children-requires : goal.child_table-children-requires
child_table-children-requires c = record {
  allowed = c.requires.shaped.tree;
  resolved = res (N (goal.at.child_table-children-requires c).After-clusters-masks) (ds (goal.at.child_table-children-requires c).After-clusters-masks) (ps (goal.at.child_table-children-requires c).After-clusters-masks) c.requires.shaped c.requires.parents_value;
}

pub fill-worked-requires : goal.fill-worked-requires
fill-worked-requires c = record {
  known = known (N (goal.at.fill-worked-requires c).After-clusters-masks) (ds (goal.at.fill-worked-requires c).After-clusters-masks) (ps (goal.at.fill-worked-requires c).After-clusters-masks) c.requires.shaped c.requires.parents_value c.split-sums.result c.split-sums.ensures c.clusters-masks.result c.child_table-children.result (stands (goal.at.fill-worked-requires c).After-clusters-masks) c.child_table-children.ensures;
  split_sums = splits (N (goal.at.fill-worked-requires c).After-clusters-masks) (ds (goal.at.fill-worked-requires c).After-clusters-masks) (ps (goal.at.fill-worked-requires c).After-clusters-masks) c.requires.shaped c.requires.parents_value c.split-sums.result c.split-sums.ensures;
  numerators_len = (c.requires.numerators_len.0, c.requires.numerators_len.1);
}

pub sum_squares-squares-requires : goal.sum_squares-squares-requires
sum_squares-squares-requires c = record {
  summable = rounded-summable (N (goal.at.sum_squares-squares-requires c).After-clusters-masks) (ds (goal.at.sum_squares-squares-requires c).After-clusters-masks) (ps (goal.at.sum_squares-squares-requires c).After-clusters-masks) c.requires.shaped c.requires.parents_value c.split-sums.result c.split-sums.ensures _ _ c.fill-worked.result c.fill-worked.ensures;
  fits63 = r-within (N (goal.at.sum_squares-squares-requires c).After-clusters-masks) (ds (goal.at.sum_squares-squares-requires c).After-clusters-masks) (ps (goal.at.sum_squares-squares-requires c).After-clusters-masks) c.requires.shaped c.requires.parents_value c.split-sums.result c.split-sums.ensures _ _ c.fill-worked.result c.fill-worked.ensures;
}

pub copy_out-requires : goal.copy_out-requires
copy_out-requires c = (few-edges c.requires.shaped.tree, c.requires.numerators_len.2)

pub returns : goal.returns
returns c =
    let r-fits : SFits w64 c.sum_squares-squares.result.r = record { sfits = c.struct_told-1.given.0.1 } in
    let h_fits : SFits w64 c.sum_squares-squares.result.h = record { sfits = c.struct_told-1.given.1.0.1 } in record {
      tops = tops_are (N (goal.at.returns c).After-clusters-masks) (ds (goal.at.returns c).After-clusters-masks) (ps (goal.at.returns c).After-clusters-masks) c.requires.shaped c.requires.parents_value c.split-sums.result c.split-sums.ensures _ _ c.fill-worked.result c.fill-worked.ensures;
      bottoms = bottoms_are (N (goal.at.returns c).After-clusters-masks) (ds (goal.at.returns c).After-clusters-masks) (ps (goal.at.returns c).After-clusters-masks) c.requires.shaped c.requires.parents_value c.split-sums.result c.split-sums.ensures _ _ c.fill-worked.result c.fill-worked.ensures;
      rounded = rounded-is (N (goal.at.returns c).After-clusters-masks) (ds (goal.at.returns c).After-clusters-masks) (ps (goal.at.returns c).After-clusters-masks) c.requires.shaped c.requires.parents_value c.split-sums.result c.split-sums.ensures _ _ c.fill-worked.result c.fill-worked.ensures _ c.copy_out.ensures;
      r = to_z-of_z r-fits ∙ c.sum_squares-squares.ensures.r_value ∙ r-same (N (goal.at.returns c).After-clusters-masks) (ds (goal.at.returns c).After-clusters-masks) (ps (goal.at.returns c).After-clusters-masks) c.requires.shaped c.requires.parents_value c.split-sums.result c.split-sums.ensures _ _ c.fill-worked.result c.fill-worked.ensures;
      h = to_z-of_z h_fits ∙ c.sum_squares-squares.ensures.h_value;
      direct = direct (N (goal.at.returns c).After-clusters-masks) (ds (goal.at.returns c).After-clusters-masks) (ps (goal.at.returns c).After-clusters-masks) c.requires.shaped c.requires.parents_value;
    }
