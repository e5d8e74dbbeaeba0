-- `split_sums`: the matrix with the tree, the buffer last, then each edge's split sum.
use mathlib.Core.Path.{sym}
use Rattle.fit_theory.specs.Stands.{Posted}
use Rattle.fit_theory.proofs.Exactly.{→posted}
use Rattle.pairs.proofs.Lent.{standing, few-edges}
use Rattle.verdict.proofs.Answers.{handed_on}
use Rattle.tables.specs.Answers.{SplitAnswer}
use Rattle.tables.proofs.Lent.{split-refused, split-buffer, split-filled}
use Rattle.tables.proofs.split_sums.Goals as goal
use Rattle.tables.proofs.split_sums.Goals.{In_ok-check_posting}

-- the matrix and the tree pass
passed : (c : In_ok-check_posting) → let a = c.args in Posted a.n a.distances.now a.parents.now
passed c = let a = c.args in →posted a.n a.distances.now a.parents.now (sym c.in_ok-check_posting.ensures)

pub returns-in_err-check_posting : goal.returns-in_err-check_posting
returns-in_err-check_posting c = let a = c.args in
    handed_on (SplitAnswer a.n a.distances.now a.parents.now a.sums.now a.sums.now) _ _ c.from_residual.ensures (split-refused _ _ _ _ _ c.in_err-check_posting.ensures)

pub returns-then-sums-parents : goal.returns-then-sums-parents
returns-then-sums-parents c = split-buffer _ _ _ _ c.in_ok-check_posting.ensures c.if-sums-parents.true

pub clusters-masks-requires : goal.clusters-masks-requires
clusters-masks-requires c = (passed (goal.at.clusters-masks-requires c).In_ok-check_posting).tree

pub split-worked-requires : goal.split-worked-requires
split-worked-requires c = let a = c.args in
    record {
      posted = passed (goal.at.split-worked-requires c).In_ok-check_posting;
      standing = standing a.n a.parents.now _ c.clusters-masks.ensures (passed (goal.at.split-worked-requires c).In_ok-check_posting).tree;
    }

pub copy_out-requires : goal.copy_out-requires
copy_out-requires c = (few-edges (passed (goal.at.copy_out-requires c).In_ok-check_posting).tree, c.if-sums-parents.false)

pub returns : goal.returns
returns c = split-filled _ _ _ _ c.in_ok-check_posting.ensures c.split-worked.result _ c.if-sums-parents.false c.split-worked.ensures.entries c.copy_out.ensures
