-- `path_lengths`: the tests one by one, the buffer last, then each pair's path.
use mathlib.Core.Path.{sym, ◌∙◌}
use native.Mathlib.Nat.{le_refl}
use lib.ListN.{length}
use Rattle.verdict.proofs.Answers.{handed_on}
use Rattle.tree_theory.proofs.Checked.{allowed→}
use Rattle.lengths.proofs.Checked.{→proper}
use Rattle.pairs.proofs.Lent.{small}
use Rattle.tables.specs.Answers.{PathsAnswer}
use Rattle.tables.proofs.Lent.{paths-tree, paths-lengths, paths-buffer, paths-filled}
use Rattle.tables.proofs.path_lengths.Goals as goal

pub returns-in_err-check_tree : goal.returns-in_err-check_tree
returns-in_err-check_tree c = let a = c.args in
    handed_on (PathsAnswer a.n a.parents.now a.d a.numerators.now a.paths.now a.paths.now) _ _ c.from_residual.ensures (paths-tree _ _ _ _ _ _ c.in_err-check_tree.ensures)

pub returns-in_err-check_lengths : goal.returns-in_err-check_lengths
returns-in_err-check_lengths c = let a = c.args in
    handed_on (PathsAnswer a.n a.parents.now a.d a.numerators.now a.paths.now a.paths.now) _ _ c.from_residual-in_err-check_lengths.ensures
    (paths-lengths _ _ _ _ _ _ c.in_ok-check_tree.ensures c.in_err-check_lengths.ensures)

pub returns-then-paths-pair_count : goal.returns-then-paths-pair_count
returns-then-paths-pair_count c = paths-buffer _ _ _ _ _ c.in_ok-check_tree.ensures c.in_ok-check_lengths.ensures (λ e. c.if-paths-pair_count.true (e ∙ sym c.pair_count.ensures))

pub fill_paths-requires : goal.fill_paths-requires
fill_paths-requires c = let a = c.args in record {
  lengthened = record { room = le_refl (length a.parents.now); allowed = allowed→ a.n a.parents.now (sym c.in_ok-check_tree.ensures); small = small (→proper (length a.parents.now) a.d a.numerators.now (sym c.in_ok-check_lengths.ensures)) };
  paths_len = c.if-paths-pair_count.false ∙ c.pair_count.ensures;
}

pub returns : goal.returns
returns c = paths-filled _ _ _ _ _ c.in_ok-check_tree.ensures c.in_ok-check_lengths.ensures _ (c.if-paths-pair_count.false ∙ c.pair_count.ensures) c.fill_paths.ensures.paths_len_unchanged c.fill_paths.ensures.by_index
