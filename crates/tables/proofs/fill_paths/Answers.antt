-- One pair a turn: its path goes to its place, where no other pair's stands.
use mathlib.Core.Path.{◌≡◌, sym, ◌∙◌, ap, subst}
use mathlib.Core.List.{List}
use Prim.Native.Nat.{ℕ, ◌<◌}
use native.Mathlib.Omega.{arith}
use lib.IntN.{ℤ, nat_abs}
use lib.ListN.{length}
use Rattle.exact.proofs.Sign.{back}
use Rattle.exact.specs.LeastSquares.{path}
use Rattle.exact.specs.Table.{entry_of}
use Rattle.matrix.proofs.Places.{row-place-bound}
use Rattle.tree_theory.specs.Chain.{parent_of, parts_pair}
use Rattle.inner_paths.proofs.Reaching.{near}
use Rattle.tables.proofs.Filling.{Filling, fill_start, fill_turn, fill_column, fill_end}
use Rattle.tables.proofs.fill_paths.Goals as goal
use Rattle.tables.proofs.fill_paths.Goals.{After-path}

-- the pair's place is in the buffer
room : (c : After-path) → c.row_place-at.result < length c.loop-i.paths
room c = omega (arith, c.row_place-at.ensures, c.loop-i.invariant.size, row-place-bound c.args.n c.loop-i.i c.loop-j.j (omega arith) (omega arith))

pub inner_paths-between-requires : goal.inner_paths-between-requires
inner_paths-between-requires c = c.requires.lengthened

pub loop-j-init : goal.loop-j-init
loop-j-init c = fill_start _ (omega (arith, c.requires.lengthened.allowed.three)) c.requires.paths_len

pub row_place-at-requires : goal.row_place-at-requires
row_place-at-requires c = (omega arith, omega arith, c.requires.lengthened.allowed.few)

pub path-requires : goal.path-requires
path-requires c = record {
  lengthened = c.requires.lengthened;
  between = c.inner_paths-between.ensures;
  i_lt_j = (omega arith, omega arith);
}

pub offset_bounds-paths-at : goal.offset_bounds-paths-at
offset_bounds-paths-at c = record { fits = omega (arith, room c) }

pub bounds-paths-at : goal.bounds-paths-at
bounds-paths-at c = room c

pub loop-i-preserved : goal.loop-i-preserved
loop-i-preserved c = let e = c.path.ensures in
    fill_turn _ _ _ _ _ (omega arith) (omega arith) c.row_place-at.ensures
    (back _ (omega (arith, ap nat_abs e, near c.requires.lengthened c.loop-i.i c.loop-j.j)) ∙ e) c.loop-i.invariant

pub loop-j-preserved : goal.loop-j-preserved
loop-j-preserved c = let a = c.args in
    let all : c.loop-i.i ≡ c.loop-j.j = omega arith in
    let f = path (length a.parents.now) (parts_pair (parent_of a.parents.now)) (entry_of a.numerators.now) in
    fill_column c.loop-j.j c.loop-i.paths (omega arith) (subst (λ (i : ℕ). Filling a.n f i c.loop-j.j c.loop-i.paths) all c.loop-i.invariant)

pub returns : goal.returns
returns c = record {
  paths_len_unchanged = c.loop-j.invariant.size ∙ sym c.requires.paths_len;
  by_index = fill_end _ _ _ (omega arith) c.loop-j.invariant;
}
