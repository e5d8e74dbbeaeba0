-- One strain a turn; what is behind them stays 0.
use mathlib.Core.Path.{refl, ap, ◌∙◌}
use Prim.Native.Nat.{◌-◌}
use native.Mathlib.Omega.{arith}
use lib.IntN.{pos}
use lib.ListN.{length, length-set}
use Rattle.exact.proofs.Fill.{fill_none, fill_more, length-table, get_or_table_const}
use Rattle.exact.specs.Table.{entry_of}
use Rattle.tree_theory.specs.Limits.{max_vertices}
use Rattle.path_sums.proofs.strains_alone.Goals as goal

pub loop-i-init : goal.loop-i-init
loop-i-init c = let e = c.requires.sizes_value in (omega arith, ap length e ∙ length-table max_vertices (λ _. pos 0), fill_none (pos 0) _ _ _ (λ k. ap (λ l. entry_of l k) e ∙ get_or_table_const max_vertices (pos 0) k))

pub loop-i-preserved : goal.loop-i-preserved
loop-i-preserved c = let l = c.loop-i in (omega arith, length-set l.sizes l.i (pos 1) ∙ l.invariant.1, fill_more (pos 0) _ _ l.i l.sizes (pos 1) (omega (arith, l.invariant.1, c.loop-i-test.true, c.requires.n_le_max_strains)) refl l.invariant.2)

pub returns : goal.returns
returns c = let l = c.loop-i.invariant in record {
  room = l.1;
  strain = λ w h. l.2.below w (omega (arith, c.loop-i-test.false));
  other = λ w h. l.2.above w (omega (arith, l.0));
}
