-- `between`: the strains of the mask before j, and those behind it.
use Rattle.std.proofs.Common.{arith, pow_pos}
use lib.Bits.{and_le_l}
use Rattle.tree_theory.proofs.Masks.{shl_one}
use Rattle.splits.specs.Sums.{entry_of_two}
use Rattle.splits.proofs.Halves.{code-halves, low_of, high-of, join-fits, join_is}
use Rattle.splits.proofs.Reading.{entry_abs}
use Rattle.splits.proofs.between.Goals as goal

pub overflow_sub-lower : goal.overflow_sub-lower
overflow_sub-lower c = let j = c.args.j in omega (arith, shl_one j c.requires.j_lt_max_strains, pow_pos j)

pub before-requires : goal.before-requires
before-requires c = let h = code-halves c.args.others c.args.j c.requires.j_lt_max_strains in
    record {
      j_lt_max_strains = c.requires.j_lt_max_strains;
      by_index = h.before;
      apart = λ i l. c.requires.apart i (low_of h i l);
      by_index_2 = c.requires.by_index;
    }

pub overflow_sub-others : goal.overflow_sub-others
overflow_sub-others c = and_le_l c.args.others _

pub behind-requires : goal.behind-requires
behind-requires c = let h = code-halves c.args.others c.args.j c.requires.j_lt_max_strains in
    record {
      by_index = h.behind;
      apart = λ i l. c.requires.apart i (high-of h i l);
      by_index_2 = c.requires.by_index;
    }

pub overflow_add-result : goal.overflow_add-result
overflow_add-result c = let ds = c.args.distances.now in
    join-fits (code-halves c.args.others c.args.j c.requires.j_lt_max_strains) (λ i. entry_of_two ds i c.args.j) (λ i. entry_abs ds c.requires.by_index i c.args.j) c.before-2.ensures c.behind.ensures

pub returns : goal.returns
returns c = let ds = c.args.distances.now in
    join_is (code-halves c.args.others c.args.j c.requires.j_lt_max_strains) (λ i. entry_of_two ds i c.args.j) (λ i. entry_abs ds c.requires.by_index i c.args.j) c.before-2.ensures c.behind.ensures
