-- The first line, then a line for each edge.
use native.Mathlib.Omega.{arith}
use Rattle.exact.proofs.Sign.{back-pos}
use Rattle.newick_tree.proofs.Printing.{first-end, lines_then}
use Rattle.newick_tree.proofs.tree_lines.Goals as goal

pub edge_lines-requires : goal.edge_lines-requires
edge_lines-requires c = record {
  k_le_max_edges = omega (arith, c.requires.n_le_max_strains);
  room = omega (arith, first-end c.args.n c.args.k c.line-next.result c.args.text.now c.line-next.new.text (simp (back-pos c.args.n (omega (arith, c.requires.n_le_max_strains)), back-pos c.args.k (omega (arith, c.requires.n_le_max_strains))) at c.line-next.ensures), c.requires.n_le_max_strains, c.requires.room, c.line-next.auto.text);
}

pub returns : goal.returns
returns c = let e = c.edge_lines in
    lines_then c.args.n c.args.k c.args.parents.now c.args.thousandths.now c.args.text.now c.line-next.new.text e.new.text c.line-next.result e.result (omega (arith, c.requires.room)) (simp (back-pos c.args.n (omega (arith, c.requires.n_le_max_strains)), back-pos c.args.k (omega (arith, c.requires.n_le_max_strains))) at c.line-next.ensures) e.ensures
