-- The root is a bracket; behind its text stands the semicolon.
use mathlib.Core.Path.{subst}
use native.Mathlib.Omega.{arith}
use lib.ListN.{length}
use Rattle.newick_text.specs.Tree.{Tree, text_then, size_of}
use Rattle.newick_text.proofs.Trees.{node-is}
use Rattle.newick_put.specs.Put.{word_at, edge_text, Laid}
use Rattle.newick_put.proofs.Laying.{ends}
use Rattle.newick_put.proofs.put_tree.Goals as goal

pub returns : goal.returns
returns c = let a = c.args in
    let p = c.put_vertex-end in
    let q = c.put in
    let root = node-is a.parents.now (word_at a.names.now a.starts.now) (edge_text a.lengths.now) a.n (length a.parents.now) c.requires.n_in_bounds.0 in
    ends _ a.text.now p.new.text q.new.text p.result q.result (omega (arith, p.ensures.end, c.requires.widest_length_in_bounds))
    (subst (λ (t : Tree). Laid (text_then t) (size_of t) a.text.now p.new.text 0 p.result) root p.ensures) q.ensures
