-- The table of the names' starts, and the tree written by it.
use native.Mathlib.Omega.{arith}
use Rattle.newick_write.proofs.Ready.{allowed, words, room, text_as}
use Rattle.newick_write.proofs.put_named.Goals as goal

pub put_tree-requires : goal.put_tree-requires
put_tree-requires c = let a = c.args in
    let starts = c.name_starts-starts in
    let tree = allowed a.s.now a.from a.n a.parents.now a.lengths.now a.text.now c.requires in record {
      n_in_bounds = (omega (arith, tree.edges), c.requires.edges, words a.s.now a.from a.n a.parents.now a.lengths.now a.text.now c.requires starts.result starts.ensures);
      widest_length_in_bounds = room a.s.now a.from a.n a.parents.now a.lengths.now a.text.now c.requires starts.result starts.ensures;
    }

pub returns : goal.returns
returns c = let a = c.args in
    let starts = c.name_starts-starts in
    let p = c.put_tree in
    text_as a.s.now a.from a.n a.parents.now a.lengths.now a.text.now c.requires starts.result starts.ensures p.new.text p.result p.ensures
