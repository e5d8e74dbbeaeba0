-- The loop writes the children of v one by one; `due`, `room`, `all` and `last-room` say what is left to write and that it has room.
use mathlib.Core.Path.{◌≡◌, sym, ◌∙◌, ap, subst}
use mathlib.Core.List.{List}
use Prim.Native.Nat.{ℕ, ◌+◌, ◌<◌, ◌≤◌}
use native.Mathlib.Omega.{arith}
use lib.IntN.{ℤ}
use lib.ListN.{length, get_or, length-set}
use mir.Facts.{to_z-of_z}
use mir.Syntax.{w64}
use mir.Val.{SFits}
use borrow.Author.Rules.{rules}
use Rattle.exact.specs.Table.{entry_of}
use Rattle.newick_text.specs.Tree.{Tree, Row, node, none, some, size_of}
use Rattle.newick_text.proofs.Trees.{leaf-is, node-is, children_are, row-none, row-child, row_skip}
use Rattle.newick_put.specs.Put.{word_at, edge_text, tree_at, widest_length}
use Rattle.newick_put.proofs.Putting.{word-length}
use Rattle.newick_put.proofs.Laying.{Doing, laid_leaf, leaf-size, starts-row, child, closes, some-room, none-room}
use Rattle.newick_put.proofs.+put_vertex.Invariants.{rest}
use Rattle.newick_put.proofs.+put_vertex.Goals as goal
use Rattle.newick_put.proofs.+put_vertex.Goals.{then-parents-child, else-parents-child}

module _ (parents : List ℕ) (lengths : List ℤ) (names starts : List ℕ) (n v : ℕ) where
  abbrev tree : ℕ → Tree
  tree = tree_at parents lengths names starts n

  abbrev long : ℕ → List ℕ
  long = edge_text lengths

  abbrev left : ℕ → Row
  left = rest parents lengths names starts n v

  -- a strain: its name has room
  word_room : (text : List ℕ) (at : ℕ) → at + size_of (tree v) + widest_length ≤ length text → v < n → at + length (word_at names starts v) + widest_length ≤ length text
  word_room text at h strain = omega (arith, h, leaf-size (word_at names starts v), ap size_of (leaf-is parents (word_at names starts) long n v strain))

  module _ (lead : ℕ) (before text : List ℕ) (at end w : ℕ) (d : Doing (tree v) (left w) lead before text at end) (enough : at + size_of (tree v) + widest_length ≤ length before) where
    -- at a child w: it is the next to write, and it has room
    module _ (h : w < v) (is : get_or parents w 0 ≡ v) where
      due : Doing (tree v) (some (tree w) (long w) (left (w + 1))) lead before text at end
      due = subst (λ (r : Row). Doing (tree v) r lead before text at end) (row-child parents long v tree w h is) d

      room : end + 1 + size_of (tree w) + 1 + length (long w) + widest_length < length text
      room = some-room _ _ _ _ _ widest_length _ _ _ _ due enough

    -- the bracket closes
    module _ (h : v ≤ w) where
      all : Doing (tree v) none lead before text at end
      all = rw (← (row-none parents long v tree w h)) d

      last-room : end + widest_length < length text
      last-room = none-room _ _ widest_length _ _ _ _ all enough

pub put_name-requires-clause-start_in_bounds_2 : goal.put_name-requires-clause-start_in_bounds_2
put_name-requires-clause-start_in_bounds_2 t c =
    let a = c.args in
    let r = word_room a.parents.now a.lengths.now a.names.now a.starts.now a.n a.v a.text.now a.at c.requires.widest_length_in_bounds c.if-v-n.true in
    omega (arith, r, word-length a.names.now a.starts.now a.n a.v c.requires.v_in_bounds.2 c.if-v-n.true)

pub returns-then-v-n : goal.returns-then-v-n
returns-then-v-n t c =
    let a = c.args in
    let p = c.put_name in
    let r = word_room a.parents.now a.lengths.now a.names.now a.starts.now a.n a.v a.text.now a.at c.requires.widest_length_in_bounds c.if-v-n.true in
    rw (leaf-is a.parents.now (word_at a.names.now a.starts.now) (edge_text a.lengths.now) a.n a.v c.if-v-n.true)
    (laid_leaf (word_at a.names.now a.starts.now a.v) a.text.now p.new.text a.at p.result (omega (arith, r)) p.ensures)

pub loop-child-init : goal.loop-child-init
loop-child-init t c =
    let a = c.args in
    let r = rest a.parents.now a.lengths.now a.names.now a.starts.now a.n a.v 0 in (
      omega arith,
      subst (λ (x : Tree). Doing x r 40 a.text.now a.text.now a.at a.at)
          (sym (node-is a.parents.now (word_at a.names.now a.starts.now) (edge_text a.lengths.now) a.n a.v c.if-v-n.false ∙ ap node (children_are a.parents.now (word_at a.names.now a.starts.now) (edge_text a.lengths.now) a.n a.v))) (starts-row r a.text.now a.at),
    )

pub put_vertex-below-requires : goal.put_vertex-below-requires
put_vertex-below-requires t c =
    let a = c.args in
    let l = c.loop-child in
    let r = room a.parents.now a.lengths.now a.names.now a.starts.now a.n a.v l.lead a.text.now l.text a.at l.end l.child l.invariant.1 c.requires.widest_length_in_bounds c.loop-child-test.true c.if-parents-child.true in
    (omega (arith, c.decreases, c.loop-child-test.true), ((omega (arith, c.requires.v_in_bounds.0, c.loop-child-test.true), c.requires.v_in_bounds.1, c.requires.v_in_bounds.2), simp length-set (omega (arith, r))))

pub put_edge-end-requires : goal.put_edge-end-requires
put_edge-end-requires t c =
    let a = c.args in
    let l = c.loop-child in
    let r = room a.parents.now a.lengths.now a.names.now a.starts.now a.n a.v l.lead a.text.now l.text a.at l.end l.child l.invariant.1 c.requires.widest_length_in_bounds c.loop-child-test.true c.if-parents-child.true in
    let p = c.put_vertex-below in
    omega (arith, r, p.ensures.end, p.ensures.same, length-set l.text l.end l.lead)

pub loop-child-preserved : goal.loop-child-preserved
loop-child-preserved t c =
    let a = c.args in
    let l = c.loop-child in (
      omega arith,
      elim c.if-parents-child.branch [
        | then-parents-child w ↦
            let r = room a.parents.now a.lengths.now a.names.now a.starts.now a.n a.v l.lead a.text.now l.text a.at l.end l.child l.invariant.1 c.requires.widest_length_in_bounds c.loop-child-test.true w.if-parents-child.true in
            let p = w.put_vertex-below in
            let fits : SFits w64 (entry_of a.lengths.now l.child) = search rules in
            let back = to_z-of_z {w = w64} {z = entry_of a.lengths.now l.child} fits in
            rw (w.text-is, w.lead-is, w.end-is)
            (child _ _ _ _ _ _ _ _ _ _ _ _ _ (omega (arith, r)) (due a.parents.now a.lengths.now a.names.now a.starts.now a.n a.v l.lead a.text.now l.text a.at l.end l.child l.invariant.1 c.requires.widest_length_in_bounds c.loop-child-test.true w.if-parents-child.true) p.ensures (omega (arith, r, p.ensures.end, p.ensures.same, length-set l.text l.end l.lead)) (simp back at w.put_edge-end.ensures))
        | else-parents-child w ↦
            rw (w.text-is, w.lead-is, w.end-is)
            (rw (← (row_skip a.parents.now (edge_text a.lengths.now) a.v (tree_at a.parents.now a.lengths.now a.names.now a.starts.now a.n) l.child c.loop-child-test.true w.if-parents-child.false)) l.invariant.1)
      ],
    )

pub returns : goal.returns
returns t c =
    let a = c.args in
    let l = c.loop-child in
    let d = all a.parents.now a.lengths.now a.names.now a.starts.now a.n a.v l.lead a.text.now l.text a.at l.end l.child l.invariant.1 c.requires.widest_length_in_bounds c.loop-child-test.false in
    let r = last-room a.parents.now a.lengths.now a.names.now a.starts.now a.n a.v l.lead a.text.now l.text a.at l.end l.child l.invariant.1 c.requires.widest_length_in_bounds c.loop-child-test.false in
    closes _ _ _ _ _ _ (omega (arith, r)) d
