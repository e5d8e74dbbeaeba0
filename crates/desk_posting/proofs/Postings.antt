-- A posting as it is held: copied from what is lent (`copied_keeps`), or with one distance corrected (`corrected-keeps`). Where a posting or a
-- correction passes, what is left is the posting, with no table beside it (`posting-steps`, `correction_steps`).
use mathlib.Core.Path.{◌≡◌, refl, sym, ◌∙◌, ap, ap₂, subst}
use mathlib.Core.List.{List, ◌++◌}
use Prim.Native.Nat.{ℕ, ◌+◌, ◌-◌, ◌≤◌}
use native.Mathlib.Omega.{arith}
use lib.IntN.{ℤ}
use lib.ListN.{length, get_or, take, drop, length-append, length-drop}
use lib.Seq.{length-take-le, take_at, get_or-append-add, get_or-drop}
use Rattle.exact.specs.Table.{table}
use Rattle.verdict.specs.Answer.{Answer, pass, fault, refusal_of}
use Rattle.verdict.specs.declared.Place.TheVariants.{Nowhere}
use Rattle.verdict.specs.declared.Refusal.{Refusal}
use Rattle.std.specs.Prelude.{Option, Some, None, Ok, Err}
use Rattle.matrix.specs.Limits.{max_pairs}
use Rattle.matrix.proofs.Places.{pairs-few}
use Rattle.tree_theory.specs.Limits.{max_edges}
use Rattle.tree_theory.specs.Chain.{parent_of}
use Rattle.fit_theory.specs.Stands.{Posted}
use Rattle.fit_theory.specs.Tests.{posted_tests}
use Rattle.correction_theory.specs.Correction as corrections
use Rattle.correction_theory.specs.Kept.{Beside}
use Rattle.desk_theory.specs.Desk as calls
use Rattle.desk.specs.declared.Posting.{Posting}
use Rattle.desk.specs.declared.Desk.{Desk}
use Rattle.desk.specs.declared.Posted as values
use Rattle.desk.specs.Held.{matrix_of, tree_of, posting_of, posted_of, desk_of, anew, PostingHeld, Held, Steps}
use Rattle.desk.proofs.Copies.{copy_size, copy_behind, copy_front}
use Rattle.desk.proofs.Holding.{refused-steps, passed-steps, anew-desk, anew-held}
use Rattle.desk_posting.specs.Postings.{Keeps}

-- ---- what is lent, copied
module _ (N : ℕ) (ds ps : List ℕ) (s : Posted N ds ps) where
  pub few-pairs : length ds ≤ max_pairs
  few-pairs = omega (arith, s.matrix.whole, pairs-few N s.matrix.few)

  pub few-edges : length ps ≤ max_edges
  few-edges = omega (arith, s.tree.few, s.tree.most)

  module _ (distances parents : List ℕ) (sums counts : List ℤ) (e : distances ≡ table max_pairs (λ k. get_or ds k 0)) (f : parents ≡ table max_edges (parent_of ps)) (b : Beside N ds ps sums counts) where
    matrix-front : take (length ds) distances ≡ ds
    matrix-front = copy_front 0 max_pairs ds distances e few-pairs

    tree-front : take (length ps) parents ≡ ps
    tree-front = copy_front 0 max_edges ps parents f few-edges

    pub copied_keeps : Keeps N ds ps (record { n = N; pairs = length ds; edges = length ps; distances = distances; parents = parents; sums = sums; counts = counts })
    copied_keeps = record {
      strains = refl;
      matrix = matrix-front;
      tree = tree-front;
      held = record {
        few-pairs = few-pairs;
        few-edges = few-edges;
        room-pairs = copy_size 0 max_pairs ds distances e few-pairs;
        room-edges = copy_size 0 max_edges ps parents f few-edges;
        behind-pairs = copy_behind 0 max_pairs ds distances e few-pairs;
        behind-edges = copy_behind 0 max_edges ps parents f few-edges;
        beside = subst (λ (l : List ℕ). Beside N l (take (length ps) parents) sums counts) (sym matrix-front) (subst (λ (l : List ℕ). Beside N ds l sums counts) (sym tree-front) b);
      };
    }

-- ---- one distance corrected: the front of the matrix is another, as long, and what is behind it stays
module _ (p : Posting) (h : PostingHeld p) (after : List ℕ) (sums counts : List ℤ) (b : Beside p.n after (tree_of p) sums counts) where
  as_long : length after ≡ p.pairs
  as_long = b.posted.matrix.whole ∙ sym h.beside.posted.matrix.whole ∙ length-take-le p.pairs p.distances (omega (arith, h.few-pairs, h.room-pairs))

  abbrev changed : List ℕ
  changed = after ++ drop p.pairs p.distances

  front : take p.pairs changed ≡ after
  front = take_at after (drop p.pairs p.distances) p.pairs as_long

  pub corrected-keeps : Keeps p.n after (tree_of p) (record { n = p.n; pairs = p.pairs; edges = p.edges; distances = changed; parents = p.parents; sums = sums; counts = counts })
  corrected-keeps = record {
    strains = refl;
    matrix = front;
    tree = refl;
    held = record {
      few-pairs = h.few-pairs;
      few-edges = h.few-edges;
      room-pairs = omega (arith, length-append after (drop p.pairs p.distances), length-drop p.pairs p.distances, as_long, h.few-pairs, h.room-pairs);
      room-edges = h.room-edges;
      behind-pairs = λ k l. let at : length after + (k - p.pairs) ≡ k = omega (arith, as_long) in
          ap (λ (i : ℕ). get_or changed i 0) (sym at) ∙ get_or-append-add after (drop p.pairs p.distances) (k - p.pairs) 0
          ∙ get_or-drop p.pairs p.distances (k - p.pairs) 0 ∙ h.behind-pairs (p.pairs + (k - p.pairs)) (omega arith);
      behind-edges = h.behind-edges;
      beside = subst (λ (l : List ℕ). Beside p.n l (tree_of p) sums counts) (sym front) b;
    };
  }

-- so is what a correction leaves, passed or refused
pub after_kept : (p : Posting) → PostingHeld p → (before after : List ℕ) (sums counts : List ℤ) → after ≡ before → Beside p.n after (tree_of p) sums counts
    → Keeps p.n before (tree_of p) (record { n = p.n; pairs = p.pairs; edges = p.edges; distances = after ++ drop p.pairs p.distances; parents = p.parents; sums = sums; counts = counts })
after_kept p h before after sums counts e b = subst (λ (l : List ℕ). Keeps p.n l (tree_of p) (record { n = p.n; pairs = p.pairs; edges = p.edges; distances = after ++ drop p.pairs p.distances; parents = p.parents; sums = sums; counts = counts })) e (corrected-keeps p h after sums counts b)

-- ---- the calls
posting-is : (N : ℕ) (ds ps : List ℕ) (p : Posting) → Keeps N ds ps p → posting_of p ≡ calls.matrix_tree N ds ps
posting-is N ds ps p k = ap (λ (n : ℕ). calls.matrix_tree n (matrix_of p) (tree_of p)) k.strains ∙ ap₂ (calls.matrix_tree N) k.matrix k.tree

pub posting-refused : (d : Desk) (N : ℕ) (ds ps : List ℕ) (q : Refusal) → Held d → refusal_of q ≡ posted_tests N ds ps → Steps d (calls.post N ds ps) (Err q)
posting-refused d N ds ps q h e = refused-steps d (calls.post N ds ps) q h e

pub posting-steps : (d : Desk) (N : ℕ) (ds ps : List ℕ) → pass ≡ posted_tests N ds ps → (p : Posting) → Keeps N ds ps p → (r : Desk) → r ≡ anew p → Steps d (calls.post N ds ps) (Ok r)
posting-steps d N ds ps fine p k r e = passed-steps d r (calls.post N ds ps) fine (ap desk_of e ∙ anew-desk p ∙ ap calls.anew (posting-is N ds ps p k)) (subst Held (sym e) (anew-held p k.held))

module _ (d : Desk) (c : corrections.Correction) (h : Held d) where
  pub nothing-corrected : (q : Refusal) → refusal_of q ≡ fault 21 Nowhere → d.posted ≡ None → Steps d (calls.correct c) (Err q)
  nothing-corrected q e f = refused-steps d (calls.correct c) q h (e ∙ ap (λ (p : Option values.Posted). calls.if_posted (posted_of p).posting (λ N ds ps. corrections.correction_tests N ds ps c)) (sym f))

  module _ (x : values.Posted) (up : d.posted ≡ Some x) where
    abbrev asked : Answer
    asked = corrections.correction_tests x.posting.n (matrix_of x.posting) (tree_of x.posting) c

    pub posted-asked : asked ≡ calls.answer (desk_of d) (calls.correct c)
    posted-asked = ap (λ (p : Option values.Posted). calls.if_posted (posted_of p).posting (λ N ds ps. corrections.correction_tests N ds ps c)) (sym up)

    pub correction-refused : (q : Refusal) → refusal_of q ≡ asked → Steps d (calls.correct c) (Err q)
    correction-refused q e = refused-steps d (calls.correct c) q h (e ∙ posted-asked)

    pub correction_steps : pass ≡ asked → (p : Posting)
        → Keeps x.posting.n (corrections.correct x.posting.n (tree_of x.posting) c (matrix_of x.posting)) (tree_of x.posting) p → (r : Desk) → r ≡ anew p → Steps d (calls.correct c) (Ok r)
    correction_steps fine p k r e = passed-steps d r (calls.correct c) (fine ∙ posted-asked)
        (ap desk_of e ∙ anew-desk p
        ∙ ap calls.anew (posting-is x.posting.n (corrections.correct x.posting.n (tree_of x.posting) c (matrix_of x.posting)) (tree_of x.posting) p k
        ∙ ap (λ (y : Answer). calls.matrix_tree x.posting.n (corrections.on_pass y (corrections.corrected (matrix_of x.posting) c) (matrix_of x.posting)) (tree_of x.posting)) (sym fine)
        ∙ ap (λ (y : Option values.Posted). calls.on_posting (posted_of y).posting calls.nothing (λ N ds ps. calls.matrix_tree N (corrections.corrected ds c) ps)) (sym up)))
        (subst Held (sym e) (anew-held p k.held))
