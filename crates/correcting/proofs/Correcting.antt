-- What a correction does to the matrix and to the two tables, over plain lists: where its pair stands, that the tables may be moved, and what
-- they hold afterwards (`counts-after`, `sums-after`). `emptied-at`, `emptied-none`: 26 by the counts as they would be. `refused`, `passed`: the
-- two ways in which a correction ends.
use mathlib.Core.Path.{◌≡◌, sym, ◌∙◌, ap, subst}
use mathlib.Core.Bool.{Bool}
use mathlib.Core.List.{List}
use Prim.Native.Nat.{ℕ, ◌≤◌, ◌<◌}
use native.Mathlib.Decide.{dec_lt}
use native.Mathlib.Omega.{arith}
use borrow.Author.Tests.{le-ltb}
use lib.Dec.{eqb}
use lib.IntN.{ℤ, pos, nat_abs, ◌+ℤ◌, ◌-ℤ◌, ◌*ℤ◌}
use lib.ListN.{length, get_or}
use Rattle.exact.specs.Sum.{ind}
use Rattle.exact.specs.Table.{entry_of}
use Rattle.exact.proofs.Decide.{by_cases}
use Rattle.exact.proofs.Sign.{nat_abs_sub}
use Rattle.exact.proofs.Sweep.{ind_abs, ind-one, pairs_abs}
use Rattle.verdict.specs.Answer.{Answer, pass, fault, refusal_of}
use Rattle.verdict.specs.Table.{first}
use Rattle.verdict.specs.declared.Place.TheVariants.{Edge}
use Rattle.verdict.specs.declared.Refusal.{Refusal}
use Rattle.std.specs.Prelude.{Ok, Err}
use Rattle.verdict.proofs.Answers.{at_first_lem}
use Rattle.verdict.proofs.Table.{first_cong}
use Rattle.matrix.specs.Limits.{max_distance}
use Rattle.matrix.specs.Place.{pair_place, known, distance}
use Rattle.matrix.proofs.Completes.{known-near}
use Rattle.matrix.proofs.Places.{pairs-few, place-bound, pair-place-up, pair-place-down}
use Rattle.tree_theory.specs.Limits.{max_edges}
use Rattle.tree_theory.specs.EdgeTable.{EdgeTable}
use Rattle.fit_theory.specs.Quantities.{parts_of, parts_in, split_sum}
use Rattle.fit_theory.specs.Stands.{Posted}
use Rattle.fit_theory.specs.Tests.{unseen, seen_tests}
use Rattle.fit_theory.proofs.Ranges.{distance-near}
use Rattle.moving.specs.Moved.{Moved, Movable, farthest}
use Rattle.correction_theory.specs.Correction.{Correction, corrected, correction_tests, on_pass}
use Rattle.correction_theory.specs.Kept.{Beside, split_count, moved, sum_change, count_change}
use Rattle.correction_theory.proofs.Asked.{Apart, corrected-posted}
use Rattle.correction_theory.proofs.Moves.{sum_moves, count_moves}
use Rattle.correction_theory.proofs.Counted.{unseen-counts}
use Rattle.correcting.specs.Answers.{CorrectAnswer}

-- ---- a matrix and a tree that pass
module _ {N : ℕ} {ds ps : List ℕ} (s : Posted N ds ps) where
  -- a table whose entries are in range may be moved
  movable : (z : ℤ) (x : List ℤ) → nat_abs z ≤ farthest → length x ≡ max_edges → ((v : ℕ) → v < length ps → nat_abs (entry_of x v) ≤ farthest) → Movable (length ps) ps z x
  movable z x h e f = record { few = omega (arith, s.tree.few, s.tree.most); room = omega arith; up = s.tree.up; top = s.tree.top; size = e; near = f; by = h }

  pub movable-counts : (z : ℤ) (a b : Bool) (x : List ℤ) → z ≡ ind a -ℤ ind b → EdgeTable (length ps) (split_count N ds ps) x → Movable (length ps) ps z x
  movable-counts z a b x e t = movable z x (omega (arith, ap nat_abs e, nat_abs_sub (ind a) (ind b), ind-one a, ind-one b)) t.size
      (λ v l. omega (arith, ap nat_abs (t.entries v l), pairs_abs N 1 (λ p. ind (parts_in ds ps v p)) s.matrix.few (λ p. ind-one (parts_in ds ps v p))))

  pub movable-sums : (z : ℤ) (a b : ℕ) (x : List ℤ) → z ≡ pos a -ℤ pos b → a ≤ max_distance → b ≤ max_distance → EdgeTable (length ps) (split_sum N ds ps) x → Movable (length ps) ps z x
  movable-sums z a b x e h k t = movable z x (omega (arith, ap nat_abs e, nat_abs_sub (pos a) (pos b))) t.size
      (λ v l. omega (
        arith,
        ap nat_abs (t.entries v l),
        pairs_abs N 50000 (λ p. ind (parts_in ds ps v p) *ℤ distance ds p) s.matrix.few
            (λ p. omega (arith, ind_abs (parts_in ds ps v p) (distance ds p), distance-near s.matrix p)),
      ))

  pub old_near : (k : ℕ) → known (get_or ds k 0) ≤ max_distance
  old_near k = known-near s.matrix k

  -- ---- two strains of it
  module _ {c : Correction} (a : Apart N c) where
    pub slot : pair_place c.i c.j < length ds
    slot = by_cases (dec_lt c.i c.j)
        (λ l. omega (arith, pair-place-up c.i c.j l, place-bound N c.i c.j l a.j-strain, s.matrix.whole))
        (λ l. omega (arith, pair-place-down c.i c.j (omega arith), place-bound N c.j c.i (less l) a.i-strain, s.matrix.whole))
      where
        less : (c.i < c.j → ⊥) → c.j < c.i
        less l = let n = a.apart in omega arith

    pub slot-fits : pair_place c.i c.j < 2016
    slot-fits = omega (arith, slot, s.matrix.whole, pairs-few N s.matrix.few)

    pub ends : (c.i ≤ length ps) × (c.j ≤ length ps)
    ends = (omega (arith, a.i-strain, s.tree.edges), omega (arith, a.j-strain, s.tree.edges))

    after : (f g : ℕ → ℤ) (z : ℤ) (x y : List ℤ) → ((v : ℕ) → g v ≡ moved ps c z f v) → EdgeTable (length ps) f x → Moved (length ps) ps c.i c.j z x y → EdgeTable (length ps) g y
    after f g z x y h t m = record {
      size = m.size ∙ t.size;
      entries = λ v l. m.entries v l ∙ ap (λ (w : ℤ). w +ℤ ind (parts_of ps v (c.i, c.j)) *ℤ z) (t.entries v l) ∙ sym (h v);
      rest = λ v l. m.rest v l ∙ t.rest v l;
    }

    pub counts-after : (z : ℤ) (x y : List ℤ) → z ≡ count_change ds c → EdgeTable (length ps) (split_count N ds ps) x → Moved (length ps) ps c.i c.j z x y → EdgeTable (length ps) (split_count N (corrected ds c) ps) y
    counts-after z x y e = after (split_count N ds ps) (split_count N (corrected ds c) ps) z x y
        (λ v. count_moves N ds ps s.matrix.whole c a v ∙ ap (λ (w : ℤ). moved ps c w (split_count N ds ps) v) (sym e))

    pub sums-after : (z : ℤ) (x y : List ℤ) → z ≡ sum_change ds c → EdgeTable (length ps) (split_sum N ds ps) x → Moved (length ps) ps c.i c.j z x y → EdgeTable (length ps) (split_sum N (corrected ds c) ps) y
    sums-after z x y e = after (split_sum N ds ps) (split_sum N (corrected ds c) ps) z x y
        (λ v. sum_moves N ds ps s.matrix.whole c a v ∙ ap (λ (w : ℤ). moved ps c w (split_sum N ds ps) v) (sym e))

-- ---- 26, by the counts as they would be
module _ (N : ℕ) (ds ps : List ℕ) (x : List ℤ) (t : EdgeTable (length ps) (split_count N ds ps) x) (edge : ℕ) (e : edge ≡ first (length ps) (λ v. eqb (nat_abs (entry_of x v)) 0)) where
  first-is : edge ≡ first (length ps) (unseen N ds ps)
  first-is = e ∙ first_cong (length ps) (λ v. eqb (nat_abs (entry_of x v)) 0) (unseen N ds ps)
      (λ v l. ap (λ (z : ℤ). eqb (nat_abs z) 0) (t.entries v l) ∙ sym (unseen-counts N ds ps v))

  pub emptied-at : edge < length ps → fault 26 (Edge edge) ≡ seen_tests N ds ps
  emptied-at l = sym (at_first_lem (length ps) (unseen N ds ps) (λ u. fault 26 (Edge u)) edge l (sym first-is))

  pub emptied-none : length ps ≤ edge → pass ≡ seen_tests N ds ps
  emptied-none l = rw (sym first-is, le-ltb edge (length ps) l)

-- ---- the whole
module _ (N : ℕ) (ds ps : List ℕ) (c : Correction) where
  pub refused : {ss cs : List ℤ} (k : Refusal) → refusal_of k ≡ correction_tests N ds ps c → Beside N ds ps ss cs → CorrectAnswer N ps c ds ds ss cs (Err k)
  refused k q b = record { answer = q; matrix = ap (λ (z : Answer). on_pass z (corrected ds c) ds) q; beside = b }

  pub passed : pass ≡ correction_tests N ds ps c → (new : List ℕ) {ss cs : List ℤ} → Posted N ds ps → new ≡ corrected ds c
      → EdgeTable (length ps) (split_sum N (corrected ds c) ps) ss → EdgeTable (length ps) (split_count N (corrected ds c) ps) cs → CorrectAnswer N ps c ds new ss cs (Ok tt)
  passed q new {ss} {cs} s g t u = subst (λ (m : List ℕ). CorrectAnswer N ps c ds m ss cs (Ok tt)) (sym g)
      (record { answer = q; matrix = ap (λ (z : Answer). on_pass z (corrected ds c) ds) q; beside = record { posted = corrected-posted N ps ds c (sym q) s; split = t; counted = u } })
