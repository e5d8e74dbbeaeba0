-- What a desk's value stands for, call by call: the tests of the value are those of the definitions (`propose-asked`, `standing-row`), a
-- table put in its place is the bench's (`put-desk`, `put-held`), and something posted anew has no table beside it (`anew-desk`,
-- `anew-held`).
use mathlib.Core.Path.{◌≡◌, refl, sym, ◌∙◌, ap, subst, fun_ext}
use mathlib.Core.Bool.{Bool, true, false, cond, not, ◌||◌, true≢false}
use mathlib.Core.List.{List}
use mathlib.Core.Logic.{◌⊎◌, inl, inr, ⊎_elim, ◌≢◌}
use Prim.Native.Nat.{ℕ}
use native.Mathlib.Decide.{ℕ_discrete}
use native.Mathlib.Omega.{arith}
use lib.Dec.{eqb}
use lib.IntN.{ℤ}
use lib.ListN.{length}
use borrow.Author.Tests.{eqb-true, eq-eqb, ne_eqb}
use Rattle.std.specs.Prelude.{Option, Some, None, is_none, IfSome, Ok, Err}
use Rattle.exact.proofs.Decide.{by_cases}
use Rattle.verdict.specs.Answer.{Answer, pass, fault, refusal_of, test, ◌or_else◌}
use Rattle.verdict.specs.declared.Refusal.{Refusal}
use Rattle.verdict.specs.declared.Rule.TheVariants.{Plain}
use Rattle.verdict.proofs.Answers.{or_else_pass, test-pass, not_pass}
use Rattle.fit_theory.specs.Tests.{proposal_tests, buffer_out}
use Rattle.correction_theory.specs.Correction.{on_pass}
use Rattle.desk_theory.specs.Desk as calls
use Rattle.desk.specs.declared.Posting.{Posting}
use Rattle.desk.specs.declared.Table.{Table}
use Rattle.desk.specs.declared.Posted.{Posted}
use Rattle.desk.specs.declared.Desk.{Desk}
use Rattle.desk.specs.Held.{matrix_of, tree_of, posting_of, table_of, of_benches, posted_of, desk_of, bench_table, with_table_on, anew, bench_tests, named_table, standing_tests, PostingHeld, TableHeld, PostedHeld, Held, Steps}

-- ---- a call that is refused, or passes
pub refused-steps : (d : Desk) (c : calls.Call) (q : Refusal) → Held d → refusal_of q ≡ calls.answer (desk_of d) c → Steps d c (Err q)
refused-steps d c q h g = record {
  answer = g;
  desk = ap (λ (a : Answer). on_pass a (calls.effect (desk_of d) c) (desk_of d)) g;
  held = h;
}

pub passed-steps : (d e : Desk) (c : calls.Call) → pass ≡ calls.answer (desk_of d) c → desk_of e ≡ calls.effect (desk_of d) c → Held e → Steps d c (Ok e)
passed-steps d e c g f h = record {
  answer = g;
  desk = f ∙ ap (λ (a : Answer). on_pass a (calls.effect (desk_of d) c) (desk_of d)) g;
  held = h;
}

-- ---- the tests
-- 20, 21 where nothing is posted, and whatever is asked behind them of what is posted
module _ (x : Posted) where
  abbrev at : {A : Type 0} → (ℕ → List ℕ → List ℕ → A) → A
  at f = f x.posting.n (matrix_of x.posting) (tree_of x.posting)

  asked : (out : Bool) (f : ℕ → List ℕ → List ℕ → Answer) → (test 20 out or_else at f) ≡ ((test 20 out or_else pass) or_else at f)
  asked true f = refl
  asked false f = refl

pub propose-asked : (d : Desk) (x : Posted) (b D : ℕ) (ns : List ℤ) → d.posted ≡ Some x
    → calls.answer (desk_of d) (calls.propose b D ns) ≡ (bench_tests d b or_else proposal_tests Plain x.posting.n (matrix_of x.posting) (tree_of x.posting) D ns)
propose-asked d x b D ns e = rw e (asked x (calls.bench_out b) (λ N ds ps. proposal_tests Plain N ds ps D ns))

-- where the bench's tests refuse, that is the answer
pub propose-refused : (d : Desk) (b D : ℕ) (ns : List ℤ) (q : Refusal) → refusal_of q ≡ bench_tests d b → refusal_of q ≡ calls.answer (desk_of d) (calls.propose b D ns)
propose-refused d b D ns q e = go d.posted e
  where
    go : (p : Option Posted) → refusal_of q ≡ (test 20 (calls.bench_out b) or_else test 21 (is_none p))
        → refusal_of q ≡ (test 20 (calls.bench_out b) or_else calls.if_posted (posted_of p).posting (λ N ds ps. proposal_tests Plain N ds ps D ns))
    go None e = e
    go (Some x) e = refused-row' (calls.bench_out b) e
      where
        refused-row' : (out : Bool) → refusal_of q ≡ (test 20 out or_else pass) → refusal_of q ≡ (test 20 out or_else proposal_tests Plain x.posting.n (matrix_of x.posting) (tree_of x.posting) D ns)
        refused-row' true e = e
        refused-row' false e = absurd (not_pass q e)

-- a bench's number has its table
pub bench-named : (x : Posted) (b : ℕ) → calls.bench_out b ≡ false → (posted_of (Some x)).tables b ≡ table_of x.posting.edges (bench_table x b)
bench-named x b h = go (eqb b 1) (eqb b 2) h
  where
    go : (y z : Bool) → not (y || z) ≡ false
        → cond y (table_of x.posting.edges x.first) (cond z (table_of x.posting.edges x.second) calls.none) ≡ table_of x.posting.edges (cond y x.first x.second)
    go true z e = refl
    go false true e = refl
    go false false e = absurd (true≢false e)

none_is : (K : ℕ) (t : Option Table) → calls.is_none (table_of K t) ≡ is_none t
none_is K None = refl
none_is K (Some t) = refl

-- 20, 21 and what is asked behind them of a table that stands
pub standing-row : (d : Desk) (b : ℕ) (f : ℕ → List ℕ → List ℕ → Answer) (g : Answer) → ((x : Posted) → d.posted ≡ Some x → f x.posting.n (matrix_of x.posting) (tree_of x.posting) ≡ g)
    → (test 20 (calls.bench_out b) or_else calls.if_posted (desk_of d).posting (λ N ds ps. test 21 (calls.is_none ((desk_of d).tables b)) or_else f N ds ps)) ≡ (standing_tests d b or_else g)
standing-row d b f g h = go d.posted h (calls.bench_out b) refl
  where
    go : (p : Option Posted) → ((x : Posted) → p ≡ Some x → f x.posting.n (matrix_of x.posting) (tree_of x.posting) ≡ g) → (out : Bool) → calls.bench_out b ≡ out
        → (test 20 out or_else calls.if_posted (posted_of p).posting (λ N ds ps. test 21 (calls.is_none ((posted_of p).tables b)) or_else f N ds ps))
        ≡ (((test 20 out or_else test 21 (is_none p)) or_else test 21 (is_none (named_table p b))) or_else g)
    go p h true e = refl
    go None h false e = refl
    go (Some x) h false e = ap (λ (y : Bool). test 21 y or_else f x.posting.n (matrix_of x.posting) (tree_of x.posting)) (ap calls.is_none (bench-named x b e) ∙ none_is x.posting.edges (bench_table x b))
        ∙ ap (λ (a : Answer). test 21 (is_none (bench_table x b)) or_else a) (h x refl)

-- the buffer's test of a report, where something is posted
abbrev pub buffer_tests : Option Posted → ℕ → Answer
buffer_tests None size = pass
buffer_tests (Some x) size = test 15 (buffer_out size (length (tree_of x.posting)))

pub report-asked : (d : Desk) (b size : ℕ) → calls.answer (desk_of d) (calls.report b size) ≡ (standing_tests d b or_else buffer_tests d.posted size)
report-asked d b size = standing-row d b (λ N ds ps. test 15 (buffer_out size (length ps))) (buffer_tests d.posted size) (λ x e. sym (ap (λ (p : Option Posted). buffer_tests p size) e))

or_pass : (a : Answer) → (a or_else pass) ≡ a
or_pass pass = refl
or_pass (fault k p) = refl

pub withdraw-asked : (d : Desk) (b : ℕ) → calls.answer (desk_of d) (calls.withdraw b) ≡ standing_tests d b
withdraw-asked d b = go (calls.bench_out b) (desk_of d).posting ∙ standing-row d b (λ N ds ps. pass) pass (λ x e. refl) ∙ or_pass (standing_tests d b)
  where
    t : Answer
    t = test 21 (calls.is_none ((desk_of d).tables b))

    go : (out : Bool) (p : calls.Posting) → (test 20 out or_else calls.if_posted p (λ N ds ps. t)) ≡ (test 20 out or_else calls.if_posted p (λ N ds ps. t or_else pass))
    go true p = refl
    go false calls.nothing = refl
    go false (calls.matrix_tree N ds ps) = sym (or_pass t)

-- what tests that pass tell
pub bench-passed : (d : Desk) (b : ℕ) → bench_tests d b ≡ pass → calls.bench_out b ≡ false
bench-passed d b e = test-pass 20 (calls.bench_out b) (or_else_pass (test 20 (calls.bench_out b)) (test 21 (is_none d.posted)) e).0

pub standing-passed : (d : Desk) (b : ℕ) → standing_tests d b ≡ pass → calls.bench_out b ≡ false
standing-passed d b e = bench-passed d b (or_else_pass (bench_tests d b) (test 21 (is_none (named_table d.posted b))) e).0

-- ---- what is held
pub posted-held : (d : Desk) (x : Posted) → Held d → d.posted ≡ Some x → PostedHeld x
posted-held d x h e = subst (λ (p : Option Posted). IfSome p (λ y. PostedHeld y)) e h

pub table-held : (x : Posted) (b : ℕ) (t : Table) → PostedHeld x → bench_table x b ≡ Some t → TableHeld x.posting t
table-held x b t h e = subst (λ (o : Option Table). IfSome o (λ u. TableHeld x.posting u)) e (go (eqb b 1))
  where
    go : (q : Bool) → IfSome (cond q x.first x.second) (λ u. TableHeld x.posting u)
    go true = h.first
    go false = h.second

pub put-held : (x : Posted) (b : ℕ) (t : Option Table) → PostedHeld x → IfSome t (λ u. TableHeld x.posting u) → Held (with_table_on x b t)
put-held x b t h g = record { posting = h.posting; first = one (eqb b 1); second = two (eqb b 1) }
  where
    one : (q : Bool) → IfSome (cond q t x.first) (λ u. TableHeld x.posting u)
    one true = g
    one false = h.first

    two : (q : Bool) → IfSome (cond q x.second t) (λ u. TableHeld x.posting u)
    two true = h.second
    two false = g

-- a bench's number is 1 or 2
which-bench : (b : ℕ) → calls.bench_out b ≡ false → (b ≡ 1) ⊎ (b ≡ 2)
which-bench b h = go (eqb b 1) (eqb b 2) refl refl h
  where
    go : (x y : Bool) → eqb b 1 ≡ x → eqb b 2 ≡ y → not (x || y) ≡ false → (b ≡ 1) ⊎ (b ≡ 2)
    go true y e f g = inl (eqb-true b 1 e)
    go false true e f g = inr (eqb-true b 2 f)
    go false false e f g = absurd (true≢false g)

module _ (x : Posted) (t : Option Table) where
  abbrev named : Option Table → calls.Table
  named u = table_of x.posting.edges u

  abbrev before : calls.Desk
  before = posted_of (Some x)

  first-put : (k : ℕ) → of_benches (named t) (named x.second) k ≡ cond (eqb k 1) (named t) (before.tables k)
  first-put k = go (eqb k 1)
    where
      go : (q : Bool) → cond q (named t) (cond (eqb k 2) (named x.second) calls.none) ≡ cond q (named t) (cond q (named x.first) (cond (eqb k 2) (named x.second) calls.none))
      go true = refl
      go false = refl

  second-put : (k : ℕ) → of_benches (named x.first) (named t) k ≡ cond (eqb k 2) (named t) (before.tables k)
  second-put k = by_cases (ℕ_discrete k 1)
      (λ e. let z : k ≢ 2 = λ f. absurd (omega (arith, e, f)) in rw (eq-eqb k 1 e, ne_eqb k 2 z))
      (λ e. rw (ne_eqb k 1 e) (go (eqb k 2)))
    where
      go : (q : Bool) → cond q (named t) calls.none ≡ cond q (named t) (cond q (named x.second) calls.none)
      go true = refl
      go false = refl

  Put : ℕ → Type 0
  Put b = desk_of (with_table_on x b t) ≡ calls.put b (named t) before

  of-tables : (f g : ℕ → calls.Table) → ((k : ℕ) → f k ≡ g k) → ◌≡◌ {A = calls.Desk} (record { posting = before.posting; tables = f }) (record { posting = before.posting; tables = g })
  of-tables f g h = ap (λ (k : ℕ → calls.Table). record { posting = before.posting; tables = k }) (fun_ext h)

  pub put-desk : (b : ℕ) → calls.bench_out b ≡ false → desk_of (with_table_on x b t) ≡ calls.put b (named t) before
  unfolding Put
  put-desk b h = ⊎_elim (λ e. subst Put (sym e) (of-tables _ _ first-put)) (λ e. subst Put (sym e) (of-tables _ _ second-put)) (which-bench b h)

-- ---- something posted anew
none_both : (x y : Bool) → cond x calls.none (cond y calls.none calls.none) ≡ calls.none
none_both true y = refl
none_both false true = refl
none_both false false = refl

pub anew-desk : (p : Posting) → desk_of (anew p) ≡ calls.anew (posting_of p)
anew-desk p = ap (λ (f : ℕ → calls.Table). record { posting = posting_of p; tables = f }) (fun_ext (λ x. none_both (eqb x 1) (eqb x 2)))

pub anew-held : (p : Posting) → PostingHeld p → Held (anew p)
anew-held p h = record { posting = h; first = tt; second = tt }
