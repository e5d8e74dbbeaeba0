-- One value for each desk: two that are held and stand for the same desk are equal (`one-held`). So each call's contract leaves one answer and
-- one desk (`one-step`). In a bench's name stands one table (`one-standing`).
use mathlib.Core.Path.{◌≡◌, refl, sym, ◌∙◌, ap, ap₂, subst}
use mathlib.Core.List.{List}
use Prim.Native.Nat.{ℕ, ◌≤◌}
use native.Mathlib.Decide.{dec_lt}
use native.Mathlib.Omega.{arith}
use lib.IntN.{ℤ, pos}
use lib.ListN.{length, get_or, take}
use lib.Seq.{ext_get_or, get_or-take, length-take-le}
use Rattle.exact.proofs.Decide.{by_cases}
use Rattle.verdict.proofs.Answers.{one_result}
use Rattle.tree_theory.proofs.EdgeTables.{one_table}
use Rattle.correction_theory.specs.Kept.{Beside}
use Rattle.desk_theory.specs.Desk as calls
use Rattle.desk.specs.declared.Posting.{Posting}
use Rattle.desk.specs.declared.Table.{Table}
use Rattle.desk.specs.declared.Posted.{Posted}
use Rattle.desk.specs.declared.Desk.{Desk}
use Rattle.desk.specs.declared.Standing.{Standing}
use Rattle.desk.specs.Held.{matrix_of, tree_of, posting_of, table_of, posted_of, desk_of, bench_table, PostingHeld, TableHeld, PostedHeld, Held, IsStanding, Steps}
use Rattle.std.specs.Prelude.{Option, Some, None, IfSome, Result, Ok, Err, IfOk}
use Rattle.verdict.specs.declared.Refusal.{Refusal}

-- two lists of one length with the same front, and one value behind it
same_list_lem : {A : Type 0} (d : A) (k : ℕ) (x y : List A) → length x ≡ length y → take k x ≡ take k y → ((i : ℕ) → k ≤ i → get_or x i d ≡ d) → ((i : ℕ) → k ≤ i → get_or y i d ≡ d) → x ≡ y
same_list_lem {A} d k x y e f p q = ext_get_or d x y e (λ i _. by_cases (dec_lt i k)
    (λ h. sym (get_or-take k x i d h) ∙ ap (λ (l : List A). get_or l i d) f ∙ get_or-take k y i d h)
    (λ h. p i (omega arith) ∙ sym (q i (omega arith))))

-- ---- postings
as_posting_lem : ℕ → ℕ → ℕ → List ℕ → List ℕ → List ℤ → List ℤ → Posting
as_posting_lem n pairs edges ds ps sums counts = record { n = n; pairs = pairs; edges = edges; distances = ds; parents = ps; sums = sums; counts = counts }

-- what two postings have in common
record Alike (p q : Posting) : Type 0 where
  pub n : p.n ≡ q.n
  pub pairs : p.pairs ≡ q.pairs
  pub edges : p.edges ≡ q.edges
  pub distances : p.distances ≡ q.distances
  pub parents : p.parents ≡ q.parents
  pub sums : p.sums ≡ q.sums
  pub counts : p.counts ≡ q.counts

alike : (p q : Posting) → Alike p q → p ≡ q
unfolding as_posting_lem
alike p q a =
    ap₂ (λ (n k : ℕ). as_posting_lem n k p.edges p.distances p.parents p.sums p.counts) a.n a.pairs
    ∙ ap₂ (λ (k : ℕ) (l : List ℕ). as_posting_lem q.n q.pairs k l p.parents p.sums p.counts) a.edges a.distances
    ∙ ap₂ (λ (l : List ℕ) (z : List ℤ). as_posting_lem q.n q.pairs q.edges q.distances l z p.counts) a.parents a.sums
    ∙ ap (λ (z : List ℤ). as_posting_lem q.n q.pairs q.edges q.distances q.parents q.sums z) a.counts

module _ (p q : Posting) (h : PostingHeld p) (g : PostingHeld q) (n : p.n ≡ q.n) (m : matrix_of p ≡ matrix_of q) (t : tree_of p ≡ tree_of q) where
  many : p.pairs ≡ q.pairs
  many = sym (length-take-le p.pairs p.distances (omega (arith, h.few-pairs, h.room-pairs))) ∙ ap length m ∙ length-take-le q.pairs q.distances (omega (arith, g.few-pairs, g.room-pairs))

  wide : p.edges ≡ q.edges
  wide = sym (length-take-le p.edges p.parents (omega (arith, h.few-edges, h.room-edges))) ∙ ap length t ∙ length-take-le q.edges q.parents (omega (arith, g.few-edges, g.room-edges))

  beside : Beside p.n (matrix_of p) (tree_of p) q.sums q.counts
  beside = subst (λ (k : ℕ). Beside k (matrix_of p) (tree_of p) q.sums q.counts) (sym n)
      (subst (λ (l : List ℕ). Beside q.n l (tree_of p) q.sums q.counts) (sym m) (subst (λ (l : List ℕ). Beside q.n (matrix_of q) l q.sums q.counts) (sym t) g.beside))

  posted-alike : Alike p q
  posted-alike = record {
    n = n;
    pairs = many;
    edges = wide;
    distances = same_list_lem 0 p.pairs p.distances q.distances (h.room-pairs ∙ sym g.room-pairs) (m ∙ ap (λ (k : ℕ). take k q.distances) (sym many)) h.behind-pairs (λ i l. g.behind-pairs i (omega (arith, many)));
    parents = same_list_lem 0 p.edges p.parents q.parents (h.room-edges ∙ sym g.room-edges) (t ∙ ap (λ (k : ℕ). take k q.parents) (sym wide)) h.behind-edges (λ i l. g.behind-edges i (omega (arith, wide)));
    sums = one_table h.beside.split beside.split;
    counts = one_table h.beside.counted beside.counted;
  }

pub one-posting : (p q : Posting) → PostingHeld p → PostingHeld q → posting_of p ≡ posting_of q → p ≡ q
one-posting p q h g e = alike p q (posted-alike p q h g (cc) (cc) (cc))

-- ---- tables
as_table : ℕ → List ℤ → Table
as_table d ns = record { d = d; numerators = ns }

pub one-table : (p : Posting) (t u : Option Table) → IfSome t (λ x. TableHeld p x) → IfSome u (λ x. TableHeld p x) → table_of p.edges t ≡ table_of p.edges u → t ≡ u
unfolding as_table
one-table p None None h g e = refl
one-table p (Some t) (Some u) h g e = ap₂ (λ (k : ℕ) (l : List ℤ). Some (as_table k l)) (cc) (same_list_lem (pos 0) p.edges t.numerators u.numerators (h.room ∙ sym g.room) (cc) h.behind g.behind)
one-table p (Some t) None h g e = let z : ◌≡◌ {A = ℕ} 0 1 = cc in absurd (omega arith)
one-table p None (Some u) h g e = let z : ◌≡◌ {A = ℕ} 0 1 = cc in absurd (omega arith)

-- ---- desks
as_posted : Posting → Option Table → Option Table → Posted
as_posted p t u = record { posting = p; first = t; second = u }

one-posted : (x y : Posted) → PostedHeld x → PostedHeld y → posted_of (Some x) ≡ posted_of (Some y) → x ≡ y
unfolding as_posted
one-posted x y h g z = ap (λ (p : Posting). as_posted p x.first x.second) same
    ∙ ap₂ (as_posted y.posting) (one-table y.posting x.first y.first (held x.first h.first) g.first (sym (named x.first) ∙ ap (λ (d : calls.Desk). d.tables 1) z))
    (one-table y.posting x.second y.second (held x.second h.second) g.second (sym (named x.second) ∙ ap (λ (d : calls.Desk). d.tables 2) z))
  where
    same : x.posting ≡ y.posting
    same = one-posting x.posting y.posting h.posting g.posting (ap (λ (d : calls.Desk). d.posting) z)

    held : (t : Option Table) → IfSome t (λ u. TableHeld x.posting u) → IfSome t (λ u. TableHeld y.posting u)
    held t b = subst (λ (p : Posting). IfSome t (λ u. TableHeld p u)) same b

    named : (t : Option Table) → table_of x.posting.edges t ≡ table_of y.posting.edges t
    named t = ap (λ (p : Posting). table_of p.edges t) same

as_desk : Option Posted → Desk
as_desk p = record { posted = p }

pub one-held : (d e : Desk) → Held d → Held e → desk_of d ≡ desk_of e → d ≡ e
unfolding as_desk
one-held d e h g z = ap as_desk (go d.posted e.posted h g z)
  where
    go : (p q : Option Posted) → IfSome p (λ x. PostedHeld x) → IfSome q (λ x. PostedHeld x) → posted_of p ≡ posted_of q → p ≡ q
    go None None h g z = refl
    go (Some x) (Some y) h g z = ap Some (one-posted x y h g z)
    go None (Some y) h g z = let w : calls.nothing ≡ posting_of y.posting = ap (λ (d : calls.Desk). d.posting) z in let v : ◌≡◌ {A = ℕ} 0 1 = cc in absurd (omega arith)
    go (Some x) None h g z = let w : posting_of x.posting ≡ calls.nothing = ap (λ (d : calls.Desk). d.posting) z in let v : ◌≡◌ {A = ℕ} 0 1 = cc in absurd (omega arith)

pub one-step : (d : Desk) (c : calls.Call) (r s : Result Desk Refusal) → Steps d c r → Steps d c s → r ≡ s
one-step d c r s p q = one_result After After (λ e f a b. one-held e f a.1 b.1 (a.0 ∙ sym b.0)) r s (p.answer ∙ sym q.answer) (gave r p) (gave s q)
  where
    After : Desk → Type 0
    After e = (desk_of e ≡ calls.step (desk_of d) c) × Held e

    gave : (x : Result Desk Refusal) → Steps d c x → IfOk x (λ e. (desk_of e ≡ calls.step (desk_of d) c) × Held e)
    gave (Ok e) a = (a.desk, a.held)
    gave (Err k) a = tt

-- ---- a table that stands
some : {A : Type 0} {x y : A} → Some x ≡ Some y → x ≡ y
some {A} {x} {y} e = ap (λ (o : Option A). at o) e
  where
    at : Option A → A
    at None = x
    at (Some z) = z

as_standing : Posted → Table → Standing
as_standing x t = record { posted = x; table = t }

pub one-standing : (d : Desk) (b : ℕ) (s t : Standing) → IsStanding d b s → IsStanding d b t → s ≡ t
unfolding as_standing
one-standing d b s t i j = ap₂ as_standing same (some (sym i.table ∙ ap (λ (x : Posted). bench_table x b) same ∙ j.table))
  where
    same : s.posted ≡ t.posted
    same = some (sym i.posted ∙ j.posted)
