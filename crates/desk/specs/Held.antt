-- Which desk of the definitions a desk's value is, and that it holds just that: zeros behind every table.
use Rattle.std.specs.Prelude.{◌≡◌, cond, List, ℕ, ◌≤◌, eqb, ℤ, pos, length, get_or, take, Option, Some, None, is_none, IfSome, Result, Ok, Err, IfOk}
use Rattle.verdict.specs.Answer.{Answer, answer_of, test, ◌or_else◌}
use Rattle.verdict.specs.declared.Refusal.{Refusal}
use Rattle.verdict.specs.declared.Rule.TheVariants.{Plain}
use Rattle.matrix.specs.Limits.{max_pairs}
use Rattle.tree_theory.specs.Limits.{max_edges}
use Rattle.fit_theory.specs.Stands.{Stands}
use Rattle.correction_theory.specs.Kept.{Beside}
use Rattle.desk_theory.specs.Desk as calls
use Rattle.desk.specs.declared.Posting.{Posting}
use Rattle.desk.specs.declared.Table.{Table}
use Rattle.desk.specs.declared.Posted.{Posted}
use Rattle.desk.specs.declared.Desk.{Desk}
use Rattle.desk.specs.declared.Standing.{Standing}

-- the matrix and the tree in the front of their tables
abbrev pub matrix_of : Posting → List ℕ
matrix_of p = take p.pairs p.distances

abbrev pub tree_of : Posting → List ℕ
tree_of p = take p.edges p.parents

-- a table's numerators, one for each of K edges
abbrev pub numerators_of : ℕ → Table → List ℤ
numerators_of K t = take K t.numerators

abbrev pub posting_of : Posting → calls.Posting
posting_of p = calls.matrix_tree p.n (matrix_of p) (tree_of p)

-- what stands in a bench's name, with K edges
abbrev pub table_of : ℕ → Option Table → calls.Table
table_of K None = calls.none
table_of K (Some t) = calls.lengths t.d (numerators_of K t)

-- the tables of the two benches, and none for any other number
abbrev pub of_benches : calls.Table → calls.Table → ℕ → calls.Table
of_benches s t x = cond (eqb x 1) s (cond (eqb x 2) t calls.none)

-- what is posted, with the tables on it; nothing where nothing is posted
abbrev pub posted_of : Option Posted → calls.Desk
posted_of None = calls.empty
posted_of (Some x) = record {
  posting = posting_of x.posting;
  tables = of_benches (table_of x.posting.edges x.first) (table_of x.posting.edges x.second);
}

abbrev pub desk_of : Desk → calls.Desk
desk_of d = posted_of d.posted

-- the table of bench 1, or of the other
abbrev pub bench_table : Posted → ℕ → Option Table
bench_table x b = cond (eqb b 1) x.first x.second

-- a table in the place of bench 1's, or of the other's
abbrev pub with_table_on : Posted → ℕ → Option Table → Desk
with_table_on x b t = record { posted = Some (record { posting = x.posting; first = cond (eqb b 1) t x.first; second = cond (eqb b 1) x.second t }) }

-- the same on a desk; where nothing is posted nothing can stand, and the desk stays as it is
abbrev pub put_on : Desk → Option Posted → ℕ → Option Table → Desk
put_on d None b t = d
put_on d (Some x) b t = with_table_on x b t

abbrev pub with_table : Desk → ℕ → Option Table → Desk
with_table d b t = put_on d d.posted b t

-- a posting with no table beside it
abbrev pub anew : Posting → Desk
anew p = record { posted = Some (record { posting = p; first = None; second = None }) }

-- what a bench's call is asked first: 20, then 21 where nothing is posted
abbrev pub bench_tests : Desk → ℕ → Answer
bench_tests d b = test 20 (calls.bench_out b) or_else test 21 (is_none d.posted)

-- the table that stands in a bench's name
abbrev pub named_table : Option Posted → ℕ → Option Table
named_table None b = None
named_table (Some x) b = bench_table x b

-- then 21 where no table stands in its name
abbrev pub standing_tests : Desk → ℕ → Answer
standing_tests d b = bench_tests d b or_else test 21 (is_none (named_table d.posted b))

-- a posting passes, with its sums and counts beside it; zeros behind the matrix and the tree
pub record PostingHeld (p : Posting) : Type 0 where
  pub few-pairs : p.pairs ≤ max_pairs
  pub few-edges : p.edges ≤ max_edges
  pub room-pairs : length p.distances ≡ max_pairs
  pub room-edges : length p.parents ≡ max_edges
  pub behind-pairs : (k : ℕ) → p.pairs ≤ k → get_or p.distances k 0 ≡ 0
  pub behind-edges : (v : ℕ) → p.edges ≤ v → get_or p.parents v 0 ≡ 0
  pub beside : Beside p.n (matrix_of p) (tree_of p) p.sums p.counts

-- a table stands on what is posted; zeros behind its numerators
pub record TableHeld (p : Posting) (t : Table) : Type 0 where
  pub room : length t.numerators ≡ max_edges
  pub behind : (v : ℕ) → p.edges ≤ v → get_or t.numerators v (pos 0) ≡ pos 0
  pub stands : Stands Plain p.n (matrix_of p) (tree_of p) t.d (numerators_of p.edges t)

pub record PostedHeld (x : Posted) : Type 0 where
  pub posting : PostingHeld x.posting
  pub first : IfSome x.first (λ t. TableHeld x.posting t)
  pub second : IfSome x.second (λ t. TableHeld x.posting t)

abbrev pub Held : Desk → Type 0
Held d = IfSome d.posted (λ x. PostedHeld x)

pub record IsEmpty (d : Desk) : Type 0 where
  pub desk : desk_of d ≡ calls.empty
  pub held : Held d

-- the bench's first tests, and what is posted
pub record PostedFor (d : Desk) (b : ℕ) (r : Result Posted Refusal) : Type 0 where
  pub answer : answer_of r ≡ bench_tests d b
  pub posted : IfOk r (λ x. d.posted ≡ Some x)

-- the tests of a table that stands, what it stands on, and the table
pub record IsStanding (d : Desk) (b : ℕ) (s : Standing) : Type 0 where
  pub posted : d.posted ≡ Some s.posted
  pub table : bench_table s.posted b ≡ Some s.table

pub record StandsFor (d : Desk) (b : ℕ) (r : Result Standing Refusal) : Type 0 where
  pub answer : answer_of r ≡ standing_tests d b
  pub standing : IfOk r (λ s. IsStanding d b s)

-- the desk after a call: the one that it gave, or the very desk where it was refused
abbrev pub after : Desk → Result Desk Refusal → Desk
after d (Ok e) = e
after d (Err q) = d

-- a call on the desk d is answered, and leaves a desk, as the definitions say
pub record Steps (d : Desk) (c : calls.Call) (r : Result Desk Refusal) : Type 0 where
  pub answer : answer_of r ≡ calls.answer (desk_of d) c
  pub desk : desk_of (after d r) ≡ calls.step (desk_of d) c
  pub held : Held (after d r)
