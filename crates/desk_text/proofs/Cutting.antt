-- Cutting a call's numbers to their fields changes no answer and no desk (`cut-answer`, `cut_step`): each test asks the same of a number
-- and of what it is cut to, and a call that passes has no number that is cut (`cut-same`).
use mathlib.Core.Path.{◌≡◌, refl, sym, ◌∙◌, ap, ap₂}
use mathlib.Core.Bool.{Bool, true, false, cond, not, ◌&&◌, ◌||◌, true≢false}
use mathlib.Core.List.{List, [], ◌∷◌, map}
use Prim.Native.Nat.{ℕ, zero, suc, ◌+◌, ◌-◌, ◌*◌, ◌≤◌, ◌<◌}
use native.Mathlib.Decide.{dec_lt}
use native.Mathlib.Omega.{arith}
use borrow.Author.Tests.{ltb-false, lt-ltb, le-ltb, le-leb, lt-leb, ne_eqb}
use lib.Dec.{eqb, ltb, leb}
use lib.IntN.{ℤ, pos, negsuc, neg_ℤ, nat_abs}
use lib.ListN.{length, length-map, get_or}
use lib.Seq.{ext_get_or}
use Rattle.exact.specs.Table.{table}
use Rattle.exact.proofs.Decide.{by_cases}
use Rattle.exact.proofs.Fill.{length-table, get_or_table, table_is, table_cong}
use Rattle.verdict.specs.Answer.{Answer, pass, fault, test, at_first, ◌or_else◌}
use Rattle.verdict.specs.Table.{some}
use Rattle.verdict.specs.declared.Place.TheVariants.{Nowhere, Vertex, Edge}
use Rattle.verdict.specs.declared.Rule.TheVariants.{Plain}
use Rattle.verdict.proofs.Answers.{refuses, or_else_pass, test-pass, first-pass, at_first_cong, or_none}
use Rattle.verdict.proofs.Table.{some_cong, some-none}
use Rattle.matrix.specs.Limits.{max_strains, max_distance}
use Rattle.matrix.specs.Place.{pair_count, known, pair_at, row_place, from_rows}
use Rattle.matrix.specs.Tests.{strains_out, distance_out, matrix_tests}
use Rattle.matrix.proofs.Places.{count_room}
use Rattle.tree_theory.specs.Limits.{max_edges}
use Rattle.tree_theory.specs.Chain.{parent_of}
use Rattle.tree_theory.specs.Tests.{vertices_out, parent_out, parent_fault, children_few, tree_tests}
use Rattle.lengths.specs.Limits.{max_numerator}
use Rattle.lengths.specs.Tests.{edges_out, denominator_out, numerator_out, lengths_tests}
use Rattle.fit_theory.specs.Tests.{shape_tests, seen_tests, posted_tests, proposal_tests, sums_tests}
use Rattle.correction_theory.specs.Correction.{Correction, pair_tests, corrected, correction_tests}
use Rattle.correction_theory.proofs.Asked.{→apart, far-near}
use Rattle.desk_theory.specs.Desk.{Posting, nothing, matrix_tree, Desk, Call, post, correct, propose, withdraw, report, bench_out, if_posted, answer, answer_on, step}
use Rattle.desk_theory.specs.Promises.{PostedWell}
use Rattle.desk_theory.proofs.Runs.{refused-same}
use Rattle.desk_text.specs.Meaning.{by_strains, max_words}
use Rattle.desk_text.specs.Fields.{cut_to, word, cut_word, cut_distance, cut_parent, cut_numerator, cut_call}

-- ---- one number
pub cut_low : (most above x : ℕ) → x ≤ most → cut_to most above x ≡ x
cut_low most above x h = ap (λ (q : Bool). cond q x above) (le-leb x most h)

pub cut_high : (most above x : ℕ) → most < x → cut_to most above x ≡ above
cut_high most above x h = ap (λ (q : Bool). cond q x above) (lt-leb x most h)

-- what is asked alike of `above` and of every number above `most` is asked alike of each number and of what it is cut to
cut-asked : {A : Type 0} (f : ℕ → A) (most above x : ℕ) → (most < x → f above ≡ f x) → f (cut_to most above x) ≡ f x
cut-asked f most above x h = by_cases (dec_lt most x) (λ l. ap f (cut_high most above x l) ∙ h l) (λ n. ap f (cut_low most above x (omega arith)))

-- ---- a list, entry by entry
get_d_map : {A B : Type 0} (f : A → B) (l : List A) (d : A) (e : B) (k : ℕ) → k < length l → get_or (map f l) k e ≡ f (get_or l k d)
get_d_map f [] d e k h = absurd (omega arith)
get_d_map f (x ∷ xs) d e zero h = refl
get_d_map f (x ∷ xs) d e (suc k) h = get_d_map f xs d e k (omega arith)

map_same : {A : Type 0} (f : A → A) (l : List A) (d : A) → ((k : ℕ) → k < length l → f (get_or l k d) ≡ get_or l k d) → map f l ≡ l
map_same f l d h = ext_get_or d (map f l) l (length-map l f)
    (λ k b. let m : k < length l = omega (arith, length-map l f) in get_d_map f l d d k m ∙ h k m)

-- tests in a row agree where the first is the same and, where it passes, the rest
row_cong : (a : Answer) {b c : Answer} → (a ≡ pass → b ≡ c) → (a or_else b) ≡ (a or_else c)
row_cong pass h = h refl
row_cong (fault k p) h = refl

rows_cong : {a a' b b' : Answer} → a ≡ a' → (a' ≡ pass → b ≡ b') → (a or_else b) ≡ (a' or_else b')
rows_cong {a} {a'} {b} {b'} e h = ap (λ (z : Answer). z or_else b) e ∙ row_cong a' h

-- ---- distances
far-known : (x : ℕ) → 65535 < x → known x ≡ x
unfolding known
far-known x h = ap (λ (q : Bool). cond (not q) x 0) (ne_eqb x 65535 (λ e. absurd (omega (arith, e))))

distance-test : (x : ℕ) → ltb max_distance (known (cut_distance x)) ≡ ltb max_distance (known x)
unfolding known
distance-test x = cut-asked (λ (y : ℕ). ltb max_distance (known y)) 65535 65534 x
    (λ h. sym (ap (ltb max_distance) (far-known x h) ∙ lt-ltb max_distance x (omega arith)))

distance-kept : (x : ℕ) → ltb max_distance (known x) ≡ false → cut_distance x ≡ x
distance-kept x e = by_cases (dec_lt 65535 x)
    (λ l. let m = ltb-false max_distance (known x) e in absurd (omega (arith, m, far-known x l)))
    (λ n. cut_low 65535 65534 x (omega arith))

distances-asked : (N : ℕ) (ds : List ℕ) → matrix_tests N (map cut_distance ds) ≡ matrix_tests N ds
distances-asked N ds = ap₂ (λ (n : ℕ) (b : Bool). test 4 (not (eqb n (pair_count N))) or_else test 6 (strains_out N) or_else test 7 b) (length-map ds cut_distance)
    (ap (λ (n : ℕ). some n (λ k. ltb max_distance (known (get_or (map cut_distance ds) k 0)))) (length-map ds cut_distance)
    ∙ some_cong (length ds) _ _ (λ k l. ap (λ (x : ℕ). ltb max_distance (known x)) (get_d_map cut_distance ds 0 0 k l) ∙ distance-test (get_or ds k 0)))

distances-kept : (N : ℕ) (ds : List ℕ) → matrix_tests N ds ≡ pass → map cut_distance ds ≡ ds
distances-kept N ds e =
    let (_, t) = or_else_pass (test 4 (not (eqb (length ds) (pair_count N)))) (test 6 (strains_out N) or_else test 7 (distance_out ds)) e in
    let near = test-pass 7 (distance_out ds) (or_else_pass (test 6 (strains_out N)) (test 7 (distance_out ds)) t).1 in
    map_same cut_distance ds 0 (λ k l. distance-kept (get_or ds k 0) (some-none (length ds) (λ i. ltb max_distance (known (get_or ds i 0))) near k l))

-- ---- parents
module _ (N : ℕ) (ps : List ℕ) where
  -- the tests of a tree with as many edges as ps has, by another table of parents
  abbrev children_by : List ℕ → Answer
  children_by qs = at_first (length ps + 1) (children_few N (length ps) (parent_of qs)) (λ w. fault 10 (Vertex w))

  abbrev parents_by : List ℕ → Answer
  parents_by qs = at_first (length ps) (parent_out N (length ps) (parent_of qs)) (parent_fault (length ps) (parent_of qs))

  module _ (strains : strains_out N ≡ false) (vertices : vertices_out N (length ps + 1) ≡ false) where
    few-strains : N ≤ 64
    few-strains = ltb-false 64 N (or_none (ltb N 3) (ltb 64 N) strains).1

    few-edges : length ps ≤ 125
    few-edges = let h = ltb-false (2 * N - 2) (length ps + 1) (or_none (ltb (length ps + 1) (N + 1)) (ltb (2 * N - 2) (length ps + 1)) vertices).1 in omega (arith, h, few-strains)

    parent_out_lem : (v x : ℕ) → v < length ps → 255 < x → (leb 255 v || (ltb 255 N || ltb (length ps) 255)) ≡ (leb x v || (ltb x N || ltb (length ps) x))
    parent_out_lem v x l h =
        let b = few-strains in let k = few-edges in
        rw (lt-leb 255 v (omega (arith, k)), le-ltb 255 N (omega (arith, b)), lt-ltb (length ps) 255 (omega (arith, k)), lt-leb x v (omega (arith, k)), le-ltb x N (omega (arith, b)), lt-ltb (length ps) x (omega (arith, k)))

    past-root : (x : ℕ) → 255 < x → ltb (length ps) 255 ≡ ltb (length ps) x
    past-root x h = let k = few-edges in lt-ltb (length ps) 255 (omega (arith, k)) ∙ sym (lt-ltb (length ps) x (omega (arith, k)))

    at : (v : ℕ) → v < length ps → parent_of (map cut_parent ps) v ≡ cut_parent (parent_of ps v)
    at v l = get_d_map cut_parent ps 0 0 v l

    parents-alike : parents_by (map cut_parent ps) ≡ parents_by ps
    parents-alike = at_first_cong (length ps) _ _ _ _
        (λ v l. ap (λ (x : ℕ). leb x v || (ltb x N || ltb (length ps) x)) (at v l)
        ∙ cut-asked (λ (x : ℕ). leb x v || (ltb x N || ltb (length ps) x)) 255 255 (parent_of ps v) (parent_out_lem v (parent_of ps v) l))
        (λ v l. ap (λ (x : ℕ). fault (cond (ltb (length ps) x) 16 9) (Vertex v)) (at v l)
        ∙ cut-asked (λ (x : ℕ). fault (cond (ltb (length ps) x) 16 9) (Vertex v)) 255 255 (parent_of ps v)
        (λ h. ap (λ (q : Bool). fault (cond q 16 9) (Vertex v)) (past-root (parent_of ps v) h)))

    parents-kept : parents_by ps ≡ pass → map cut_parent ps ≡ ps
    parents-kept e = map_same cut_parent ps 0 (λ v l.
        let none = some-none (length ps) (parent_out N (length ps) (parent_of ps)) (first-pass (length ps) _ (parent_fault (length ps) (parent_of ps)) (λ i. refuses _ _) e) v l in
        let (_, out) = or_none (leb (parent_of ps v) v) (ltb (parent_of ps v) N || ltb (length ps) (parent_of ps v)) none in
        let high = ltb-false (length ps) (parent_of ps v) (or_none (ltb (parent_of ps v) N) (ltb (length ps) (parent_of ps v)) out).1 in
        cut_low 255 255 (parent_of ps v) (let k = few-edges in omega (arith, k, high)))

  pub parents-asked : tree_tests N (map cut_parent ps) ≡ tree_tests N ps
  parents-asked =
      ap (λ (K : ℕ). test 6 (strains_out N) or_else test 8 (vertices_out N (K + 1)) or_else at_first K (parent_out N K (parent_of (map cut_parent ps))) (parent_fault K (parent_of (map cut_parent ps)))
      or_else at_first (K + 1) (children_few N K (parent_of (map cut_parent ps))) (λ w. fault 10 (Vertex w))) (length-map ps cut_parent)
      ∙ row_cong (test 6 (strains_out N)) (λ e. row_cong (test 8 (vertices_out N (length ps + 1))) (λ f.
      let strains = test-pass 6 (strains_out N) e in let vertices = test-pass 8 (vertices_out N (length ps + 1)) f in
      rows_cong (parents-alike strains vertices) (λ g. ap children_by (parents-kept strains vertices g))))

  pub tree-kept : tree_tests N ps ≡ pass → map cut_parent ps ≡ ps
  tree-kept e =
      let (six, t) = or_else_pass (test 6 (strains_out N)) (test 8 (vertices_out N (length ps + 1)) or_else parents_by ps or_else children_by ps) e in
      let (eight, u) = or_else_pass (test 8 (vertices_out N (length ps + 1))) (parents_by ps or_else children_by ps) t in
      parents-kept (test-pass 6 (strains_out N) six) (test-pass 8 (vertices_out N (length ps + 1)) eight) (or_else_pass (parents_by ps) (children_by ps) u).0

-- ---- a posting
many-pairs : (N : ℕ) (ds : List ℕ) → 129 < N → length ds ≤ max_words → matrix_tests N ds ≡ fault 4 Nowhere
many-pairs N ds h l = let b = count_room N 129 h in
    ap (λ (q : Bool). test 4 (not q) or_else test 6 (strains_out N) or_else test 7 (distance_out ds)) (ne_eqb (length ds) (pair_count N) (λ e. absurd (omega (arith, b, e))))

module _ (N : ℕ) (ds ps : List ℕ) (few : length ds ≤ max_words) where
  shape_asked : shape_tests N (map cut_distance ds) (map cut_parent ps) ≡ shape_tests N ds ps
  shape_asked = ap₂ ◌or_else◌ (distances-asked N ds) (parents-asked N ps)

  both-kept : shape_tests N ds ps ≡ pass → (map cut_distance ds ≡ ds) × (map cut_parent ps ≡ ps)
  both-kept e = let (m, t) = or_else_pass (matrix_tests N ds) (tree_tests N ps) e in (distances-kept N ds m, tree-kept N ps t)

  fields-asked : posted_tests N (map cut_distance ds) (map cut_parent ps) ≡ posted_tests N ds ps
  fields-asked = rows_cong shape_asked (λ e. let (d, p) = both-kept e in ap₂ (seen_tests N) d p)

  posting-asked : posted_tests (cut_word N) (map cut_distance ds) (map cut_parent ps) ≡ posted_tests N ds ps
  posting-asked = by_cases (dec_lt word N)
      (λ l. ap (λ (n : ℕ). posted_tests n (map cut_distance ds) (map cut_parent ps)) (cut_high word word N l)
      ∙ ap (λ (a : Answer). (a or_else tree_tests word (map cut_parent ps)) or_else seen_tests word (map cut_distance ds) (map cut_parent ps))
      (many-pairs word (map cut_distance ds) (omega arith) (omega (arith, few, length-map ds cut_distance)))
      ∙ sym (ap (λ (a : Answer). (a or_else tree_tests N ps) or_else seen_tests N ds ps) (many-pairs N ds (omega arith) few)))
      (λ n. ap (λ (m : ℕ). posted_tests m (map cut_distance ds) (map cut_parent ps)) (cut_low word word N (omega arith)) ∙ fields-asked)

  posting-kept : posted_tests N ds ps ≡ pass → cut_call (post N ds ps) ≡ post N ds ps
  posting-kept e =
      let shape = (or_else_pass (shape_tests N ds ps) (seen_tests N ds ps) e).0 in
      let (d, p) = both-kept shape in
      let (_, t) = or_else_pass (test 4 (not (eqb (length ds) (pair_count N)))) (test 6 (strains_out N) or_else test 7 (distance_out ds)) (or_else_pass (matrix_tests N ds) (tree_tests N ps) shape).0 in
      let six = test-pass 6 (strains_out N) (or_else_pass (test 6 (strains_out N)) (test 7 (distance_out ds)) t).0 in
      let low = ltb-false 64 N (or_none (ltb N 3) (ltb 64 N) six).1 in
      let n : cut_word N ≡ N = cut_low word word N (omega (arith, low)) in
      rw (n, d, p)

-- ---- a proposal
size-test : (z : ℤ) → ltb max_numerator (nat_abs (cut_numerator z)) ≡ ltb max_numerator (nat_abs z)
size-test (pos n) = cut-asked (λ (y : ℕ). ltb max_numerator y) max_numerator 100000000001 n (λ h. sym (lt-ltb max_numerator n h))
size-test (negsuc n) = by_cases (dec_lt max_numerator (suc n))
    (λ l. ap (λ (y : ℕ). ltb max_numerator (nat_abs (neg_ℤ (pos y)))) (cut_high max_numerator 100000000001 (suc n) l) ∙ sym (lt-ltb max_numerator (suc n) l))
    (λ l. ap (λ (y : ℕ). ltb max_numerator (nat_abs (neg_ℤ (pos y)))) (cut_low max_numerator 100000000001 (suc n) (omega arith)))

size-kept : (z : ℤ) → ltb max_numerator (nat_abs z) ≡ false → cut_numerator z ≡ z
size-kept (pos n) e = ap pos (cut_low max_numerator 100000000001 n (ltb-false max_numerator n e))
size-kept (negsuc n) e = ap (λ (y : ℕ). neg_ℤ (pos y)) (cut_low max_numerator 100000000001 (suc n) (ltb-false max_numerator (suc n) e))

denominator-test : (D : ℕ) → denominator_out (cut_word D) ≡ denominator_out D
denominator-test D = cut-asked denominator_out word word D (λ h. sym (ap₂ ◌||◌ (le-ltb D 1 (omega arith)) (lt-ltb 1000000 D (omega arith))))

denominator-kept : (D : ℕ) → denominator_out D ≡ false → cut_word D ≡ D
denominator-kept D e = let h = ltb-false 1000000 D (or_none (ltb D 1) (ltb 1000000 D) e).1 in cut_low word word D (omega (arith, h))

module _ (K D : ℕ) (ns : List ℤ) where
  numerators-asked : at_first (length (map cut_numerator ns)) (numerator_out (map cut_numerator ns)) (λ v. fault 13 (Edge v)) ≡ at_first (length ns) (numerator_out ns) (λ v. fault 13 (Edge v))
  numerators-asked = ap (λ (n : ℕ). at_first n (numerator_out (map cut_numerator ns)) (λ v. fault 13 (Edge v))) (length-map ns cut_numerator)
      ∙ at_first_cong (length ns) _ _ (λ v. fault 13 (Edge v)) (λ v. fault 13 (Edge v))
      (λ v l. ap (λ (z : ℤ). ltb max_numerator (nat_abs z)) (get_d_map cut_numerator ns (pos 0) (pos 0) v l) ∙ size-test (get_or ns v (pos 0)))
      (λ v l. refl)

  numerators-kept : at_first (length ns) (numerator_out ns) (λ v. fault 13 (Edge v)) ≡ pass → map cut_numerator ns ≡ ns
  numerators-kept e = map_same cut_numerator ns (pos 0) (λ v l. size-kept (get_or ns v (pos 0))
      (some-none (length ns) (numerator_out ns) (first-pass (length ns) (numerator_out ns) (λ i. fault 13 (Edge i)) (λ i. refuses _ _) e) v l))

  lengths-asked : lengths_tests K (cut_word D) (map cut_numerator ns) ≡ lengths_tests K D ns
  lengths-asked = ap₂ (λ (n : ℕ) (a : Answer). test 11 (not (eqb n K) || ltb max_edges K) or_else a) (length-map ns cut_numerator)
      (ap₂ ◌or_else◌ (ap (test 12) (denominator-test D)) numerators-asked)

  lengths-kept : lengths_tests K D ns ≡ pass → (cut_word D ≡ D) × (map cut_numerator ns ≡ ns)
  lengths-kept e =
      let (_, t) = or_else_pass (test 11 (edges_out K ns)) (test 12 (denominator_out D) or_else at_first (length ns) (numerator_out ns) (λ v. fault 13 (Edge v))) e in
      let (twelve, u) = or_else_pass (test 12 (denominator_out D)) (at_first (length ns) (numerator_out ns) (λ v. fault 13 (Edge v))) t in
      (denominator-kept D (test-pass 12 (denominator_out D) twelve), numerators-kept u)

proposal-asked : (p : Posting) (D : ℕ) (ns : List ℤ)
    → if_posted p (λ N ds ps. proposal_tests Plain N ds ps (cut_word D) (map cut_numerator ns)) ≡ if_posted p (λ N ds ps. proposal_tests Plain N ds ps D ns)
proposal-asked nothing D ns = refl
proposal-asked (matrix_tree N ds ps) D ns = rows_cong (lengths-asked (length ps) D ns)
    (λ e. let (d, n) = lengths-kept (length ps) D ns e in ap₂ (sums_tests Plain N ds ps) d n)

proposal-kept : (p : Posting) (D : ℕ) (ns : List ℤ) → if_posted p (λ N ds ps. proposal_tests Plain N ds ps D ns) ≡ pass
    → (cut_word D ≡ D) × (map cut_numerator ns ≡ ns)
proposal-kept nothing D ns e = absurd (refuses 21 Nowhere e)
proposal-kept (matrix_tree N ds ps) D ns e = lengths-kept (length ps) D ns (or_else_pass (lengths_tests (length ps) D ns) (sums_tests Plain N ds ps D ns) e).0

-- ---- a correction
or_first : (a b c : Bool) → b ≡ true → (a || (b || c)) ≡ true
or_first true b c e = refl
or_first false b c e = rw e

or_last : (a b c : Bool) → c ≡ true → (a || (b || c)) ≡ true
or_last true b c e = refl
or_last false true c e = refl
or_last false false c e = e

abbrev cut_correction : Correction → Correction
cut_correction c = record { i = cut_word c.i; j = cut_word c.j; far = cut_distance c.far }

strains-asked : (N : ℕ) (i j : ℕ) → N ≤ 64 → (eqb (cut_word i) (cut_word j) || (leb N (cut_word i) || leb N (cut_word j))) ≡ (eqb i j || (leb N i || leb N j))
strains-asked N i j h = by_cases (dec_lt word i)
    (λ l. or_first (eqb (cut_word i) (cut_word j)) (leb N (cut_word i)) (leb N (cut_word j)) (past i l) ∙ sym (or_first (eqb i j) (leb N i) (leb N j) (le-leb N i (omega arith))))
    (λ n. by_cases (dec_lt word j)
    (λ l. or_last (eqb (cut_word i) (cut_word j)) (leb N (cut_word i)) (leb N (cut_word j)) (past j l) ∙ sym (or_last (eqb i j) (leb N i) (leb N j) (le-leb N j (omega arith))))
    (λ m. ap₂ (λ (x y : ℕ). eqb x y || (leb N x || leb N y)) (cut_low word word i (omega arith)) (cut_low word word j (omega arith))))
  where
    past : (x : ℕ) → word < x → leb N (cut_word x) ≡ true
    past x l = ap (leb N) (cut_high word word x l) ∙ le-leb N word (omega arith)

pair-kept : (N : ℕ) (c : Correction) → N ≤ 64 → pair_tests N c ≡ pass → cut_correction c ≡ c
pair-kept N c h e =
    let apart = →apart N c e in
    let i : cut_word c.i ≡ c.i = cut_low word word c.i (omega (arith, apart.i-strain)) in
    let j : cut_word c.j ≡ c.j = cut_low word word c.j (omega (arith, apart.j-strain)) in
    let x : cut_distance c.far ≡ c.far = distance-kept c.far (le-ltb max_distance (known c.far) (far-near N c e)) in
    rw (i, j, x)

correction_asked : (p : Posting) (c : Correction) → PostedWell p → if_posted p (λ N ds ps. correction_tests N ds ps (cut_correction c)) ≡ if_posted p (λ N ds ps. correction_tests N ds ps c)
correction_asked nothing c s = refl
correction_asked (matrix_tree N ds ps) c s = rows_cong
    (ap₂ (λ (p q : Bool). test 24 p or_else test 7 q) (strains-asked N c.i c.j s.matrix.few) (distance-test c.far))
    (λ e. ap (λ (x : Correction). seen_tests N (corrected ds x) ps) (pair-kept N c s.matrix.few e))

correction_kept : (p : Posting) (c : Correction) → PostedWell p → if_posted p (λ N ds ps. correction_tests N ds ps c) ≡ pass → cut_correction c ≡ c
correction_kept nothing c s e = absurd (refuses 21 Nowhere e)
correction_kept (matrix_tree N ds ps) c s e = pair-kept N c s.matrix.few (or_else_pass (pair_tests N c) (seen_tests N (corrected ds c) ps) e).0

-- ---- a bench
bench-test : (b : ℕ) → bench_out (cut_word b) ≡ bench_out b
bench-test b = cut-asked bench_out word word b (λ h. sym (ap₂ (λ (p q : Bool). not (p || q)) (ne_eqb b 1 (λ e. absurd (omega (arith, e)))) (ne_eqb b 2 (λ e. absurd (omega (arith, e))))))

bench-kept : (b : ℕ) → bench_out b ≡ false → cut_word b ≡ b
bench-kept b e = by_cases (dec_lt word b)
    (λ l. let z : bench_out b ≡ true = ap₂ (λ (p q : Bool). not (p || q)) (ne_eqb b 1 (λ q. absurd (omega (arith, q)))) (ne_eqb b 2 (λ q. absurd (omega (arith, q)))) in absurd (true≢false (sym z ∙ e)))
    (λ n. cut_low word word b (omega arith))

-- what a bench is asked behind 20, where that depends on the bench
bench-asked : (b : ℕ) (f : ℕ → Answer) → (test 20 (bench_out (cut_word b)) or_else f (cut_word b)) ≡ (test 20 (bench_out b) or_else f b)
bench-asked b f = rows_cong (ap (test 20) (bench-test b)) (λ e. ap f (bench-kept b (test-pass 20 (bench_out b) e)))

-- ---- every call
-- a posting with no more distances than a line can hold
abbrev pub Few : Call → Type 0
Few (post N ds ps) = length ds ≤ max_words
Few (correct c) = Unit {0}
Few (propose b D ns) = Unit {0}
Few (withdraw b) = Unit {0}
Few (report b size) = Unit {0}

module _ (d : Desk) (well : PostedWell d.posting) where
  pub cut-answer : (c : Call) → Few c → answer d (cut_call c) ≡ answer d c
  cut-answer (post N ds ps) few = posting-asked N ds ps few
  cut-answer (correct c) few = correction_asked d.posting c well
  cut-answer (propose b D ns) few = ap₂ ◌or_else◌ (ap (test 20) (bench-test b)) (proposal-asked d.posting D ns)
  cut-answer (withdraw b) few = bench-asked b (λ x. answer_on d.posting (d.tables x) (withdraw 1))
  cut-answer (report b size) few = bench-asked b (λ x. answer_on d.posting (d.tables x) (report 1 size))

  pub cut-same : (c : Call) → Few c → answer d c ≡ pass → cut_call c ≡ c
  cut-same (post N ds ps) few e = posting-kept N ds ps few e
  cut-same (correct c) few e = ap correct (correction_kept d.posting c well e)
  cut-same (propose b D ns) few e =
      let (t, u) = or_else_pass (test 20 (bench_out b)) (if_posted d.posting (λ N ds ps. proposal_tests Plain N ds ps D ns)) e in
      let (x, y) = proposal-kept d.posting D ns u in
      let z = bench-kept b (test-pass 20 (bench_out b) t) in
      rw (z, x, y)
  cut-same (withdraw b) few e = ap withdraw (bench-kept b (test-pass 20 (bench_out b) (or_else_pass (test 20 (bench_out b)) (answer_on d.posting (d.tables b) (withdraw 1)) e).0))
  cut-same (report b size) few e = ap (λ (x : ℕ). report x size)
      (bench-kept b (test-pass 20 (bench_out b) (or_else_pass (test 20 (bench_out b)) (answer_on d.posting (d.tables b) (report 1 size)) e).0))

  pub cut_step : (c : Call) → Few c → step d (cut_call c) ≡ step d c
  cut_step c few = go (answer d c) refl
    where
      go : (a : Answer) → answer d c ≡ a → step d (cut_call c) ≡ step d c
      go pass e = ap (step d) (cut-same c few e)
      go (fault k p) e = refused-same d (cut_call c) k p (cut-answer c few ∙ e) ∙ sym (refused-same d c k p e)

-- ---- distances are cut before they are put in the matrix's order, or behind that
get_or_cut : (l : List ℕ) (k : ℕ) → get_or (map cut_distance l) k 0 ≡ cut_distance (get_or l k 0)
get_or_cut [] k = refl
get_or_cut (x ∷ xs) zero = refl
get_or_cut (x ∷ xs) (suc k) = get_or_cut xs k

map-table : (n : ℕ) (f : ℕ → ℕ) (g : ℕ → ℕ) → map g (table n f) ≡ table n (λ k. g (f k))
map-table n f g = table_is 0 (λ k. g (f k)) n (map g (table n f)) (length-map (table n f) g ∙ length-table n f)
    (λ k h. get_d_map g (table n f) 0 0 k (omega (arith, h, length-table n f)) ∙ ap g (get_or_table n f 0 k h))

pub strains-cut : (N : ℕ) (rows : List ℕ) → by_strains (cut_word N) (map cut_distance rows) ≡ map cut_distance (by_strains N rows)
unfolding by_strains
strains-cut N rows = by_cases (dec_lt max_strains N)
    (λ h. ap (λ (b : Bool). cond (b && eqb (length (map cut_distance rows)) (pair_count (cut_word N))) (table (length (map cut_distance rows)) (from_rows (cut_word N) (λ k. get_or (map cut_distance rows) k 0))) (map cut_distance rows)) (past h)
    ∙ sym (ap (λ (b : Bool). map cut_distance (cond (b && eqb (length rows) (pair_count N)) (table (length rows) (from_rows N (λ k. get_or rows k 0))) rows)) (lt-leb N max_strains h)))
    (λ h. let e : cut_word N ≡ N = cut_low word word N (omega arith) in rw (e, length-map rows cut_distance) (go (leb N max_strains && eqb (length rows) (pair_count N))))
  where
    past : max_strains < N → leb (cut_word N) max_strains ≡ false
    past h = cut-asked (λ (n : ℕ). leb n max_strains) word word N (λ l. sym (lt-leb N max_strains h)) ∙ lt-leb N max_strains h

    go : (b : Bool) → cond b (table (length rows) (from_rows N (λ k. get_or (map cut_distance rows) k 0))) (map cut_distance rows) ≡ map cut_distance (cond b (table (length rows) (from_rows N (λ k. get_or rows k 0))) rows)
    go true = table_cong 0 (length rows) _ _ (λ k h. get_or_cut rows (row_place N (pair_at k).0 (pair_at k).1)) ∙ sym (map-table (length rows) (from_rows N (λ k. get_or rows k 0)) cut_distance)
    go false = refl
