-- Names used once each: where there are as many leaves as names and every name is used, none is used twice and none is unknown
-- (`names-right`); and where names are right, there are that many leaves and each is used once (`names-once`).
use mathlib.Core.Path.{◌≡◌, refl, sym, ◌∙◌, ap}
use mathlib.Core.Bool.{Bool, true, false, cond, not}
use mathlib.Core.List.{List}
use Prim.Native.Nat.{ℕ, zero, suc, ◌+◌, ◌≤◌, ◌<◌}
use native.Mathlib.Decide.{dec_lt, ℕ_discrete}
use native.Mathlib.Omega.{arith}
use borrow.Author.Tests.{eq-eqb, ne_eqb, le-leb, lt-leb, leb-false, eqb-true, not-false}
use lib.Dec.{eqb, leb}
use Rattle.exact.proofs.Decide.{by_cases}
use Rattle.verdict.specs.Table.{some}
use Rattle.verdict.proofs.Table.{some-no, some-none}
use Rattle.verdict.proofs.Answers.{or_none, none_or}
use Rattle.newick_text.specs.Tree.{Tree, leaf, node, Row, none, tally, row_tally, leaves_of, leaves_with}
use Rattle.newick_text.specs.Tree as trees
use Rattle.newick_text.specs.Tests.{names_wrong}

-- ---- sums over the leaves of a tree
abbrev over : (List ℕ → ℕ) → Tree → ℕ
over f t = tally f (λ _. 0) 0 t

abbrev over_row : (List ℕ → ℕ) → Row → ℕ
over_row f r = row_tally f (λ _. 0) 0 r

module _ (f g : List ℕ → ℕ) where
  mutual
    unfolding tally

    over-plus : (t : Tree) → over (λ n. f n + g n) t ≡ over f t + over g t
    over-plus (leaf n) = refl
    over-plus (node r) = let a = row-plus r in omega (arith, a)

    row-plus : (r : Row) → over_row (λ n. f n + g n) r ≡ over_row f r + over_row g r
    row-plus none = refl
    row-plus (trees.some t l r) = let a = over-plus t in let b = row-plus r in omega (arith, a, b)

  module _ (h : (n : List ℕ) → f n ≡ g n) where
    mutual
      unfolding tally

      over_cong : (t : Tree) → over f t ≡ over g t
      over_cong (leaf n) = h n
      over_cong (node r) = let a = row_cong r in omega (arith, a)

      row_cong : (r : Row) → over_row f r ≡ over_row g r
      row_cong none = refl
      row_cong (trees.some t l r) = let a = over_cong t in let b = row_cong r in omega (arith, a, b)

mutual
  unfolding tally

  over_none : (t : Tree) → over (λ _. 0) t ≡ 0
  over_none (leaf n) = refl
  over_none (node r) = let a = row-none r in omega (arith, a)

  row-none : (r : Row) → over_row (λ _. 0) r ≡ 0
  row-none none = refl
  row-none (trees.some t l r) = let a = over_none t in let b = row-none r in omega (arith, a, b)

-- ---- f 0 + f 1 + .. + f (n - 1)
pub total : ℕ → (ℕ → ℕ) → ℕ
total zero f = 0
total (suc n) f = total n f + f n

over-total : (N : ℕ) (h : ℕ → List ℕ → ℕ) (t : Tree) → over (λ n. total N (λ i. h i n)) t ≡ total N (λ i. over (h i) t)
unfolding total
over-total zero h t = over_none t
over-total (suc N) h t = over-plus (λ n. total N (λ i. h i n)) (h N) t ∙ ap (λ (x : ℕ). x + over (h N) t) (over-total N h t)

-- a number below N is one of them, and no other is
one_of : (N x : ℕ) → cond (leb N x) 1 0 + total N (λ i. cond (eqb x i) 1 0) ≡ 1
unfolding total
one_of zero x = rw (le-leb 0 x (omega arith)) (omega arith)
one_of (suc N) x =
    let ih : cond (leb N x) 1 0 + total N (λ i. cond (eqb x i) 1 0) ≡ 1 = one_of N x in
    by_cases (dec_lt x N)
    (λ lt. rw (lt-leb (suc N) x (omega arith), ne_eqb x N (λ e. omega (arith, e))) (omega (arith, ih, low lt)))
    (λ ge. let z = high (omega arith) in
    by_cases (ℕ_discrete x N)
    (λ e. rw (lt-leb (suc N) x (omega arith), eq-eqb x N e) (omega (arith, ih, z)))
    (λ n. rw (le-leb (suc N) x (omega (arith, n)), ne_eqb x N n) (omega (arith, ih, z))))
  where
    low : x < N → ◌≡◌ {A = ℕ} (cond (leb N x) 1 0) 0
    low h = rw (lt-leb N x h)

    high : N ≤ x → ◌≡◌ {A = ℕ} (cond (leb N x) 1 0) 1
    high h = rw (le-leb N x h)

-- each at least one: at least n in all; and where that is all, each is one
total-low : (n : ℕ) (f : ℕ → ℕ) → ((i : ℕ) → i < n → 1 ≤ f i) → n ≤ total n f
unfolding total
total-low zero f h = omega arith
total-low (suc n) f h = let ih = total-low n f (λ i l. h i (omega arith)) in omega (arith, ih, h n (omega arith))

total-ones : (n : ℕ) (f : ℕ → ℕ) → ((i : ℕ) → i < n → f i ≡ 1) → total n f ≡ n
unfolding total
total-ones zero f h = refl
total-ones (suc n) f h = let ih = total-ones n f (λ i l. h i (omega arith)) in omega (arith, ih, h n (omega arith))

total-one : (n : ℕ) (f : ℕ → ℕ) → ((i : ℕ) → i < n → 1 ≤ f i) → total n f ≤ n → (i : ℕ) → i < n → f i ≡ 1
unfolding total
total-one zero f h e i l = absurd (omega arith)
total-one (suc n) f h e i l =
    let low = total-low n f (λ j k. h j (omega arith)) in
    let ih = total-one n f (λ j k. h j (omega arith)) (omega (arith, e, h n (omega arith))) in
    by_cases (ℕ_discrete i n)
    (λ same. ap f same ∙ omega (arith, e, low, h n (omega arith)))
    (λ other. ih i (omega (arith, other)))

-- ---- names
module _ (find : List ℕ → ℕ) (N : ℕ) where
  abbrev unknown : Tree → ℕ
  unknown t = leaves_with (λ n. leb N (find n)) t

  abbrev pub uses_of : ℕ → Tree → ℕ
  uses_of i t = leaves_with (λ n. eqb (find n) i) t

  -- every leaf has a name that is unknown or one of N
  pub parted : (t : Tree) → leaves_of t ≡ unknown t + total N (λ i. uses_of i t)
  parted t =
      over_cong (λ _. 1) (λ n. cond (leb N (find n)) 1 0 + total N (λ i. cond (eqb (find n) i) 1 0)) (λ n. sym (one_of N (find n))) t
      ∙ over-plus (λ n. cond (leb N (find n)) 1 0) (λ n. total N (λ i. cond (eqb (find n) i) 1 0)) t
      ∙ ap (λ (x : ℕ). unknown t + x) (over-total N (λ i n. cond (eqb (find n) i) 1 0) t)

  module _ (r : Row) where
    pub names-right : leaves_of (node r) ≡ N → ((i : ℕ) → i < N → 1 ≤ uses_of i (node r)) → names_wrong find N r ≡ false
    names-right e h =
        let low = total-low N (λ i. uses_of i (node r)) h in
        let p = parted (node r) in
        let u : unknown (node r) ≡ 0 = omega (arith, e, low, p) in
        let o = total-one N (λ i. uses_of i (node r)) h (omega (arith, e, p)) in
        none_or (ap (leb 1) u) (some-no N _ (λ i l. ap not (eq-eqb (uses_of i (node r)) 1 (o i l))))

    -- used once each, and nothing else used
    pub names-once : names_wrong find N r ≡ false → (leaves_of (node r) ≡ N) × ((i : ℕ) → i < N → uses_of i (node r) ≡ 1)
    names-once h =
        let p = or_none (leb 1 (unknown (node r))) (some N (λ i. not (eqb (uses_of i (node r)) 1))) h in
        let o : (i : ℕ) → i < N → uses_of i (node r) ≡ 1 = λ i l. eqb-true (uses_of i (node r)) 1 (not-false (eqb (uses_of i (node r)) 1) (some-none N (λ j. not (eqb (uses_of j (node r)) 1)) p.1 i l)) in
        let u : unknown (node r) < 1 = leb-false 1 (unknown (node r)) p.0 in
        let e : total N (λ i. uses_of i (node r)) ≡ N = total-ones N (λ i. uses_of i (node r)) o in
        (omega (arith, parted (node r), u, e), o)

    names_not : (names_wrong find N r ≡ false → ⊥) → names_wrong find N r ≡ true
    names_not n = go (names_wrong find N r) refl
      where
        go : (b : Bool) → names_wrong find N r ≡ b → b ≡ true
        go true e = refl
        go false e = absurd (n e)

    pub names-many : (leaves_of (node r) ≡ N → ⊥) → names_wrong find N r ≡ true
    names-many n = names_not (λ h. n (names-once h).0)

    pub names-missing : (i : ℕ) → i < N → uses_of i (node r) ≡ 0 → names_wrong find N r ≡ true
    names-missing i l e = names_not (λ h. omega (arith, e, (names-once h).1 i l))
