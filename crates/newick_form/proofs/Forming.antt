-- The form, with the vertices of a bracket in a loop. The loop's invariant is an equivalence (`Rest`): a vertex stands from a on exactly
-- where children and a closing bracket stand from i on.
use mathlib.Core.Path.{◌≡◌, refl, sym, ◌∙◌, ap}
use mathlib.Core.Bool.{Bool, true, false}
use mathlib.Core.List.{List, [], ◌∷◌, ◌++◌}
use Prim.Native.Nat.{ℕ, ◌+◌, ◌-◌, ◌<◌, ◌≤◌}
use native.Mathlib.Omega.{arith}
use borrow.Author.Tests.{eqb-true, eqb-false}
use lib.Dec.{eqb}
use lib.ListN.{length, drop, get_or, length-drop}
use lib.Seq.{drop-length}
use Rattle.digits.specs.Digits.{run}
use Rattle.digits.proofs.Reading.{inside}
use Rattle.names.specs.Name.{is_name_byte, is_name}
use Rattle.newick_text.specs.Tree.{Tree, leaf, node, Row, none, some, text_then, row_then, Formed, RowFormed, Text, max_open, max_text}
use Rattle.newick_text.proofs.Runs.{append-same}
use Rattle.newick_text.proofs.Lengths.{same_length}
use Rattle.newick_text.proofs.Unique.{colon-ends, semicolon_ends, same_name, no_bracket, row-stops, same_row}
use Rattle.newick_words.specs.Words.{name_width, edge_width}
use Rattle.newick_words.proofs.Edges.{byte-is, first-is, rest-is, NameAt, name-at, no_name, EdgeAt, edge_at, no_edge}
use Rattle.newick_form.specs.Form.{Stands, FormRead, Found, TextRead}
use Rattle.std.specs.Prelude.{None}

-- ---- the two ways in which a formed vertex begins: with a name, or with a bracket and children
pub data Begins (l : List ℕ) (m : ℕ) (k : List ℕ) : Type 0 where
  named : (n : List ℕ) → is_name n ≡ true → l ≡ n ++ k → Begins l m k
  opened : (t : Tree) (w : List ℕ) (r : Row) → 0 < m → l ≡ row_then (some t w r) 40 k → RowFormed (some t w r) (m - 1) → Begins l m k

pub begin_of : (t : Tree) (l : List ℕ) (m : ℕ) (k : List ℕ) → Formed t m → l ≡ text_then t k → Begins l m k
unfolding Formed text_then
begin_of (leaf n) l m k f e = named n f e
begin_of (node none) l m k f e = absurd f.1
begin_of (node (some t w r)) l m k f e = opened t w r f.0 e f.2

-- the text of children begins with its lead
row_first : (t : Tree) (w : List ℕ) (r : Row) (lead : ℕ) (k : List ℕ) → row_then (some t w r) lead k ≡ lead ∷ text_then t (58 ∷ (w ++ row_then r 44 k))
unfolding row_then
row_first t w r lead k = refl

module _ (s : List ℕ) (a m : ℕ) where
  -- ---- no bracket at a: a name, or nothing
  module _ (bare : get_or s a 0 ≡ 40 → ⊥) (e : ℕ) (is : e ≡ a + name_width (drop a s)) where
    pub no_vertex : e ≡ a → FormRead s a m None
    no_vertex same t k f stop g = go (begin_of t (drop a s) m k f g)
      where
        go : Begins (drop a s) m k → ⊥
        go (named n h x) = no_name s a e is same n k h stop x
        go (opened u w r p x q) = bare (first-is s a 40 _ (x ∙ row_first u w r 40 k))

    pub a-name : (e ≡ a → ⊥) → e ≤ length s → Stands s a m e
    unfolding Formed text_then
    a-name some' fits = let n = name-at s a e is some' in
        record {
          tree = leaf n.word;
          text = n.text;
          formed = n.name;
          only = λ t o k f stop g. go n k stop (begin_of t (drop a s) o k f g);
          onward = omega (arith, is, some');
          within = fits;
        }
      where
        go : (n : NameAt s a e) (k : List ℕ) {o : ℕ} → run is_name_byte k ≡ 0 → Begins (drop a s) o k → k ≡ drop e s
        go n k stop (named w h x) = (same_name w n.word k (drop e s) h n.name stop n.stop (sym x ∙ n.text)).1
        go n k stop (opened u w r p x q) = absurd (bare (first-is s a 40 _ (x ∙ row_first u w r 40 k)))

  -- ---- a bracket at a
  module _ (here : get_or s a 0 ≡ 40) where
    -- where two begin there, what is behind them is the same
    same-behind : (t u : Tree) (n o : ℕ) (k l : List ℕ) → Formed t n → Formed u o → drop a s ≡ text_then t k → drop a s ≡ text_then u l → k ≡ l
    same-behind t u n o k l f g x y = go (begin_of t (drop a s) n k f x) (begin_of u (drop a s) o l g y)
      where
        go : Begins (drop a s) n k → Begins (drop a s) o l → k ≡ l
        go (named w h e) b = absurd (no_bracket w k _ h (sym e ∙ byte-is s a 39 here))
        go (opened v w r p e q) (named z h i) = absurd (no_bracket z l _ h (sym i ∙ byte-is s a 39 here))
        go (opened v w r p e q) (opened z y x i j c) = (same_row (some v w r) (some z y x) (n - 1) (o - 1) 40 k l q c (λ h. omega (arith, h)) (sym e ∙ j)).1

    pub too_deep : m ≡ 0 → FormRead s a m None
    too_deep none_left t k f stop g = go (begin_of t (drop a s) m k f g)
      where
        go : Begins (drop a s) m k → ⊥
        go (named w h e) = no_bracket w k _ h (sym e ∙ byte-is s a 39 here)
        go (opened u w r p e q) = omega arith

-- ---- children from i on, and a vertex from a on, with k behind the bracket
pub record Kids (s : List ℕ) (i m : ℕ) (k : List ℕ) : Type 0 where
  pub first : Tree
  pub word : List ℕ
  pub others : Row
  pub text : drop i s ≡ text_then first (58 ∷ (word ++ row_then others 44 k))
  pub formed : RowFormed (some first word others) (m - 1)

pub record Vertex (s : List ℕ) (a m : ℕ) (k : List ℕ) : Type 0 where
  pub tree : Tree
  pub text : drop a s ≡ text_then tree k
  pub formed : Formed tree m

pub record Rest (s : List ℕ) (a m i : ℕ) : Type 0 where
  pub here : get_or s a 0 ≡ 40
  pub onward : a < i
  pub within : i ≤ length s
  pub forth : (k : List ℕ) → Vertex s a m k → Kids s i m k
  pub back : (k : List ℕ) → Kids s i m k → Vertex s a m k

-- the bracket opens
pub opens : (s : List ℕ) (a m : ℕ) → get_or s a 0 ≡ 40 → 0 < m → Rest s a m (a + 1)
unfolding text_then row_then Formed
opens s a m o z = record {
  here = o;
  onward = omega arith;
  within = let i = inside s a 39 o in omega (arith, i);
  forth = λ k x. go k (begin_of x.tree (drop a s) m k x.formed x.text);
  back = λ k x. record {
    tree = node (some x.first x.word x.others);
    text = byte-is s a 39 o ∙ ap (λ (l : List ℕ). 40 ∷ l) x.text;
    formed = (z, tt, x.formed);
  };
}
  where
    go : (k : List ℕ) → Begins (drop a s) m k → Kids s (a + 1) m k
    go k (named w h e) = absurd (no_bracket w k _ h (sym e ∙ byte-is s a 39 o))
    go k (opened t w r p e q) = record { first = t; word = w; others = r; text = rest-is s a 40 _ e; formed = q }

-- in a turn: from i on a child was sought
module _ (s : List ℕ) (a m i : ℕ) (w : Rest s a m i) where
  -- there is none
  pub no-child : FormRead s i (m - 1) None → FormRead s a m None
  unfolding RowFormed
  no-child n t k f stop e =
      let x = w.forth k (record { tree = t; text = e; formed = f }) in
      n x.first (58 ∷ (x.word ++ row_then x.others 44 k)) x.formed.0 (colon-ends _) x.text

  -- it ends at e
  module _ (e : ℕ) (c : Stands s i (m - 1) e) (j : ℕ) (is : j ≡ e + edge_width (drop e s)) where
    edge-text : (k : List ℕ) (x : Kids s i m k) → 58 ∷ (x.word ++ row_then x.others 44 k) ≡ drop e s
    unfolding RowFormed
    edge-text k x = c.only x.first (m - 1) (58 ∷ (x.word ++ row_then x.others 44 k)) x.formed.0 (colon-ends _) x.text

    -- and no length behind it
    pub edgeless : j ≡ e → FormRead s a m None
    unfolding RowFormed
    edgeless same t k f stop g =
        let x = w.forth k (record { tree = t; text = g; formed = f }) in
        no_edge s e j is same x.word (row_then x.others 44 k) x.formed.1 (row-stops x.others k) (sym (edge-text k x))

    -- its length ends at j
    module _ (some' : j ≡ e → ⊥) where
      edge : EdgeAt s e j
      edge = edge_at s e j is some'

      -- in any reading that length is the child's, and the same is behind it
      edge_same : (k : List ℕ) (x : Kids s i m k) → row_then x.others 44 k ≡ drop j s
      unfolding RowFormed
      edge_same k x =
          let z = edge-text k x ∙ edge.text in
          let y : x.word ++ row_then x.others 44 k ≡ edge.word ++ drop j s = cc in
          (append-same x.word edge.word (row_then x.others 44 k) (drop j s)
          (same_length x.word edge.word (row_then x.others 44 k) (drop j s) x.formed.1 edge.long (row-stops x.others k) edge.stop y) y).1

      child-text : (l : List ℕ) → drop j s ≡ l → drop i s ≡ text_then c.tree (58 ∷ (edge.word ++ l))
      child-text l h = c.text ∙ ap (text_then c.tree) (edge.text ∙ ap (λ (x : List ℕ). 58 ∷ (edge.word ++ x)) h)

      pub child-other : (get_or s j 0 ≡ 41 → ⊥) → (get_or s j 0 ≡ 44 → ⊥) → FormRead s a m None
      unfolding row_then
      child-other p q t k f stop g = let x = w.forth k (record { tree = t; text = g; formed = f }) in go x.others (edge_same k x)
        where
          go : (r : Row) → row_then r 44 k ≡ drop j s → ⊥
          go none h = p (first-is s j 41 _ (sym h))
          go (some u v r) h = q (first-is s j 44 _ (sym h))

      pub closes_at : get_or s j 0 ≡ 41 → Stands s a m (j + 1)
      unfolding row_then RowFormed
      closes_at p =
          let x = w.back (drop (j + 1) s) (record { first = c.tree; word = edge.word; others = none; text = child-text (41 ∷ drop (j + 1) s) (byte-is s j 40 p); formed = (c.formed, edge.long, tt) }) in
          let b = inside s j 40 p in
          record {
            tree = x.tree;
            text = x.text;
            formed = x.formed;
            only = λ t n k f stop g. same-behind s a m w.here t x.tree n m k (drop (j + 1) s) f x.formed g x.text;
            onward = omega (arith, w.onward, c.onward, edge.size);
            within = omega (arith, b);
          }

      pub comma : get_or s j 0 ≡ 44 → Rest s a m (j + 1)
      unfolding row_then RowFormed
      comma p = let b = inside s j 43 p in
          record {
            here = w.here;
            onward = omega (arith, w.onward, c.onward, edge.size);
            within = omega (arith, b);
            forth = λ k x. let y = w.forth k x in go k y.others (edge_same k y) y.formed.2;
            back = λ k x. w.back k (record {
              first = c.tree;
              word = edge.word;
              others = some x.first x.word x.others;
              text = child-text (44 ∷ text_then x.first (58 ∷ (x.word ++ row_then x.others 44 k))) (byte-is s j 43 p ∙ ap (λ (l : List ℕ). 44 ∷ l) x.text);
              formed = (c.formed, edge.long, x.formed);
            });
          }
        where
          go : (k : List ℕ) (r : Row) → row_then r 44 k ≡ drop j s → RowFormed r (m - 1) → Kids s (j + 1) m k
          go k none h l = absurd (let z = first-is s j 41 _ (sym h) in omega (arith, z, p))
          go k (some t u r) h l = record { first = t; word = u; others = r; text = rest-is s j 44 _ (sym h); formed = l }

-- ---- a whole text
module _ (s : List ℕ) where
  pub text-bare : (get_or s 0 0 ≡ 40 → ⊥) → TextRead s false
  unfolding Formed
  text-bare bare none x = x.formed.1
  text-bare bare (some t w r) x = bare (first-is s 0 40 _ (x.text ∙ row_first t w r 40 (59 ∷ [])))

  pub text-formless : FormRead s 0 max_open None → TextRead s false
  unfolding text_then
  text-formless n r x = n (node r) (59 ∷ []) x.formed semicolon_ends x.text

  -- a vertex begins it, up to e
  module _ (e : ℕ) (v : Stands s 0 max_open e) where
    left : (r : Row) → Text s r → 59 ∷ [] ≡ drop e s
    unfolding text_then
    left r x = v.only (node r) max_open (59 ∷ []) x.formed semicolon_ends x.text

    pub text_unended : (get_or s e 0 ≡ 59 → ⊥) → TextRead s false
    text_unended n r x = n (first-is s e 59 [] (sym (left r x)))

    module _ (here : get_or s 0 0 ≡ 40) (short : length s ≤ max_text) (ends : get_or s e 0 ≡ 59) where
      more : (e + 1 ≡ length s → ⊥) → TextRead s false
      more n r x =
          let z : 1 ≡ length (drop e s) = ap length (left r x) in
          let b = inside s e 58 ends in
          n (omega (arith, z, length-drop e s, b))

      whole : e + 1 ≡ length s → Found s
      unfolding text_then Formed
      whole h = go v.tree v.text v.formed
        where
          last : drop e s ≡ 59 ∷ []
          last = byte-is s e 58 ends ∙ ap (λ (l : List ℕ). 59 ∷ l) (ap (λ (n : ℕ). drop n s) h ∙ drop-length s)

          go : (t : Tree) → drop 0 s ≡ text_then t (drop e s) → Formed t max_open → Found s
          go (leaf n) x f = absurd (no_bracket n (drop e s) _ f (sym x ∙ byte-is s 0 39 here))
          go (node r) x f = record { row = r; text = record { short = short; text = x ∙ ap (row_then r 40) last; formed = f } }

      pub text-ends : TextRead s (eqb (e + 1) (length s))
      text-ends = go (eqb (e + 1) (length s)) refl
        where
          go : (b : Bool) → eqb (e + 1) (length s) ≡ b → TextRead s b
          go true h = whole (eqb-true (e + 1) (length s) h)
          go false h = more (eqb-false (e + 1) (length s) h)
