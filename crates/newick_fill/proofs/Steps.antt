-- One vertex and one child at a time, over plain lists: what each step of the filling gives, of every vertex and every children that may
-- stand at the place.
use mathlib.Core.Path.{◌≡◌, refl, sym, ◌∙◌, ap, ap₂}
use mathlib.Core.Bool.{true}
use mathlib.Core.List.{List, ◌∷◌, ◌++◌}
use Prim.Native.Nat.{ℕ, suc, ◌+◌, ◌-◌, ◌<◌, ◌≤◌}
use native.Mathlib.Numerals.{add-one}
use native.Mathlib.Omega.{arith}
use lib.IntN.{ℤ, nat_abs}
use lib.ListN.{length, drop, take, get_or, set}
use lib.Seq.{take_at, drop_at, drop-drop}
use mir.Syntax.{w64}
use mir.Val.{to_z, of_z}
use Rattle.exact.proofs.Sign.{back}
use Rattle.digits.proofs.Reading.{inside}
use Rattle.names.specs.Name.{is_name}
use Rattle.newick_text.specs.Length.{length_there, length_size, value_of}
use Rattle.newick_text.specs.Tree.{Tree, leaf, node, Row, none, some, text_then, row_then, Formed, RowFormed}
use Rattle.newick_text.specs.Table.{after, row_after, number_of, filled, row_filled}
use Rattle.newick_text.proofs.Lengths.{length-then}
use Rattle.newick_text.proofs.Unique.{colon-ends, name-told, no_bracket, row-stops}
use Rattle.newick_words.specs.Words.{name_width, cut}
use Rattle.newick_words.proofs.Words.{cut_small}
use Rattle.newick_words.proofs.Edges.{byte-is, first-is, rest-is, name-known}
use Rattle.newick_fill.specs.declared.Step.{Step}
use Rattle.newick_fill.specs.Fill.{byte_of, parent_entry, length_entry, ahead, Vertex, Children, Took, TookAll}

-- a cut length comes back from its bits
pub stored : (z w : ℤ) → z ≡ cut w → to_z w64 (of_z w64 z) ≡ cut w
stored z w e = back z (omega (arith, ap nat_abs e, cut_small w)) ∙ e

-- ---- the two kinds of vertices, by the byte at their place
record Opened (s : List ℕ) (a : ℕ) (t : Tree) (rest : List ℕ) : Type 0 where
  kids : Children s (a + 1)
  is : t ≡ node (some kids.first kids.word kids.others)
  same : kids.rest ≡ rest

record Named (s : List ℕ) (a : ℕ) (t : Tree) (rest : List ℕ) : Type 0 where
  word : List ℕ
  is : t ≡ leaf word
  name : is_name word ≡ true
  text : drop a s ≡ word ++ rest

opened : (s : List ℕ) (a : ℕ) → get_or s a 0 ≡ 40 → (t : Tree) (m : ℕ) (rest : List ℕ) → Formed t m → drop a s ≡ text_then t rest → Opened s a t rest
unfolding Formed text_then
opened s a h (leaf n) m rest f e = absurd (no_bracket n rest _ f (sym e ∙ byte-is s a 39 h))
opened s a h (node none) m rest f e = absurd f.1
opened s a h (node (some t w r)) m rest f e = record {
  kids = record { first = t; word = w; others = r; room = m - 1; rest = rest; formed = f.2; text = rest-is s a 40 _ e };
  is = refl;
  same = refl;
}

named : (s : List ℕ) (a : ℕ) → (get_or s a 0 ≡ 40 → ⊥) → (t : Tree) (m : ℕ) (rest : List ℕ) → Formed t m → drop a s ≡ text_then t rest → Named s a t rest
unfolding Formed text_then
named s a h (leaf n) m rest f e = record { word = n; is = refl; name = f; text = e }
named s a h (node none) m rest f e = absurd f.1
named s a h (node (some t w r)) m rest f e = absurd (h (first-is s a 40 _ e))

-- children behind others, by the byte at j: a comma
record More (s : List ℕ) (j : ℕ) (o : Row) (rest : List ℕ) : Type 0 where
  kids : Children s (j + 1)
  is : o ≡ some kids.first kids.word kids.others
  same : kids.rest ≡ rest
  comma : get_or s j 0 ≡ 44

more_of : (s : List ℕ) (j : ℕ) → (get_or s j 0 ≡ 41 → ⊥) → (o : Row) (m : ℕ) (rest : List ℕ) → RowFormed o m → drop j s ≡ row_then o 44 rest → More s j o rest
unfolding row_then RowFormed
more_of s j h none m rest f e = absurd (h (first-is s j 41 rest e))
more_of s j h (some t w o) m rest f e = record {
  kids = record { first = t; word = w; others = o; room = m; rest = rest; formed = f; text = rest-is s j 44 _ e };
  is = refl;
  same = refl;
  comma = first-is s j 44 _ e;
}

-- or none, and a bracket
last_of : (s : List ℕ) (j : ℕ) → get_or s j 0 ≡ 41 → (o : Row) (rest : List ℕ) → drop j s ≡ row_then o 44 rest → (o ≡ none) × (drop (j + 1) s ≡ rest)
unfolding row_then
last_of s j h none rest e = (refl, rest-is s j 41 rest e)
last_of s j h (some t w o) rest e = absurd (let z = first-is s j 44 _ e in omega (arith, z, h))

module _ (find : List ℕ → ℕ) (s : List ℕ) (a k : ℕ) (p q : List ℕ) (x y : List ℤ) where
  -- ---- a bracket: by its children
  module _ (h : get_or s a 0 ≡ 40) where
    pub bracket_kids : Vertex s a → Children s (a + 1)
    bracket_kids v = (opened s a h v.tree v.room v.rest v.formed v.text).kids

    pub took_bracket : (r : Step) → ((c : Children s (a + 1)) → TookAll find s (a + 1) k p q x y r c) → (v : Vertex s a) → Took find s a k p q x y r v
    unfolding number_of after filled
    took_bracket r f v =
        let o = opened s a h v.tree v.room v.rest v.formed v.text in
        let w = f o.kids in
        record {
          behind = w.behind ∙ o.same;
          onward = omega (arith, w.onward);
          within = w.within;
          number = w.number ∙ sym (ap (λ (t : Tree). number_of find t k) o.is);
          next = w.next ∙ ap suc w.number ∙ sym (ap (λ (t : Tree). after t k) o.is);
          small = w.small;
          parents = w.parents ∙ ap (λ (n : ℕ). row_filled find parent_entry (some o.kids.first o.kids.word o.kids.others) n k p) w.number ∙ sym (ap (λ (t : Tree). filled find parent_entry t k p) o.is);
          numerators = w.numerators ∙ ap (λ (n : ℕ). row_filled find length_entry (some o.kids.first o.kids.word o.kids.others) n k x) w.number ∙ sym (ap (λ (t : Tree). filled find length_entry t k x) o.is);
        }

  -- ---- a name, up to e
  module _ (h : get_or s a 0 ≡ 40 → ⊥) (e : ℕ) (is : e ≡ a + name_width (drop a s)) (within : e ≤ length s) where
    pub took-name : (z : ℕ) → z ≡ find (take (e - a) (drop a s)) → p ≡ q → x ≡ y → k ≤ a + ahead → (v : Vertex s a) → Took find s a k p q x y (record { end = e; number = z; next = k }) v
    unfolding number_of after filled
    took-name z f ep ex b v =
        let n = named s a h v.tree v.room v.rest v.formed v.text in
        let e_is : e ≡ a + length n.word = name-known s a e is n.word v.rest n.name v.stop n.text in
        let behind : drop e s ≡ v.rest = ap (λ (i : ℕ). drop i s) e_is ∙ sym (drop-drop (length n.word) a s) ∙ ap (drop (length n.word)) n.text ∙ drop_at n.word v.rest (length n.word) refl in
        let long : e - a ≡ length n.word = omega (arith, e_is) in
        let word : take (e - a) (drop a s) ≡ n.word = ap₂ (λ (i : ℕ) (l : List ℕ). take i l) long n.text ∙ take_at n.word v.rest (length n.word) refl in
        record {
          behind = behind;
          onward = omega (arith, e_is, (name-told n.word n.name).some_byte);
          within = within;
          number = f ∙ ap find word ∙ sym (ap (λ (t : Tree). number_of find t k) n.is);
          next = sym (ap (λ (t : Tree). after t k) n.is);
          small = omega (arith, e_is);
          parents = sym ep ∙ sym (ap (λ (t : Tree). filled find parent_entry t k p) n.is);
          numerators = sym ex ∙ sym (ap (λ (t : Tree). filled find length_entry t k x) n.is);
        }

  -- ---- children: the first
  pub first-child : Children s a → Vertex s a
  unfolding RowFormed
  first-child c = record {
    tree = c.first;
    room = c.room;
    rest = 58 ∷ (c.word ++ row_then c.others 44 c.rest);
    formed = c.formed.0;
    stop = colon-ends (c.word ++ row_then c.others 44 c.rest);
    text = c.text;
  }

  -- it was read, and r is what is known behind it
  module _ (r : Step) (f : (v : Vertex s a) → Took find s a k p q x y r v) where
    took : (c : Children s a) → Took find s a k p q x y r (first-child c)
    took c = f (first-child c)

    colon : (c : Children s a) → drop r.end s ≡ 58 ∷ (c.word ++ row_then c.others 44 c.rest)
    unfolding first-child
    colon c = (took c).behind

    word-there : (c : Children s a) → drop (r.end + 1) s ≡ c.word ++ row_then c.others 44 c.rest
    word-there c = rest-is s r.end 58 _ (colon c)

    -- a colon and a length are behind it
    pub length-stands : Children s a → (r.end + 1 ≤ length s) × (length_there (drop (r.end + 1) s) ≡ true)
    unfolding RowFormed
    length-stands c =
        let b = inside s r.end 57 (first-is s r.end 58 _ (colon c)) in
        (omega (arith, b), ap length_there (word-there c) ∙ (length-then c.word (row_then c.others 44 c.rest) c.formed.1 (row-stops c.others c.rest)).there)

    value-is : (c : Children s a) → value_of (drop (r.end + 1) s) ≡ value_of c.word
    unfolding RowFormed
    value-is c = ap value_of (word-there c) ∙ (length-then c.word (row_then c.others 44 c.rest) c.formed.1 (row-stops c.others c.rest)).value

    -- its length ends at j
    module _ (j : ℕ) (is : j ≡ r.end + 1 + length_size (drop (r.end + 1) s)) where
      edge-is : (c : Children s a) → j ≡ r.end + (1 + length c.word)
      unfolding RowFormed
      edge-is c = omega (arith, is, ap length_size (word-there c), (length-then c.word (row_then c.others 44 c.rest) c.formed.1 (row-stops c.others c.rest)).size)

      rest-there : (c : Children s a) → drop j s ≡ row_then c.others 44 c.rest
      rest-there c =
          let z : j ≡ r.end + 1 + length c.word = omega (arith, edge-is c) in
          ap (λ (i : ℕ). drop i s) z ∙ sym (drop-drop (length c.word) (r.end + 1) s) ∙ ap (drop (length c.word)) (word-there c) ∙ drop_at c.word (row_then c.others 44 c.rest) (length c.word) refl

      -- the bracket closes there
      module _ (h : get_or s j 0 ≡ 41) where
        pub took-last : (z : ℤ) → z ≡ cut (value_of (drop (r.end + 1) s)) → (g : List ℕ) (w : List ℤ)
            → g ≡ set q r.number (byte_of r.next) → w ≡ set y r.number z → (c : Children s a)
            → TookAll find s a k p g x w (record { end = j + 1; number = r.next; next = r.next + 1 }) c
        unfolding row_after row_filled first-child
        took-last z ez g w eg ew c =
            let t = took c in
            let l = last_of s j h c.others c.rest (rest-there c) in
            let b = inside s j 40 h in
            let num : r.next ≡ row_after (some c.first c.word c.others) k = t.next ∙ sym (ap (λ (o : Row). row_after o (after c.first k)) l.0) in
            record {
              behind = l.1;
              onward = omega (arith, t.onward, edge-is c);
              within = omega (arith, b);
              number = num;
              next = add-one r.next;
              small = omega (arith, t.small, edge-is c);
              parents = eg ∙ ap₂ (λ (l : List ℕ) (i : ℕ). set l i (byte_of r.next)) t.parents t.number
                  ∙ sym (ap (λ (o : Row). set (row_filled find parent_entry o r.next (after c.first k) (filled find parent_entry c.first k p)) (number_of find c.first k) (byte_of r.next)) l.0);
              numerators = ew ∙ ap₂ (λ (l : List ℤ) (i : ℕ). set l i z) t.numerators t.number
                  ∙ ap (λ (i : ℤ). set (filled find length_entry c.first k x) (number_of find c.first k) i) (ez ∙ ap cut (value-is c))
                  ∙ sym (ap (λ (o : Row). set (row_filled find length_entry o r.next (after c.first k) (filled find length_entry c.first k x)) (number_of find c.first k) (cut (value_of c.word))) l.0);
            }

      -- others follow
      module _ (h : get_or s j 0 ≡ 41 → ⊥) where
        others : (c : Children s a) → More s j c.others c.rest
        unfolding RowFormed
        others c = more_of s j h c.others c.room c.rest c.formed.2 (rest-there c)

        pub other-kids : Children s a → Children s (j + 1)
        other-kids c = (others c).kids

        -- they stand further on in the text
        pub others-within : Children s a → (a < j) × (j + 1 ≤ length s) × (r.next ≤ j + 1 + ahead)
        others-within c =
            let b = inside s j 43 (others c).comma in
            (omega (arith, (took c).onward, edge-is c), omega (arith, b), omega (arith, (took c).small, edge-is c))

        pub took_more : (z : ℤ) → z ≡ cut (value_of (drop (r.end + 1) s)) → (f g : List ℕ) (v w : List ℤ) (o : Step)
            → ((c : Children s (j + 1)) → TookAll find s (j + 1) r.next q f y v o c) → g ≡ set f r.number (byte_of o.number) → w ≡ set v r.number z
            → (c : Children s a) → TookAll find s a k p g x w o c
        unfolding row_after row_filled first-child
        took_more z ez f g v w o e eg ew c =
            let t = took c in
            let m = others c in
            let n = e m.kids in
            let row = some m.kids.first m.kids.word m.kids.others in
            record {
              behind = n.behind ∙ m.same;
              onward = omega (arith, t.onward, n.onward, edge-is c);
              within = n.within;
              number = n.number ∙ ap (row_after row) t.next ∙ sym (ap (λ (l : Row). row_after l (after c.first k)) m.is);
              next = n.next;
              small = n.small;
              parents = eg ∙ ap₂ (λ (l : List ℕ) (i : ℕ). set l i (byte_of o.number)) (n.parents ∙ ap₂ (λ (i : ℕ) (l : List ℕ). row_filled find parent_entry row o.number i l) t.next t.parents) t.number
                  ∙ sym (ap (λ (l : Row). set (row_filled find parent_entry l o.number (after c.first k) (filled find parent_entry c.first k p)) (number_of find c.first k) (byte_of o.number)) m.is);
              numerators = ew ∙ ap₂ (λ (l : List ℤ) (i : ℕ). set l i z) (n.numerators ∙ ap₂ (λ (i : ℕ) (l : List ℤ). row_filled find length_entry row o.number i l) t.next t.numerators) t.number
                  ∙ ap (λ (i : ℤ). set (row_filled find length_entry row o.number (after c.first k) (filled find length_entry c.first k x)) (number_of find c.first k) i) (ez ∙ ap cut (value-is c))
                  ∙ sym (ap (λ (l : Row). set (row_filled find length_entry l o.number (after c.first k) (filled find length_entry c.first k x)) (number_of find c.first k) (cut (value_of c.word))) m.is);
            }
