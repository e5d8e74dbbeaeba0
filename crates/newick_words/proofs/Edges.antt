-- A name, and a length behind its colon, from one place of a text to another: what stands there where they are found, and that nothing of
-- the kind stands there where they are not.
use mathlib.Core.Path.{◌≡◌, refl, sym, ◌∙◌, ap, ap₂}
use mathlib.Core.Bool.{Bool, true, false, cond, ◌&&◌}
use mathlib.Core.List.{List, ◌∷◌, ◌++◌}
use Prim.Native.Nat.{ℕ, suc, ◌+◌, ◌≤◌, ◌<◌}
use native.Mathlib.Decide.{dec_lt}
use native.Mathlib.Numerals.{add-one}
use native.Mathlib.Omega.{arith}
use borrow.Author.Tests.{le-leb, lt-leb, eq-eqb, eqb-true}
use lib.Dec.{eqb}
use lib.ListN.{length, get_or, take, drop, take-append-drop}
use lib.Seq.{drop-cons, drop-drop, length-take-le}
use Rattle.exact.proofs.Decide.{by_cases}
use Rattle.digits.specs.Digits.{run, is_digit}
use Rattle.digits.proofs.Reading.{both_true, inside}
use Rattle.names.specs.Name.{max_name, is_name_byte, is_name}
use Rattle.newick_text.specs.Length.{length_there, length_size, is_length}
use Rattle.newick_text.proofs.Runs.{run_take, run-behind, run-within}
use Rattle.newick_text.proofs.Lengths.{length-then, length_front}
use Rattle.newick_text.proofs.Unique.{name-told, name-ends}
use Rattle.newick_words.specs.Words.{name_width, edge_width}
use Rattle.newick_words.proofs.Words.{front-byte}

-- ---- the byte at a place
pub byte_at : (s : List ℕ) (a : ℕ) → a < length s → drop a s ≡ get_or s a 0 ∷ drop (a + 1) s
byte_at s a h = drop-cons s a 0 h ∙ ap (λ (i : ℕ). get_or s a 0 ∷ drop i s) (sym (add-one a))

-- a byte that is not 0, and what is behind it
pub byte-is : (s : List ℕ) (a x : ℕ) → get_or s a 0 ≡ suc x → drop a s ≡ suc x ∷ drop (a + 1) s
byte-is s a x e = byte_at s a (inside s a x e) ∙ ap (λ (b : ℕ). b ∷ drop (a + 1) s) e

pub first-is : (s : List ℕ) (a b : ℕ) (l : List ℕ) → drop a s ≡ b ∷ l → get_or s a 0 ≡ b
first-is s a b l e = sym (front-byte s a) ∙ ap (λ (m : List ℕ). get_or m 0 0) e

pub rest-is : (s : List ℕ) (a b : ℕ) (l : List ℕ) → drop a s ≡ b ∷ l → drop (a + 1) s ≡ l
rest-is s a b l e = sym (drop-drop 1 a s) ∙ ap (drop 1) e

-- ---- a name from a to e
pub record NameAt (s : List ℕ) (a e : ℕ) : Type 0 where
  pub word : List ℕ
  pub name : is_name word ≡ true
  pub text : drop a s ≡ word ++ drop e s
  pub stop : run is_name_byte (drop e s) ≡ 0
  pub size : e ≡ a + length word

-- how wide a name is, by the bytes of names at the front
width_of : (l : List ℕ) → run is_name_byte l ≤ max_name → name_width l ≡ run is_name_byte l
unfolding name_width
width_of l h = rw (le-leb (run is_name_byte l) max_name h)

width_none : (l : List ℕ) → max_name < run is_name_byte l → name_width l ≡ 0
unfolding name_width
width_none l h = rw (lt-leb (run is_name_byte l) max_name h)

module _ (s : List ℕ) (a e : ℕ) (is : e ≡ a + name_width (drop a s)) where
  abbrev l : List ℕ
  l = drop a s

  abbrev w : ℕ
  w = run is_name_byte l

  pub name-at : (e ≡ a → ⊥) → NameAt s a e
  unfolding is_name
  name-at some =
      let few : w ≤ max_name = by_cases (dec_lt max_name w) (λ h. absurd (some (omega (arith, is, width_none l h)))) (λ h. omega arith) in
      let e_is : e ≡ a + w = omega (arith, is, width_of l few) in
      let long : length (take w l) ≡ w = length-take-le w l (run-within is_name_byte l) in
      let whole : run is_name_byte (take w l) ≡ length (take w l) = run_take is_name_byte l ∙ sym long in
      let behind : drop w l ≡ drop e s = drop-drop w a s ∙ ap (λ (n : ℕ). drop n s) (sym e_is) in
      record {
        word = take w l;
        name = ap₂ (λ (x y : Bool). x && y) (le-leb 1 (length (take w l)) (omega (arith, long, e_is, some)))
            (ap₂ (λ (x y : Bool). x && y) (le-leb (length (take w l)) max_name (omega (arith, long))) (eq-eqb _ _ whole));
        text = sym (take-append-drop w l) ∙ ap (λ (m : List ℕ). take w l ++ m) behind;
        stop = sym (ap (run is_name_byte) behind) ∙ run-behind is_name_byte l;
        size = omega (arith, e_is, long);
      }

  pub no_name : e ≡ a → (n k : List ℕ) → is_name n ≡ true → run is_name_byte k ≡ 0 → drop a s ≡ n ++ k → ⊥
  no_name same n k h stop f =
      let t = name-told n h in
      let r : w ≡ length n = ap (run is_name_byte) f ∙ name-ends n k h stop in
      omega (arith, is, same, width_of l (omega (arith, r, t.few)), r, t.some_byte)

  -- a name that is known to stand there
  pub name-known : (n k : List ℕ) → is_name n ≡ true → run is_name_byte k ≡ 0 → drop a s ≡ n ++ k → e ≡ a + length n
  name-known n k h stop f =
      let t = name-told n h in
      let r : w ≡ length n = ap (run is_name_byte) f ∙ name-ends n k h stop in
      omega (arith, is, width_of l (omega (arith, r, t.few)), r)

-- ---- a colon and a length from e to j
pub record EdgeAt (s : List ℕ) (e j : ℕ) : Type 0 where
  pub word : List ℕ
  pub long : is_length word ≡ true
  pub text : drop e s ≡ 58 ∷ (word ++ drop j s)
  pub stop : run is_digit (drop j s) ≡ 0
  pub size : j ≡ e + (1 + length word)

pub edge_of : (l k : List ℕ) → is_length l ≡ true → run is_digit k ≡ 0 → edge_width (58 ∷ (l ++ k)) ≡ 1 + length l
unfolding edge_width
edge_of l k h stop = let r = length-then l k h stop in rw (r.there, r.size)

-- what the test tells where it passes
edge-told : (l : List ℕ) → (edge_width l ≡ 0 → ⊥) → (get_or l 0 0 ≡ 58) × (length_there (drop 1 l) ≡ true) × (edge_width l ≡ 1 + length_size (drop 1 l))
unfolding edge_width
edge-told l h = go (eqb (get_or l 0 0) 58 && length_there (drop 1 l)) refl h
  where
    go : (b : Bool) → (eqb (get_or l 0 0) 58 && length_there (drop 1 l)) ≡ b → (cond b (1 + length_size (drop 1 l)) 0 ≡ 0 → ⊥)
        → (get_or l 0 0 ≡ 58) × (length_there (drop 1 l) ≡ true) × (cond (eqb (get_or l 0 0) 58 && length_there (drop 1 l)) (1 + length_size (drop 1 l)) 0 ≡ 1 + length_size (drop 1 l))
    go true e n = let p = both_true (eqb (get_or l 0 0) 58) (length_there (drop 1 l)) e in (eqb-true (get_or l 0 0) 58 p.0, p.1, ap (λ (b : Bool). cond b (1 + length_size (drop 1 l)) 0) e)
    go false e n = absurd (n refl)

module _ (s : List ℕ) (e j : ℕ) (is : j ≡ e + edge_width (drop e s)) where
  pub edge_at : (j ≡ e → ⊥) → EdgeAt s e j
  edge_at some =
      let t = edge-told (drop e s) (λ z. some (omega (arith, is, z))) in
      let colon : drop e s ≡ 58 ∷ drop (e + 1) s = byte-is s e 57 (sym (front-byte s e) ∙ t.0) in
      let there : length_there (drop (e + 1) s) ≡ true = sym (ap length_there (drop-drop 1 e s)) ∙ t.1 in
      let f = length_front (drop (e + 1) s) there in
      let n = length_size (drop (e + 1) s) in
      let same : length_size (drop 1 (drop e s)) ≡ n = ap length_size (drop-drop 1 e s) in
      let wide : length (take n (drop (e + 1) s)) ≡ n = length-take-le n (drop (e + 1) s) f.within in
      let j-is : j ≡ e + 1 + n = omega (arith, is, t.2, same) in
      let behind : drop n (drop (e + 1) s) ≡ drop j s = drop-drop n (e + 1) s ∙ ap (λ (x : ℕ). drop x s) (sym j-is) in
      record {
        word = take n (drop (e + 1) s);
        long = f.word;
        text = colon ∙ ap (λ (m : List ℕ). 58 ∷ m) (sym (take-append-drop n (drop (e + 1) s)) ∙ ap (λ (m : List ℕ). take n (drop (e + 1) s) ++ m) behind);
        stop = sym (ap (run is_digit) behind) ∙ f.stop;
        size = omega (arith, j-is, wide);
      }

  -- one that is known to stand there
  pub edge-known : (l k : List ℕ) → is_length l ≡ true → run is_digit k ≡ 0 → drop e s ≡ 58 ∷ (l ++ k) → j ≡ e + (1 + length l)
  edge-known l k h stop f = is ∙ ap (λ (x : ℕ). e + x) (ap edge_width f ∙ edge_of l k h stop)

  pub no_edge : j ≡ e → (l k : List ℕ) → is_length l ≡ true → run is_digit k ≡ 0 → drop e s ≡ 58 ∷ (l ++ k) → ⊥
  no_edge same l k h stop f = omega (arith, same, edge-known l k h stop f)
