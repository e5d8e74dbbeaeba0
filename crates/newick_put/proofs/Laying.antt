-- Pieces of text, laid one behind the other. While the children of a vertex are written, what stands in the buffer and what is left to
-- write are together the text of the vertex (`Doing`).
use mathlib.Core.Path.{◌≡◌, refl, sym, ◌∙◌, ap}
use mathlib.Core.List.{List, [], ◌∷◌, ◌++◌, append_assoc}
use Prim.Native.Nat.{ℕ, ◌+◌, ◌-◌, ◌<◌, ◌≤◌}
use native.Mathlib.Numerals.{add-one}
use native.Mathlib.Omega.{arith}
use lib.ListN.{length, take, drop, set, length-set, length-append, take-append-drop}
use lib.Seq.{take-suc-set, append_snoc, drop-set-lt, drop-drop, take_at, drop_at, length-take-le}
use Rattle.writing.specs.Text.{Wrote}
use Rattle.writing.proofs.Writing.{length-written}
use Rattle.newick_text.specs.Tree.{Tree, leaf, node, Row, none, some, text_then, row_then, tally, row_tally, size_of, row_size, text_of}
use Rattle.newick_text.proofs.Texts.{row-size, row-append}
use Rattle.newick_put.specs.Put.{Laid}

-- lists that agree from e on agree from any later place on
later : (b c : List ℕ) (e j : ℕ) → drop e c ≡ drop e b → e ≤ j → drop j c ≡ drop j b
later b c e j h l =
    ap (λ (i : ℕ). drop i c) split ∙ sym (drop-drop (j - e) e c) ∙ ap (drop (j - e)) h ∙ drop-drop (j - e) e b ∙ ap (λ (i : ℕ). drop i b) (sym split)
  where
    split : j ≡ e + (j - e)
    split = omega arith

-- ---- pieces
-- one behind another
pub laid_then : {f g : List ℕ → List ℕ} {x y : ℕ} {b c d : List ℕ} {a e j : ℕ} → Laid f x b c a e → Laid g y c d e j → Laid (λ k. f (g k)) (x + y) b d a j
laid_then {f} {g} {x} {y} {b} {c} {d} {a} {e} {j} p q = record {
  text = λ k. q.text k ∙ p.text (g k);
  behind = q.behind ∙ later b c e j p.behind (omega (arith, q.end));
  end = omega (arith, p.end, q.end);
  same = q.same ∙ p.same;
}

-- a byte
pub laid-byte : (b : List ℕ) (a x : ℕ) → a < length b → Laid (λ k. x ∷ k) 1 b (set b a x) a (a + 1)
laid-byte b a x h = record {
  text = λ k. ap (λ (j : ℕ). take j (set b a x) ++ k) (add-one a) ∙ ap (λ (l : List ℕ). l ++ k) (take-suc-set b a x h) ∙ append_snoc (take a b) x k;
  behind = drop-set-lt (a + 1) b a x (omega arith);
  end = refl;
  same = length-set b a x;
}

-- what a writer of words leaves
pub laid-wrote : {b c : List ℕ} {a e : ℕ} {s : List ℕ} → a + length s ≤ length b → Wrote b c a s e → Laid (λ k. s ++ k) (length s) b c a e
laid-wrote {b} {c} {a} {e} {s} room w = record {
  text = λ k. ap (λ (l : List ℕ). l ++ k) front ∙ append_assoc (take a b) s k;
  behind = ap (drop e) split ∙ drop_at (take a b ++ s) (drop (a + length s) b) e head ∙ ap (λ (i : ℕ). drop i b) (sym w.place);
  end = w.place;
  same = ap length w.buffer ∙ length-written b a s room;
}
  where
    split : c ≡ (take a b ++ s) ++ drop (a + length s) b
    split = w.buffer ∙ sym (append_assoc (take a b) s (drop (a + length s) b))

    head : length (take a b ++ s) ≡ e
    head = length-append (take a b) s ∙ ap (λ (k : ℕ). k + length s) (length-take-le a b (omega arith)) ∙ sym w.place

    front : take e c ≡ take a b ++ s
    front = ap (take e) split ∙ take_at (take a b ++ s) (drop (a + length s) b) e head

-- ---- a vertex
pub record Doing (t : Tree) (r : Row) (lead : ℕ) (b c : List ℕ) (a e : ℕ) : Type 0 where
  pub text : (k : List ℕ) → take e c ++ row_then r lead k ≡ take a b ++ text_then t k
  pub behind : drop e c ≡ drop e b
  pub room : e + row_size r ≡ a + size_of t
  pub same : length c ≡ length b

pub laid_leaf : (n b c : List ℕ) (a e : ℕ) → a + length n ≤ length b → Wrote b c a n e → Laid (text_then (leaf n)) (size_of (leaf n)) b c a e
unfolding text_then tally
laid_leaf n b c a e room w = laid-wrote room w

pub starts-row : (r : Row) (b : List ℕ) (a : ℕ) → Doing (node r) r 40 b b a a
unfolding text_then tally
starts-row r b a = record { text = λ k. refl; behind = refl; room = refl; same = refl }

-- the next child was written: its lead, its tree, a colon and its length
pub child : (t x : Tree) (l : List ℕ) (r : Row) (lead : ℕ) (b c d f : List ℕ) (a e i j : ℕ) → e < length c → Doing t (some x l r) lead b c a e
    → Laid (text_then x) (size_of x) (set c e lead) d (e + 1) i → i + length (58 ∷ l) ≤ length d → Wrote d f i (58 ∷ l) j → Doing t r 44 b f a j
unfolding row_then tally
child t x l r lead b c d f a e i j h w o room q =
    let all = laid_then (laid_then (laid-byte c e lead h) o) (laid-wrote room q) in
    record {
      text = λ k. all.text (row_then r 44 k) ∙ w.text k;
      behind = all.behind ∙ later b c e j w.behind (omega (arith, all.end));
      room = omega (arith, all.end, w.room);
      same = all.same ∙ w.same;
    }

pub closes : (t : Tree) (lead : ℕ) (b c : List ℕ) (a e : ℕ) → e < length c → Doing t none lead b c a e → Laid (text_then t) (size_of t) b (set c e 41) a (e + 1)
unfolding row_then tally
closes t lead b c a e h w =
    let last = laid-byte c e 41 h in
    record {
      text = λ k. last.text k ∙ w.text k;
      behind = last.behind ∙ later b c e (e + 1) w.behind (omega arith);
      end = w.room;
      same = last.same ∙ w.same;
    }

-- ---- room in the buffer, with some to spare
pub some-room : (t x : Tree) (l : List ℕ) (r : Row) (lead spare : ℕ) (b c : List ℕ) (a e : ℕ) → Doing t (some x l r) lead b c a e → a + size_of t + spare ≤ length b
    → e + 1 + size_of x + 1 + length l + spare < length c
unfolding row_tally
some-room t x l r lead spare b c a e w h = omega (arith, w.room, w.same)

pub none-room : (t : Tree) (lead spare : ℕ) (b c : List ℕ) (a e : ℕ) → Doing t none lead b c a e → a + size_of t + spare ≤ length b → e + spare < length c
unfolding row_tally
none-room t lead spare b c a e w h = omega (arith, w.room, w.same)

-- a leaf has the bytes of its name
pub leaf-size : (n : List ℕ) → size_of (leaf n) ≡ length n
unfolding tally
leaf-size n = refl

-- the semicolon behind a text that starts the buffer
pub ends : (r : Row) (b c d : List ℕ) (e f : ℕ) → e < length b → Laid (text_then (node r)) (size_of (node r)) b c 0 e → Wrote c d e (59 ∷ []) f → Wrote b d 0 (text_of r) f
unfolding text_then tally
ends r b c d e f h w p =
    let all = laid_then w (laid-wrote (omega (arith, w.same)) p) in
    let size : f ≡ 0 + length (text_of r) = omega (arith, row-size r 40 (59 ∷ []), w.end, p.place) in
    record {
      place = size;
      buffer = sym (take-append-drop f d) ∙ all.text (drop f d) ∙ row-append r 40 (59 ∷ []) (drop f d) ∙ ap (λ (l : List ℕ). text_of r ++ l) (all.behind ∙ ap (λ (i : ℕ). drop i b) size);
    }
