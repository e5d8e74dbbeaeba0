-- Text written at a place parts the buffer into what stands before it, the text, and what stands behind: everything here follows
-- from where these three meet. `written-..` speak of buffers, `wrote-..` of what a writer leaves.
use mathlib.Core.Path.{◌≡◌, refl, sym, ap, ap₂, ◌∙◌}
use mathlib.Core.List.{List, [], ◌∷◌, ◌++◌, append_assoc}
use mathlib.Core.Logic.{◌⊎◌, inl, inr}
use Prim.Native.Nat.{ℕ, ◌+◌, ◌-◌, ◌<◌, ◌≤◌}
use native.Mathlib.Numerals.{add-one}
use native.Mathlib.Omega.{arith}
use lib.ListN.{length, take, drop, get_or, set, length-append, length-drop, get_or-append}
use lib.Seq.{length-take-le, take_at, drop-append-add, drop-drop, get_or-append-add, get_or-take, get_or-drop, paste-zero, set_split}
use Rattle.writing.specs.Text.{written, Wrote}

-- what stands before the text, with the text
head-length : (b : List ℕ) (at : ℕ) (s : List ℕ) → at + length s ≤ length b → length (take at b ++ s) ≡ at + length s
head-length b at s room = length-append (take at b) s ∙ ap (λ k. k + length s) (length-take-le at b (omega arith))

apart : (b : List ℕ) (at : ℕ) (s : List ℕ) → written b at s ≡ (take at b ++ s) ++ drop (at + length s) b
apart b at s = sym (append_assoc (take at b) s (drop (at + length s) b))

-- writing changes no length
pub length-written : (b : List ℕ) (at : ℕ) (s : List ℕ) → at + length s ≤ length b → length (written b at s) ≡ length b
length-written b at s room =
    ap length (apart b at s)
    ∙ length-append (take at b ++ s) (drop (at + length s) b)
    ∙ ap₂ (λ x y. x + y) (head-length b at s room) (length-drop (at + length s) b)
    ∙ omega arith

-- nothing written is the buffer
pub written_none : (b : List ℕ) (at : ℕ) → b ≡ written b at []
written_none b at = paste-zero b at [] ∙ append_assoc (take at b) [] (drop (at + 0) b)

-- up to the text's end, and from there on
written-front : (b : List ℕ) (at : ℕ) (s : List ℕ) → at + length s ≤ length b → take (at + length s) (written b at s) ≡ take at b ++ s
written-front b at s room =
    ap (take (at + length s)) (apart b at s) ∙ take_at (take at b ++ s) (drop (at + length s) b) (at + length s) (head-length b at s room)

written_behind : (b : List ℕ) (at : ℕ) (s : List ℕ) (k : ℕ) → at + length s ≤ length b → drop (at + length s + k) (written b at s) ≡ drop (at + length s + k) b
written_behind b at s k room =
    ap₂ (λ n l. drop (n + k) l) (sym (head-length b at s room)) (apart b at s)
    ∙ drop-append-add (take at b ++ s) (drop (at + length s) b) k
    ∙ drop-drop k (at + length s) b

-- two texts, the second behind the first, are one
pub written_then : (b : List ℕ) (at : ℕ) (s t : List ℕ) → at + length s ≤ length b
    → written (written b at s) (at + length s) t ≡ written b at (s ++ t)
written_then b at s t room =
    ap₂ (λ x y. x ++ (t ++ y)) (written-front b at s room) (written_behind b at s (length t) room)
    ∙ append_assoc (take at b) s (t ++ drop (at + length s + length t) b)
    ∙ ap (λ x. take at b ++ x) (sym (append_assoc s t (drop (at + length s + length t) b)))
    ∙ ap (λ k. take at b ++ ((s ++ t) ++ drop k b)) end
  where
    end : at + length s + length t ≡ at + length (s ++ t)
    end = omega (arith, length-append s t)

-- the bytes before the text, and those behind it, are as they were
written-before : (b : List ℕ) (at : ℕ) (s : List ℕ) → at + length s ≤ length b → (k : ℕ) → k < at → get_or (written b at s) k 0 ≡ get_or b k 0
written-before b at s room k h =
    get_or-append (take at b) (s ++ drop (at + length s) b) 0 k (omega (arith, length-take-le at b (omega arith)))
    ∙ get_or-take at b k 0 h

written_after : (b : List ℕ) (at : ℕ) (s : List ℕ) → at + length s ≤ length b → (j : ℕ) → get_or (written b at s) (at + length s + j) 0 ≡ get_or b (at + length s + j) 0
written_after b at s room j =
    ap₂ (λ n l. get_or l (n + j) 0) (sym (head-length b at s room)) (apart b at s)
    ∙ get_or-append-add (take at b ++ s) (drop (at + length s) b) j 0
    ∙ get_or-drop (at + length s) b j 0

pub written-other : (b : List ℕ) (at : ℕ) (s : List ℕ) → at + length s ≤ length b → (k : ℕ) → (k < at) ⊎ (at + length s ≤ k)
    → get_or (written b at s) k 0 ≡ get_or b k 0
written-other b at s room k (inl h) = written-before b at s room k h
written-other b at s room k (inr h) =
    let e : at + length s + (k - (at + length s)) ≡ k = omega arith in
    ap (λ n. get_or (written b at s) n 0) (sym e) ∙ written_after b at s room (k - (at + length s)) ∙ ap (λ n. get_or b n 0) e

-- the text's own bytes
pub written-own : (b : List ℕ) (at : ℕ) (s : List ℕ) → at + length s ≤ length b → (k : ℕ) → k < length s
    → get_or (written b at s) (at + k) 0 ≡ get_or s k 0
written-own b at s room k h =
    ap (λ n. get_or (written b at s) (n + k) 0) (sym (length-take-le at b (omega arith)))
    ∙ get_or-append-add (take at b) (s ++ drop (at + length s) b) k 0
    ∙ get_or-append s (drop (at + length s) b) 0 k h

-- ---- what a writer leaves
pub wrote_none : (b : List ℕ) (at : ℕ) → Wrote b b at [] at
wrote_none b at = record { place = omega arith; buffer = written_none b at }

-- a store writes one byte
pub wrote-byte : (b : List ℕ) (at v : ℕ) → at < length b → Wrote b (set b at v) at (v ∷ []) (at + 1)
wrote-byte b at v h = record { place = refl; buffer = set_split b at v h ∙ ap (λ k. take at b ++ (v ∷ drop k b)) (sym (add-one at)) }

-- one text behind another
pub wrote_then : {b c d : List ℕ} {at m k : ℕ} {s t : List ℕ} → at + length s ≤ length b → Wrote b c at s m → Wrote c d m t k
    → Wrote b d at (s ++ t) k
wrote_then {b} {c} {d} {at} {m} {k} {s} {t} room p q = record {
  place = omega (arith, p.place, q.place, length-append s t);
  buffer = q.buffer ∙ ap₂ (λ x n. written x n t) p.buffer p.place ∙ written_then b at s t room;
}

pub wrote-length : {b c : List ℕ} {at m : ℕ} {s : List ℕ} → at + length s ≤ length b → Wrote b c at s m → length c ≡ length b
wrote-length {b} {c} {at} {m} {s} room p = ap length p.buffer ∙ length-written b at s room

-- at a buffer's front, whatever the buffer was: the text ends within what was left
pub wrote-within : {b c : List ℕ} {m : ℕ} {s : List ℕ} → Wrote b c 0 s m → m ≤ length c
wrote-within {b} {c} {m} {s} p = omega (arith, p.place, ap length p.buffer, length-append (take 0 b) (s ++ drop (0 + length s) b), length-append s (drop (0 + length s) b))

-- no other byte changes
pub wrote-other : {b c : List ℕ} {at m : ℕ} {s : List ℕ} → at + length s ≤ length b → Wrote b c at s m
    → (k : ℕ) → (k < at) ⊎ (at + length s ≤ k) → get_or c k 0 ≡ get_or b k 0
wrote-other {b} {c} {at} {m} {s} room p k h = ap (λ l. get_or l k 0) p.buffer ∙ written-other b at s room k h

-- and the text's bytes stand there
pub wrote-own : {b c : List ℕ} {at m : ℕ} {s : List ℕ} → at + length s ≤ length b → Wrote b c at s m
    → (k : ℕ) → k < length s → get_or c (at + k) 0 ≡ get_or s k 0
wrote-own {b} {c} {at} {m} {s} room p k h = ap (λ l. get_or l (at + k) 0) p.buffer ∙ written-own b at s room k h
