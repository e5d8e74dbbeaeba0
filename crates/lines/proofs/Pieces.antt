-- Where there is room for the whole of a text, its pieces may be written one behind another: each leaves room for what follows.
-- `fields-more`: one number more behind those before it.
use mathlib.Core.Path.{◌≡◌, refl, sym, ap, ◌∙◌, subst}
use mathlib.Core.List.{List, [], ◌∷◌, ◌++◌, append_assoc, append-nil}
use Prim.Native.Nat.{ℕ, suc, ◌+◌, ◌<◌, ◌≤◌}
use native.Mathlib.Omega.{arith}
use lib.IntN.{ℤ, pos}
use lib.ListN.{length, take, length-append}
use lib.Seq.{take-suc}
use Rattle.exact.specs.Table.{entry_of}
use Rattle.verdict.specs.declared.Place.{Place}
use Rattle.verdict.specs.declared.Place.TheVariants.{EdgeSum}
use Rattle.mean.specs.Mean.{Mean}
use Rattle.writing.specs.Text.{decimal, signed, Wrote}
use Rattle.writing.proofs.Decimals.{decimal-length, signed-length}
use Rattle.writing.proofs.Writing.{wrote_none, wrote_then, wrote-length}
use Rattle.lines.specs.Lines.{fields, mean_line, place_fields, edge_word, edge_lines, fields_by, edge_lines_by}
use Rattle.lines.proofs.Sizes.{fields-length}

-- a piece, and what is written behind it by one who knows that there is room
pub and_then : {b c d : List ℕ} {at m k : ℕ} {s t : List ℕ} → at + length (s ++ t) ≤ length b → Wrote b c at s m
    → (m + length t ≤ length c → Wrote c d m t k) → Wrote b d at (s ++ t) k
and_then {b} {c} {d} {at} {m} {k} {s} {t} room p q =
    let l : length (s ++ t) ≡ length s + length t = length-append s t in
    let own : at + length s ≤ length b = omega arith in
    wrote_then own p (q (omega (arith, p.place, wrote-length own p)))

pub fields-append : (a b : List ℤ) → fields (a ++ b) ≡ fields a ++ fields b
unfolding fields_by
fields-append [] b = refl
fields-append (z ∷ a) b = ap (λ l. 32 ∷ (signed z ++ l)) (fields-append a b) ∙ ap (λ l. 32 ∷ l) (sym (append_assoc (signed z) (fields a) (fields b)))

pub fields-one : (z : ℤ) → fields (z ∷ []) ≡ 32 ∷ signed z
unfolding fields_by
fields-one z = ap (λ l. 32 ∷ l) (append-nil (signed z))

-- a word, a space and a number
pub wrote-named : {b c d e : List ℕ} {at i j k : ℕ} (word : List ℕ) (n : ℕ) → at + length word + 22 ≤ length b
    → Wrote b c at word i → Wrote c d i (32 ∷ []) j → Wrote d e j (decimal n) k → Wrote b e at (word ++ fields (pos n ∷ [])) k
wrote-named word n room p q r = rw (fields-one (pos n)) (and_then (simp length-append (omega (arith, decimal-length n))) p (λ h. and_then h q (λ _. r)))

-- a place by what is known of it
pub wrote-place : {b c : List ℕ} {at k : ℕ} {p : Place} (q : Place) → p ≡ q → Wrote b c at (place_fields q) k → Wrote b c at (place_fields p) k
wrote-place {b} {c} {at} {k} q e w = subst (λ (x : Place). Wrote b c at (place_fields x) k) (sym e) w

-- the mean square likewise
pub wrote-mean : {b c : List ℕ} {at k : ℕ} {p : Mean} (F : ℤ) (q : Mean) → p ≡ q → Wrote b c at (mean_line F q) k → Wrote b c at (mean_line F p) k
wrote-mean {b} {c} {at} {k} F q e w = subst (λ (x : Mean). Wrote b c at (mean_line F x) k) (sym e) w

-- an edge, and its sum behind it
pub wrote-sum : {b c d f : List ℕ} {at i j k : ℕ} (e : ℕ) (z : ℤ) → at + 51 ≤ length b
    → Wrote b c at (32 ∷ (edge_word ++ fields (pos e ∷ []))) i → Wrote c d i (32 ∷ []) j → Wrote d f j (signed z) k → Wrote b f at (place_fields (EdgeSum e z)) k
wrote-sum e z room p q r =
    rw (fields-append (pos e ∷ []) (z ∷ []), fields-one z)
    (and_then (simp length-append (omega (arith, fields-length (pos e ∷ []), signed-length z))) p (λ h. and_then h q (λ _. r)))

pub fields-more : (zs : List ℤ) (k : ℕ) → k < length zs → fields (take (suc k) zs) ≡ fields (take k zs) ++ (32 ∷ signed (entry_of zs k))
fields-more zs k h = ap fields (take-suc zs k (pos 0) h) ∙ fields-append (take k zs) (entry_of zs k ∷ []) ∙ ap (λ l. fields (take k zs) ++ l) (fields-one (entry_of zs k))

-- no edge's line
pub edges_none : (b : List ℕ) (at : ℕ) (row : ℕ → List ℤ) → Wrote b b at (edge_lines 0 row) at
unfolding edge_lines_by
edges_none b at row = wrote_none b at
