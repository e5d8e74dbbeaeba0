-- The line of a pair, piece by piece: each piece goes where the one before it ends.
use mathlib.Core.Path.{◌≡◌, sym, ap, ap₂, ◌∙◌, subst}
use mathlib.Core.Bool.{Bool, true, false, not}
use mathlib.Core.List.{List, [], ◌∷◌, ◌++◌, append_assoc, append-nil}
use mathlib.Core.Logic.{◌≢◌}
use Prim.Native.Nat.{ℕ, ◌+◌, ◌*◌, ◌≤◌, ◌<◌, ◌^◌}
use native.Mathlib.Nat.{mul-le-mul}
use native.Mathlib.Omega.{arith}
use borrow.Author.Tests.{eq-eqb, ne_eqb}
use lib.IntN.{ℤ, pos, nat_abs, ◌-ℤ◌, ◌*ℤ◌}
use lib.ListN.{length, get_or, drop, length-append, length-drop}
use lib.Seq.{length-take-le}
use mir.Syntax.{w64}
use mir.Val.{to_z, of_z, SFits}
use Rattle.exact.proofs.Sign.{nat_abs_sub, fits_abs, back, back-pos}
use Rattle.matrix.specs.Limits.{missing}
use Rattle.matrix.specs.Place.{is_measured, known}
use Rattle.matrix.proofs.Looking.{known_of}
use Rattle.writing.specs.Text.{signed, Wrote}
use Rattle.lines.proofs.Sizes.{fields-length}
use Rattle.records.specs.Names.{max_name}
use Rattle.writing.proofs.Decimals.{signed-length}
use Rattle.writing.proofs.Writing.{wrote_then, wrote-length}
use Rattle.lines.specs.Lines.{end, fields, line, fields_by}
use Rattle.pair_line.specs.Line.{dash, pair_head, pair_line, widest_pair, name_at, farthest}

-- what is left of the room behind a piece
pub room_after : {b c : List ℕ} {at m : ℕ} {s : List ℕ} (more : ℕ) → at + length s + more ≤ length b → Wrote b c at s m → m + more ≤ length c
room_after more h p = omega (arith, p.place, wrote-length (omega arith) p)

-- a name that lies within the names has as many bytes as its length byte says
pub name-length : (names : List ℕ) (start : ℕ) → start + 1 + get_or names start 0 ≤ length names → length (name_at names start) ≡ get_or names start 0
name-length names start h = length-take-le (get_or names start 0) (drop (start + 1) names) (omega (arith, length-drop (start + 1) names))

-- "pair" and two names
pub head-written : {b c d e f : List ℕ} {at i j k r : ℕ} (A B : List ℕ) → at + 6 + length A + length B ≤ length b
    → Wrote b c at (112 ∷ 97 ∷ 105 ∷ 114 ∷ 32 ∷ []) i → Wrote c d i A j → Wrote d e j (32 ∷ []) k → Wrote e f k B r → Wrote b f at (pair_head A B) r
unfolding pair_head
head-written A B room p q s t =
    let one = room_after (length A + (1 + length B)) (omega arith) p in
    let two = room_after (1 + length B) (omega arith) q in
    wrote_then (omega arith) p (wrote_then (omega arith) q (wrote_then (omega arith) s t))

-- the numbers of a pair that was not measured
unmeasured_is : (p q : ℤ) → dash ++ (fields (p ∷ q ∷ []) ++ (dash ++ end)) ≡ (32 ∷ 45 ∷ 32 ∷ []) ++ (signed p ++ ((32 ∷ []) ++ (signed q ++ (32 ∷ 45 ∷ 10 ∷ []))))
unfolding fields_by
unmeasured_is p q = ap (λ (l : List ℕ). 32 ∷ 45 ∷ 32 ∷ l)
    (append_assoc (signed p) (32 ∷ (signed q ++ [])) (32 ∷ 45 ∷ 10 ∷ [])
    ∙ ap (λ (l : List ℕ). signed p ++ (32 ∷ (l ++ (32 ∷ 45 ∷ 10 ∷ [])))) (append-nil (signed q)))

pub unmeasured_written : {b c d e f g : List ℕ} {at i j k m r : ℕ} (p q : ℤ) → at + 49 ≤ length b
    → Wrote b c at (32 ∷ 45 ∷ 32 ∷ []) i → Wrote c d i (signed p) j → Wrote d e j (32 ∷ []) k → Wrote e f k (signed q) m → Wrote f g m (32 ∷ 45 ∷ 10 ∷ []) r
    → Wrote b g at (dash ++ (fields (p ∷ q ∷ []) ++ (dash ++ end))) r
unmeasured_written {b} {c} {d} {e} {f} {g} {at} {i} {j} {k} {m} {r} p q room v w x y z =
    let one = room_after 46 (omega arith) v in
    let two = room_after 25 (omega (arith, signed-length p)) w in
    let three = room_after 24 (omega arith) x in
    let four = room_after 3 (omega (arith, signed-length q)) y in
    subst (λ (l : List ℕ). Wrote b g at l r) (sym (unmeasured_is p q))
    (wrote_then (omega arith) v (wrote_then (omega (arith, signed-length p)) w (wrote_then (omega arith) x (wrote_then (omega (arith, signed-length q)) y z))))

-- the remainder of a measured pair, as the code works it
module _ (d far : ℕ) (hd : d < 2 ^ 32) (hf : far < 2 ^ 16) (p : ℤ) (near : nat_abs p ≤ farthest) where
  scaled : to_z w64 d *ℤ to_z w64 far ≡ pos d *ℤ pos far
  scaled = ap₂ ◌*ℤ◌ (back-pos d (omega arith)) (back-pos far (omega arith))

  small : d * far ≤ 4294967296 * 65536
  small = mul-le-mul {n₂ = 4294967296} {m₂ = 65536} (omega arith) (omega arith)

  scaled-near : nat_abs (to_z w64 d *ℤ to_z w64 far) < 2 ^ 63
  scaled-near = omega (arith, ap nat_abs scaled, small)

  pub scaled_fits : SFits w64 (to_z w64 d *ℤ to_z w64 far)
  scaled_fits = fits_abs (to_z w64 d *ℤ to_z w64 far) scaled-near

  left : to_z w64 (of_z w64 (to_z w64 d *ℤ to_z w64 far)) -ℤ to_z w64 (of_z w64 p) ≡ pos d *ℤ pos far -ℤ p
  left = ap₂ ◌-ℤ◌ (back (to_z w64 d *ℤ to_z w64 far) scaled-near ∙ scaled) (back p (omega arith))

  left_near : nat_abs (to_z w64 (of_z w64 (to_z w64 d *ℤ to_z w64 far)) -ℤ to_z w64 (of_z w64 p)) < 2 ^ 63
  left_near = omega (arith, ap nat_abs left, nat_abs_sub (pos d *ℤ pos far) p, small)

  pub left-fits : SFits w64 (to_z w64 (of_z w64 (to_z w64 d *ℤ to_z w64 far)) -ℤ to_z w64 (of_z w64 p))
  left-fits = fits_abs (to_z w64 (of_z w64 (to_z w64 d *ℤ to_z w64 far)) -ℤ to_z w64 (of_z w64 p)) left_near

  pub left_is : to_z w64 (of_z w64 (to_z w64 (of_z w64 (to_z w64 d *ℤ to_z w64 far)) -ℤ to_z w64 (of_z w64 p))) ≡ pos d *ℤ pos far -ℤ p
  left_is = back (to_z w64 (of_z w64 (to_z w64 d *ℤ to_z w64 far)) -ℤ to_z w64 (of_z w64 p)) left_near ∙ left

  pub measured-written : {b c : List ℕ} {at k : ℕ} (q : ℤ) → to_z w64 (of_z w64 q) ≡ q
      → Wrote b c at (line [] (to_z w64 far ∷ to_z w64 (of_z w64 p) ∷ to_z w64 (of_z w64 q) ∷ to_z w64 (of_z w64 (to_z w64 (of_z w64 (to_z w64 d *ℤ to_z w64 far)) -ℤ to_z w64 (of_z w64 p))) ∷ [])) k
      → Wrote b c at (fields (pos far ∷ p ∷ q ∷ (pos d *ℤ pos far -ℤ p) ∷ []) ++ end) k
  measured-written {b} {c} {at} {k} q e w = subst (λ (l : List ℤ). Wrote b c at (fields l ++ end) k)
      (ap₂ ◌∷◌ (back-pos far (omega arith)) (ap₂ ◌∷◌ (back p (omega arith)) (ap₂ ◌∷◌ e (ap (λ (x : ℤ). x ∷ []) left_is)))) w

-- ---- the whole line
pub head-length : (A B : List ℕ) → length (pair_head A B) ≡ 6 + length A + length B
unfolding pair_head
head-length A B = simp length-append (omega arith)

module _ {b c d : List ℕ} {at m k : ℕ} (A B : List ℕ) (far D : ℕ) (p q : ℤ) (room : at + (6 + length A + length B) ≤ length b) (v : Wrote b c at (pair_head A B) m) where
  pub line-missing : far ≡ missing → Wrote c d m (dash ++ (fields (p ∷ q ∷ []) ++ (dash ++ end))) k
      → Wrote b d at (pair_line A B (is_measured far) (pos (known far)) p q (pos D *ℤ pos (known far) -ℤ p)) k
  unfolding pair_line
  line-missing e w = rw (eq-eqb far missing e) (wrote_then (omega (arith, head-length A B)) v w)

  pub line-measured : far ≢ missing → Wrote c d m (fields (pos far ∷ p ∷ q ∷ (pos D *ℤ pos far -ℤ p) ∷ []) ++ end) k
      → Wrote b d at (pair_line A B (is_measured far) (pos (known far)) p q (pos D *ℤ pos (known far) -ℤ p)) k
  unfolding pair_line
  line-measured e w = let yes : is_measured far ≡ true = ap not (ne_eqb far missing e) in rw (known_of far yes, ne_eqb far missing e) (wrote_then (omega (arith, head-length A B)) v w)

-- how long it is at the most
pub line-long : (A B : List ℕ) (known : Bool) (d p q r : ℤ) → length A ≤ max_name → length B ≤ max_name → length (pair_line A B known d p q r) ≤ widest_pair
unfolding pair_line
line-long A B true d p q r a b = simp length-append (omega (arith, head-length A B, fields-length (d ∷ p ∷ q ∷ r ∷ [])))
line-long A B false d p q r a b = simp length-append (omega (arith, head-length A B, fields-length (p ∷ q ∷ [])))
