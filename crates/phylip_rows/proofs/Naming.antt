-- A name, byte by byte. A byte of a name is not 0, so all ten stand in the text.
use mathlib.Core.Path.{◌≡◌, refl, sym, ◌∙◌, ap}
use mathlib.Core.Bool.{true, false, true≢false}
use mathlib.Core.List.{List}
use Prim.Native.Nat.{ℕ, suc, ◌+◌, ◌-◌, ◌≤◌, ◌<◌}
use native.Mathlib.Decide.{ℕ_discrete}
use native.Mathlib.Omega.{arith}
use borrow.Author.Tests.{ltb-false}
use lib.Dec.{ltb}
use lib.ListN.{length, get_or, drop, set, length-set}
use lib.Seq.{get_or-drop, get_or-set_same, get_or-set_other}
use Rattle.exact.proofs.Decide.{by_cases}
use Rattle.verdict.proofs.Table.{some-yes, some-no, some-none}
use Rattle.verdict.proofs.Answers.{or_none}
use Rattle.digits.proofs.Reading.{inside}
use Rattle.phylip_text.specs.Form.{name_out, name_size, name_bad}
use Rattle.phylip_rows.specs.Rows.{NameRead}

-- k bytes are copied
pub record NameAt (s : List ℕ) (at base : ℕ) (before names : List ℕ) (k : ℕ) : Type 0 where
  pub few : k ≤ name_size
  pub size : length names ≡ length before
  pub kept : (m : ℕ) → m < base → get_or names m 0 ≡ get_or before m 0
  pub good : (m : ℕ) → m < k → name_out (get_or (drop at s) m 0) ≡ false
  pub each : (m : ℕ) → m < k → get_or names (base + m) 0 ≡ get_or (drop at s) m 0

module _ (s : List ℕ) (at base : ℕ) (before : List ℕ) where
  pub name-start : NameAt s at base before before 0
  name-start = record { few = omega arith; size = refl; kept = λ m h. refl; good = λ m h. absurd (omega arith); each = λ m h. absurd (omega arith) }

  module _ {names : List ℕ} {k : ℕ} (byte : ℕ) (t : NameAt s at base before names k) (e : byte ≡ get_or s (at + k) 0) where
    here : byte ≡ get_or (drop at s) k 0
    here = e ∙ sym (get_or-drop at s k 0)

    pub name-none : k < name_size → name_out byte ≡ true → NameRead s at base before names true
    name-none h o = record {
      bad-is = sym (some-yes name_size (λ m. name_out (get_or (drop at s) m 0)) k h (ap name_out (sym here) ∙ o));
      size = t.size;
      kept = t.kept;
      each = λ q. absurd (true≢false q);
    }

    pub name-turn : k < name_size → base + name_size ≤ length before → name_out byte ≡ false → NameAt s at base before (set names (base + k) byte) (k + 1)
    name-turn h room o = record {
      few = omega arith;
      size = length-set names (base + k) byte ∙ t.size;
      kept = λ m l. get_or-set_other names (base + k) m byte 0 (λ q. omega arith) ∙ t.kept m l;
      good = λ m l. by_cases (ℕ_discrete m k) (λ q. ap (λ (x : ℕ). name_out (get_or (drop at s) x 0)) q ∙ ap name_out (sym here) ∙ o) (λ q. t.good m (omega arith));
      each = λ m l. by_cases (ℕ_discrete m k)
          (λ q. ap (λ (x : ℕ). get_or (set names (base + k) byte) (base + x) 0) q ∙ get_or-set_same names (base + k) byte 0 (omega (arith, t.size)) ∙ here ∙ sym (ap (λ (x : ℕ). get_or (drop at s) x 0) q))
          (λ q. get_or-set_other names (base + k) (base + m) byte 0 (λ z. q (omega arith)) ∙ t.each m (omega arith));
    }

  pub name-end : {names : List ℕ} {k : ℕ} → name_size ≤ k → NameAt s at base before names k → NameRead s at base before names false
  name-end h t = record {
    bad-is = sym (some-no name_size (λ m. name_out (get_or (drop at s) m 0)) (λ m l. t.good m (omega arith)));
    size = t.size;
    kept = t.kept;
    each = λ q m l. t.each m (omega arith);
  }

-- all ten bytes of a name stand in the text
pub name-within : (s : List ℕ) (at : ℕ) → name_bad (drop at s) ≡ false → at + name_size ≤ length s
name-within s at h =
    let o = or_none (ltb x 32) (ltb 126 x) (some-none name_size (λ m. name_out (get_or (drop at s) m 0)) h 9 (omega arith)) in
    let l : 32 ≤ x = ltb-false x 32 o.0 in
    let q : get_or s (at + 9) 0 ≡ suc (x - 1) = sym (get_or-drop at s 9 0) ∙ omega arith in
    let w = inside s (at + 9) (x - 1) q in
    omega (arith, w)
  where
    x : ℕ
    x = get_or (drop at s) 9 0
