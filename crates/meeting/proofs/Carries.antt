-- Carrying the strains of a mask over an edge. The idea: each way is what it was, and x more once its strain is off the mask that is left.
use Rattle.std.proofs.Common.{◌≡◌, ℕ, ◌+◌, ◌*◌, ◌≤◌, eqb, List, [], ◌∷◌, length, set, ℤ, ◌+ℤ◌, ◌-ℤ◌, ◌*ℤ◌, nat_abs, sym, refl, ap, ◌∙◌, arith, length-set, w64, SFits, to_z, of_z}
use Rattle.exact.specs.Sum.{ind}
use Rattle.exact.proofs.Quote.{by-ring, quote}
use Rattle.exact.proofs.Ring.{*ℤ-oneˡ}
use Rattle.exact.proofs.Sign.{nat_abs_add, nat_abs_sub, fits_abs, back}
use Rattle.exact.proofs.Sweep.{ind_abs}
use Rattle.exact.proofs.Sum.{ind-yes, ind-no}
use Rattle.matrix.specs.Limits.{max_strains}
use Rattle.tree_theory.specs.Cluster.{bit_at}
use Rattle.lengths.specs.Limits.{max_numerator}
use Rattle.exact.specs.Table.{entry_of}
use Rattle.meeting.specs.declared.Low.{Low}
use Rattle.meeting.specs.Meeting.{farthest_way, LowestStrain, Carried}
use Rattle.meeting.proofs.Masked.{bit-none, low_in}
use Rattle.meeting.proofs.Putting.{set-add}

pub record Carry (here : ℕ) (x : ℤ) (old : List ℤ) (left : ℕ) (now : List ℤ) : Type 0 where
  pub size : length now ≡ max_strains
  pub entries : (i : ℕ) → entry_of now i +ℤ ind (bit_at left i) *ℤ x ≡ entry_of old i +ℤ ind (bit_at here i) *ℤ x

pub carry_start : {here : ℕ} {x : ℤ} {old : List ℤ} → length old ≡ max_strains → Carry here x old here old
carry_start e = record { size = e; entries = λ i. refl }

pub carry_end : {here : ℕ} {x : ℤ} {old : List ℤ} {left : ℕ} {now : List ℤ} → left ≡ 0 → Carry here x old left now → Carried here x old now
carry_end {x = x} {now = now} e t = record {
  size = t.size;
  entries = λ i. by-ring (entry_of now i ∷ x ∷ []) (search quote depth 20) tt
      ∙ ap (λ y. entry_of now i +ℤ y *ℤ x) (sym (ap (λ (m : ℕ). ind (bit_at m i)) e ∙ ind-no (bit-none i)))
      ∙ t.entries i;
}

module _ {here : ℕ} {x : ℤ} {old : List ℤ} {left : ℕ} {now : List ℤ} (t : Carry here x old left now)
    (low : (i : ℕ) → nat_abs (entry_of old i) ≤ farthest_way) (near : nat_abs x ≤ max_numerator) {r : Low} (w : LowestStrain left r) where
  abbrev s : ℕ
  s = r.strain

  longer : entry_of now s +ℤ x ≡ entry_of old s +ℤ ind (bit_at here s) *ℤ x
  longer = ap (λ y. entry_of now s +ℤ y) (sym (ap (λ y. y *ℤ x) (ind-yes (low_in left r w)) ∙ *ℤ-oneˡ x)) ∙ t.entries s

  longer-near : nat_abs (entry_of now s +ℤ x) ≤ farthest_way + max_numerator
  longer-near = omega (arith, ap nat_abs longer, nat_abs_add (entry_of old s) (ind (bit_at here s) *ℤ x), ind_abs (bit_at here s) x, low s, near)

  here-near : nat_abs (entry_of now s) ≤ farthest_way + 2 * max_numerator
  here-near = let e : entry_of now s ≡ entry_of now s +ℤ x -ℤ x = by-ring (entry_of now s ∷ x ∷ []) (search quote depth 20) tt in
      omega (arith, ap nat_abs e, nat_abs_sub (entry_of now s +ℤ x) x, longer-near, near)

  -- the machine's sum
  abbrev code : ℤ
  code = to_z w64 (of_z w64 (entry_of now s)) +ℤ x

  code_is : code ≡ entry_of now s +ℤ x
  code_is = ap (λ y. y +ℤ x) (back (entry_of now s) (omega (arith, here-near)))

  pub carry_fits : SFits w64 code
  carry_fits = fits_abs code (omega (arith, ap nat_abs code_is, longer-near))

  code-back : to_z w64 (of_z w64 code) ≡ entry_of now s +ℤ x
  code-back = back code (omega (arith, ap nat_abs code_is, longer-near)) ∙ code_is

  pub carry_turn : Carry here x old r.rest (set now s (to_z w64 (of_z w64 code)))
  carry_turn = record {
    size = simp length-set t.size;
    entries = λ i. ap (λ y. y +ℤ ind (bit_at r.rest i) *ℤ x) (set-add s x (to_z w64 (of_z w64 code)) now (omega (arith, t.size, w.within)) code-back i)
        ∙ by-ring (entry_of now i ∷ ind (eqb i s) ∷ ind (bit_at r.rest i) ∷ x ∷ []) (search quote depth 20) tt
        ∙ ap (λ y. entry_of now i +ℤ y *ℤ x) (sym (w.bits i))
        ∙ t.entries i;
  }
