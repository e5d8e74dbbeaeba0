-- The function goes the way of the definition: a number's text is that of its tenth, and then its last digit.
use mathlib.Core.List.{[], List, ◌∷◌}
use Prim.Native.Nat.{ℕ, ◌+◌, ◌/◌, ◌%◌, ◌^◌, ◌<◌, ◌≤◌}
use native.Mathlib.Omega.{arith}
use lib.ListN.{length}
use Rattle.writing.specs.Text.{decimal, Wrote}
use Rattle.writing.proofs.Decimals.{decimal-small, decimal_step, tenth_length}
use Rattle.writing.proofs.Writing.{wrote_then, wrote-length}
use Rattle.writing.proofs.+put_number.Goals as goal

module _ (b : List ℕ) (at n : ℕ) where
  -- one digit
  one : (c : List ℕ) (m : ℕ) → n < 10 → Wrote b c at ((48 + n) ∷ []) m → Wrote b c at (decimal n) m
  one c m h p = rw (decimal-small n h) p

  module _ (room : at + 20 ≤ length b) (fits : n < 2 ^ 64) (c : List ℕ) (m : ℕ) (p : Wrote b c at (decimal (n / 10)) m) where
    tenth_room : at + length (decimal (n / 10)) ≤ length b
    tenth_room = omega (arith, tenth_length n fits)

    -- the last digit has its place
    left : m < length c
    left = omega (arith, tenth_length n fits, p.place, wrote-length tenth_room p)

    more : (d : List ℕ) (k : ℕ) → 10 ≤ n → Wrote c d m ((48 + n % 10) ∷ []) k → Wrote b d at (decimal n) k
    more d k h q = rw (decimal_step n h fits) (wrote_then tenth_room p q)

pub returns-then-n-lt10 : goal.returns-then-n-lt10
returns-then-n-lt10 t c =
    let a = c.args in
    one a.text.now a.at a.n c.put.new.text c.put.result c.if-n-lt10.true c.put.ensures

pub put-requires-2 : goal.put-requires-2
put-requires-2 t c =
    let a = c.args in
    let p = c.put_number-next in
    left a.text.now a.at a.n c.requires (omega arith) p.new.text p.result p.ensures

pub returns : goal.returns
returns t c =
    let a = c.args in
    let p = c.put_number-next in
    let q = c.put-2 in
    more a.text.now a.at a.n c.requires (omega arith) p.new.text p.result p.ensures q.new.text q.result c.if-n-lt10.false q.ensures
