-- After k turns the buffer is the one that the word's first k bytes leave, and a turn writes one byte behind them.
use mathlib.Core.Path.{◌≡◌, refl}
use mathlib.Core.List.{List}
use Prim.Native.Nat.{ℕ, ◌+◌, ◌-◌, ◌≤◌, ◌<◌}
use native.Mathlib.Numerals.{add-one}
use native.Mathlib.Omega.{arith}
use lib.ListN.{length, take, set, get_or}
use lib.Seq.{length-take-le, take_all, take-suc}
use Rattle.writing.specs.Text.{Wrote}
use Rattle.writing.proofs.Writing.{written_none, wrote-byte, wrote_then, wrote-length}
use Rattle.writing.proofs.put_word.Invariants.{Spelt}
use Rattle.writing.proofs.put_word.Goals as goal

module _ (b w : List ℕ) (at : ℕ) (room : at + length w ≤ length b) where
  start : Spelt b w at 0 b
  start = record { few = omega arith; wrote = record { place = refl; buffer = written_none b at } }

  room-left : (k : ℕ) (c : List ℕ) → Spelt b w at k c → at + length (take k w) ≤ length b
  room-left k c p = omega (arith, length-take-le k w p.few)

  same : (k : ℕ) (c : List ℕ) → Spelt b w at k c → length c ≡ length b
  same k c p = wrote-length (room-left k c p) p.wrote

  turn : (k : ℕ) (c : List ℕ) → k < length w → Spelt b w at k c → Spelt b w at (k + 1) (set c (at + k) (get_or w k 0))
  turn k c h p = let assoc : at + k + 1 ≡ at + (k + 1) = omega arith in record {
    few = omega arith;
    wrote =
        rw (← assoc, add-one k, take-suc w k 0)
        (wrote_then (room-left k c p) p.wrote (wrote-byte c (at + k) (get_or w k 0) (omega (arith, same k c p))));
  }

  finish : (k : ℕ) (c : List ℕ) → length w ≤ k → Spelt b w at k c → Wrote b c at w (at + length w)
  finish k c h p = let all : k ≡ length w = omega (arith, p.few) in
      rw all at (rw take_all at p.wrote)

pub loop-k-init : goal.loop-k-init
loop-k-init c = start c.args.text.now c.args.word.now c.args.at c.requires

pub bounds-text-at : goal.bounds-text-at
bounds-text-at c = let a = c.args in
    let l = c.loop-k in
    omega (arith, same a.text.now a.word.now a.at c.requires l.k l.text l.invariant)

pub loop-k-preserved : goal.loop-k-preserved
loop-k-preserved c = let a = c.args in
    let l = c.loop-k in
    turn a.text.now a.word.now a.at c.requires l.k l.text (omega arith) l.invariant

pub shape_of-text : goal.shape_of-text
shape_of-text c = let a = c.args in
    let l = c.loop-k in
    same a.text.now a.word.now a.at c.requires l.k l.text l.invariant

pub returns : goal.returns
returns c = let a = c.args in
    let l = c.loop-k in
    finish a.text.now a.word.now a.at c.requires l.k l.text (omega arith) l.invariant
