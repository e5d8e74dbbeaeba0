-- What the read of this turn tells is what comes of the reads to come.
use mathlib.Core.Path.{◌≡◌, subst}
use Prim.Native.Nat.{ℕ}
use lib.ListN.{length}
use borrow.Author.Rules.{rules}
use Rattle.std.specs.Prelude.{Option}
use Rattle.streams.specs.Reads.{ReadOnce, ReadIn}
use Rattle.streams.proofs.AfterRead.{went, ended, broke, filled}
use Rattle.streams.proofs.take_in.Goals as goal

-- the buffer's length stays
once : (room room' count : ℕ) (r : Option ℕ) → room ≡ room' → ReadOnce room count r → ReadOnce room' count r
once room room' count r e h = subst (λ (n : ℕ). ReadOnce n count r) e h

pub returns-in_default-clause-read_in : goal.returns-in_default-clause-read_in
returns-in_default-clause-read_in g c =
    c.loop-count.invariant.2 _ (broke _ _ (once _ _ c.loop-count.count _ c.loop-count.invariant.0 (c.in_default.ensures.read_once)) (search rules))

pub returns-then-next-count-clause-read_in : goal.returns-then-next-count-clause-read_in
returns-then-next-count-clause-read_in g c = c.loop-count.invariant.2 _ (ended _ _ (search rules))

pub loop-count-preserved : goal.loop-count-preserved
loop-count-preserved g c =
    let q = went _ _ _ (once _ _ c.loop-count.count _ c.loop-count.invariant.0 c.in-Some.ensures.read_once) (search rules) c.if-next-count.false in
    (search rules, search (rules, q), λ r later. c.loop-count.invariant.2 r (q.2 r later))

pub returns-clause-read_in : goal.returns-clause-read_in
returns-clause-read_in g c = c.loop-count.invariant.2 _ (filled _ _ (search rules))
