-- One digit a turn.
use Prim.Native.Nat.{◌-◌}
use native.Mathlib.Omega.{arith}
use lib.ListN.{get_or}
use Rattle.writing.proofs.Writing.{wrote-length}
use Rattle.long_writing.proofs.Growing.{sixing_start, sixing_room, sixing_turn, sixing_end, sixes-length}
use Rattle.long_writing.proofs.put_sixes.Goals as goal

pub loop-k-init : goal.loop-k-init
loop-k-init c = sixing_start _ _ _ _ _ c.requires.from_le_levels.0

pub put_six-next-requires : goal.put_six-next-requires
put_six-next-requires c = let l = c.loop-k in (c.requires.by_index l.k, sixing_room c.args.from c.args.levels (λ i. get_or c.args.digits.now i 0) c.args.text.now c.args.at c.requires.from_le_levels.2 l.text l.k l.next l.invariant c.loop-k-test.true)

pub loop-k-preserved : goal.loop-k-preserved
loop-k-preserved c = let l = c.loop-k in sixing_turn c.args.from c.args.levels (λ i. get_or c.args.digits.now i 0) c.args.text.now c.args.at c.requires.from_le_levels.2 l.text _ l.k l.next _ l.invariant c.loop-k-test.true c.put_six-next.ensures

pub shape_of-text : goal.shape_of-text
shape_of-text c = let l = c.loop-k in wrote-length (omega (arith, c.requires.from_le_levels.2, sixes-length c.args.from (c.args.levels - c.args.from) (λ i. get_or c.args.digits.now i 0))) (sixing_end c.args.from c.args.levels (λ i. get_or c.args.digits.now i 0) c.args.text.now c.args.at c.requires.from_le_levels.2 l.text l.k l.next c.loop-k-test.false l.invariant)

pub returns : goal.returns
returns c = let l = c.loop-k in sixing_end c.args.from c.args.levels (λ i. get_or c.args.digits.now i 0) c.args.text.now c.args.at c.requires.from_le_levels.2 l.text l.k l.next c.loop-k-test.false l.invariant
