-- No path from a vertex to itself; of two others what stands at their place.
use mathlib.Core.Path.{◌∙◌}
use native.Mathlib.Omega.{arith}
use mir.Facts.{to_z-of_z}
use Rattle.inner_paths.proofs.Reaching.{pair-within, apart-same, apart_other}
use mir.Syntax.{w64}
use Rattle.inner_paths.proofs.apart.Goals as goal

pub returns-then-p-q : goal.returns-then-p-q
returns-then-p-q c = apart-same c.args.between.now c.args.p c.args.q c.if-p-q.true

pub offset_bounds-between-pair_place : goal.offset_bounds-between-pair_place
offset_bounds-between-pair_place c = record { fits = omega (arith, c.pair_place.ensures, pair-within c.args.p c.args.q c.if-p-q.false c.requires.1 c.requires.2) }

pub bounds-between-pair_place : goal.bounds-between-pair_place
bounds-between-pair_place c = omega (arith, c.pair_place.ensures, pair-within c.args.p c.args.q c.if-p-q.false c.requires.1 c.requires.2)

pub returns : goal.returns
returns c = to_z-of_z {w = w64} (record { sfits = c.result-1.given }) ∙ apart_other c.args.between.now c.args.p c.args.q c.pair_place.result c.if-p-q.false c.pair_place.ensures
