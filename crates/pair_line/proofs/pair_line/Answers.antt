-- The names, and behind them what stands there by whether the pair was measured.
use native.Mathlib.Omega.{arith}
use mir.Facts.{to_z-of_z}
use Rattle.pair_line.specs.Line.{name_at}
use Rattle.pair_line.proofs.Lining.{room_after, name-length, head-length, line-missing, line-measured}
use Rattle.pair_line.proofs.pair_line.Goals as goal

pub put_unmeasured-requires : goal.put_unmeasured-requires
put_unmeasured-requires c = let a = c.args in let w = name-length a.names.now a.first c.requires.name_there.0.within in let u = name-length a.names.now a.second c.requires.name_there.1.within in room_after 49 (omega (arith, c.requires.widest_pair_in_bounds, c.requires.name_there.0.short, c.requires.name_there.1.short, w, u, head-length (name_at a.names.now a.first) (name_at a.names.now a.second))) c.put_head-next.ensures

pub returns-then-far-eq-MISSING : goal.returns-then-far-eq-MISSING
returns-then-far-eq-MISSING c = let a = c.args in let w = name-length a.names.now a.first c.requires.name_there.0.within in let u = name-length a.names.now a.second c.requires.name_there.1.within in line-missing _ _ a.far a.d a.p a.q (omega (arith, c.requires.widest_pair_in_bounds, c.requires.name_there.0.short, c.requires.name_there.1.short, w, u)) c.put_head-next.ensures (omega arith) (simp (to_z-of_z c.ranges.p, to_z-of_z c.ranges.q) at c.put_unmeasured.ensures)

pub put_measured-requires : goal.put_measured-requires
put_measured-requires c = record {
  p_bound = simp (to_z-of_z c.ranges.p) c.requires.p_bound;
  at_in_bounds = let a = c.args in let w = name-length a.names.now a.first c.requires.name_there.0.within in let u = name-length a.names.now a.second c.requires.name_there.1.within in room_after 89 (omega (arith, c.requires.widest_pair_in_bounds, c.requires.name_there.0.short, c.requires.name_there.1.short, w, u, head-length (name_at a.names.now a.first) (name_at a.names.now a.second))) c.put_head-next.ensures;
}

pub returns : goal.returns
returns c = let a = c.args in let w = name-length a.names.now a.first c.requires.name_there.0.within in let u = name-length a.names.now a.second c.requires.name_there.1.within in line-measured _ _ a.far a.d a.p a.q (omega (arith, c.requires.widest_pair_in_bounds, c.requires.name_there.0.short, c.requires.name_there.1.short, w, u)) c.put_head-next.ensures (λ e. omega arith) (simp (to_z-of_z c.ranges.p, to_z-of_z c.ranges.q) at c.put_measured.ensures)
