-- By cases on whether c is a strain.
use native.Mathlib.Omega.{arith}
use borrow.Author.Tests.{lt-ltb, le-ltb}
use Rattle.edge_lengths.proofs.edge_length.Goals as goal

pub outer_length-requires : goal.outer_length-requires
outer_length-requires c = record {
  known = c.requires.known;
  c_lt_n = omega arith;
}

pub returns-then-c-n : goal.returns-then-c-n
returns-then-c-n c = rw (lt-ltb c.args.c c.args.n (omega arith)) c.outer_length.ensures

pub inner_length-requires : goal.inner_length-requires
inner_length-requires c = record {
  known = c.requires.known;
  n_le_c = (omega arith, c.requires.c_in_bounds);
}

pub returns : goal.returns
returns c = rw (le-ltb c.args.c c.args.n (omega arith)) c.inner_length.ensures
