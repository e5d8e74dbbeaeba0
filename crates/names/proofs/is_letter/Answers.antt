-- The four tests cut the bytes at both ends of both ranges.
use native.Mathlib.Omega.{arith}
use borrow.Author.Tests.{lt-leb, le-leb}
use Rattle.names.proofs.is_letter.Goals as goal

pub returns-then-byte-lt65 : goal.returns-then-byte-lt65
returns-then-byte-lt65 c = let x = c.args.byte in simp (lt-leb 65 x (omega arith), lt-leb 97 x (omega arith))

pub returns-then-byte-le90 : goal.returns-then-byte-le90
returns-then-byte-le90 c = let x = c.args.byte in simp (le-leb 65 x (omega arith), le-leb x 90 (omega arith))

pub returns-then-byte-lt97 : goal.returns-then-byte-lt97
returns-then-byte-lt97 c = let x = c.args.byte in simp (le-leb 65 x (omega arith), lt-leb x 90 (omega arith), lt-leb 97 x (omega arith))

pub returns : goal.returns
returns c = let x = c.args.byte in simp (le-leb 65 x (omega arith), lt-leb x 90 (omega arith), le-leb 97 x (omega arith))
