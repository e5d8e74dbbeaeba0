-- Without a mean square the line is two words; with one it is the word and two fields.
use native.Mathlib.Omega.{arith}
use lib.IntN.{pos}
use lib.ListN.{get_or}
use denote.Bor.{Bor}
use mathlib.Core.Path.{subst, ap}
use mathlib.Core.List.{List}
use Prim.Native.Nat.{ℕ}
use Rattle.std.specs.Prelude.{Option, IfSome, option_copied}
use Rattle.lines.specs.Lines.{mean_word}
use Rattle.long_digits.specs.Digits.{natural}
use Rattle.long_fields.proofs.Numbers.{two-wrote}
use Rattle.long_lines.specs.LongLines.{Digits}
use Rattle.long_lines.proofs.Lines.{digits-length, mean-none, mean-over}
use Rattle.long_lines.proofs.mean_line.Goals as goal
use Rattle.long_lines.proofs.mean_line.Goals.{In-Some}

-- what it is over is in digits too
over : (c : In-Some) → Digits c.args.levels c.in-Some.digits.now
over c = subst (λ (o : Option (Bor (List ℕ))). IfSome (option_copied o) (λ ds. Digits c.args.levels ds)) c.in-Some.is c.requires.digits.1

pub field-next-requires-in-Some : goal.field-next-requires-in-Some
field-next-requires-in-Some c = let w = over (goal.at.field-next-requires-in-Some c).In-Some in record {
  levels_le_wide_size = (w.most, w.there, omega (arith, c.requires.room, c.field-next.ensures.place, digits-length c.requires.digits.0, c.put_word-next.ensures.place));
  by_index = w.small;
}

pub put-requires : goal.put-requires
put-requires c = omega (arith, c.requires.room, c.field-next-in-Some.ensures.place, digits-length (over (goal.at.put-requires c).In-Some), c.field-next.ensures.place, digits-length c.requires.digits.0, c.put_word-next.ensures.place)

pub returns-in-None : goal.returns-in-None
returns-in-None c = mean-none (pos (natural c.args.levels (λ k. get_or c.args.f.now k 0))) c.args.levels _ (ap (λ (o : Option (Bor (List ℕ))). option_copied o) c.in-None.is) c.put_word.ensures

pub returns-in-Some : goal.returns-in-Some
returns-in-Some c = let w = over (goal.at.returns-in-Some c).In-Some in
    mean-over _ c.args.levels _ c.in-Some.digits.now (ap (λ (o : Option (Bor (List ℕ))). option_copied o) c.in-Some.is)
    (two-wrote mean_word _ _ (omega (arith, c.requires.room, digits-length c.requires.digits.0, digits-length w)) c.put_word-next.ensures c.field-next.ensures c.field-next-in-Some.ensures c.put.ensures)
