-- The run is taken word by word, until one is no number or the line ends.
use Prim.Native.Nat.{◌-◌}
use lib.ListN.{length}
use Rattle.desk_text.specs.Words.{is_number, value_of}
use Rattle.desk_text.specs.Fields.{cut_to}
use Rattle.desk_words.proofs.Taking.{Going}
use Rattle.desk_words.proofs.numbers.Given as goal

abbrev pub invariant-loop-next : goal.invariant-loop-next
invariant-loop-next l = Going is_number (λ w. cut_to l.most l.above (value_of w)) l.line l.at l.initial.into l.into l.count l.end

abbrev pub decreases-loop-next : goal.decreases-loop-next
decreases-loop-next l = length l.line - l.end
