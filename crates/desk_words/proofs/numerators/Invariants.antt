-- The run is taken word by word, until one is no numerator or the line ends.
use Prim.Native.Nat.{◌-◌}
use lib.ListN.{length}
use Rattle.desk_text.specs.Words.{is_signed, signed_of}
use Rattle.desk_text.specs.Fields.{cut_numerator}
use Rattle.desk_words.proofs.Taking.{Going}
use Rattle.desk_words.proofs.numerators.Given as goal

abbrev pub invariant-loop-next : goal.invariant-loop-next
invariant-loop-next l = Going is_signed (λ w. cut_numerator (signed_of w)) l.line l.at l.initial.into l.into l.count l.end

abbrev pub decreases-loop-next : goal.decreases-loop-next
decreases-loop-next l = length l.line - l.end
