-- The letters behind the blanks.
use Rattle.desk_words.proofs.Reading.{number-from}
use Rattle.desk_words.proofs.number_at.Goals as goal

pub returns : goal.returns
returns c = number-from _ _ _ _ c.blanks_end-start.ensures.0 c.blanks_end-start.ensures.1 _ c.digits_at.ensures c.ok_or.ensures.value
