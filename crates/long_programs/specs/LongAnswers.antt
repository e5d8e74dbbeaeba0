-- What a program for long sheets answers to what was read.
use Rattle.std.specs.Prelude.{List, [], ℕ, take, Result, Ok, Err}
use Rattle.verdict.specs.declared.Rule.{Rule}
use Rattle.long_prints.specs.LongPrints.{long_text}

-- the print of the bytes that came, and nothing where a read failed
unfoldable pub long_answer_text : Rule → Result ℕ ℕ → List ℕ → List ℕ
long_answer_text rule (Err before) space = []
long_answer_text rule (Ok count) space = long_text rule (take count space)
