-- Judged first: names and text, then the room. What passes stands at the front of both tables.
use Rattle.verdict.specs.Answer.{Verdict, answer_of}
use Rattle.verdict.proofs.Answers.{handed_on}
use Rattle.newick_read.specs.Answers.{Reads}
use Rattle.newick_read.proofs.Reading.{read_refused, room_refused, read-filled}
use Rattle.newick_read.proofs.read.Goals as goal

pub returns-in_err-found : goal.returns-in_err-found
returns-in_err-found c = let a = c.args in
    handed_on (λ (r : Verdict). Reads a.names.now a.text.now a.parents.now a.parents.now a.numerators.now a.numerators.now (answer_of r)) _ _ c.from_residual.ensures
    (read_refused a.names.now a.text.now a.parents.now a.numerators.now _ c.in_err-found.ensures)

pub returns-in_err-test : goal.returns-in_err-test
returns-in_err-test c = let a = c.args in
    handed_on (λ (r : Verdict). Reads a.names.now a.text.now a.parents.now a.parents.now a.numerators.now a.numerators.now (answer_of r)) _ _ c.from_residual-in_err-test.ensures
    (room_refused a.names.now a.text.now a.parents.now a.numerators.now c.in_ok-found.ensures c.room_out.result c.room_out.ensures _ c.in_err-test.ensures)

pub returns : goal.returns
returns c = let a = c.args in
    read-filled a.names.now a.text.now a.parents.now a.numerators.now c.in_ok-found.ensures c.room_out.result c.room_out.ensures c.in_ok-test.ensures
    c.copy_from_slice.new.self c.copy_from_slice-2.new.self c.copy_from_slice.ensures.after c.copy_from_slice-2.ensures.after
