-- A refusal of the reader is the sheet's; what it accepts is decoded, judged and printed.
use native.Mathlib.Omega.{arith}
use Rattle.fit_theory.specs.Stands.{Posted}
use Rattle.writing.specs.Text.{Wrote}
use Rattle.answer_lines.specs.Texts.{by_answer}
use Rattle.long_theory.specs.Tests.{long_proposal_tests}
use Rattle.long_reading.proofs.Parts.{Parts, accepted, read-parts}
use Rattle.long_sheet.proofs.Lent.{levels-room, levels-size, levels_are, zeros-room, zeros-size, digits-room, digits-size, digits_are, of-lent, to-lent}
use Rattle.long_fit_lines.specs.LongTexts.{long_fit_of}
use Rattle.long_prints.proofs.Sheets.{sheet-refused, sheet-read}
use Rattle.long_prints.proofs.print_long.Goals as goal
use Rattle.long_prints.proofs.print_long.Goals.{In-Ok}

-- what was read, where the reader accepts
held : (c : In-Ok) → Parts c.args.s.now c.in-Ok.sheet
held c = read-parts _ _ c.in-Ok.ensures

pub returns-in-Err : goal.returns-in-Err
returns-in-Err c = sheet-refused c.args.rule c.args.s.now c.in-Err.refusal _ c.in-Err.ensures c.from.ensures c.refused_line.ensures

pub overflow_mul-count : goal.overflow_mul-count
overflow_mul-count c = record { fits = omega (arith, (held (goal.at.overflow_mul-count c).In-Ok).few) }

pub denominator_digits-d-requires : goal.denominator_digits-d-requires
denominator_digits-d-requires c = let g = goal.at.denominator_digits-d-requires c in
    ((held g.In-Ok).most, (held g.In-Ok).denominator-there)

pub slice_bounds-digits-end : goal.slice_bounds-digits-end
slice_bounds-digits-end c = zeros-room (held (goal.at.slice_bounds-digits-end c).In-Ok) _ c.filled-digits.ensures.throughout

pub slice_bounds-digits_into-end : goal.slice_bounds-digits_into-end
slice_bounds-digits_into-end c = zeros-size (held (goal.at.slice_bounds-digits_into-end c).In-Ok) _ c.filled-digits.ensures.throughout

pub digits_into-requires : goal.digits_into-requires
digits_into-requires c = let g = goal.at.digits_into-requires c in
    (omega (arith, zeros-size (held g.In-Ok) _ c.filled-digits.ensures.throughout), (held g.In-Ok).numerators-there)

pub slice_bounds-distances-end : goal.slice_bounds-distances-end
slice_bounds-distances-end c = (held (goal.at.slice_bounds-distances-end c).In-Ok).front.room

pub slice_bounds-print_lengths-end : goal.slice_bounds-print_lengths-end
slice_bounds-print_lengths-end c = (held (goal.at.slice_bounds-print_lengths-end c).In-Ok).front.size

pub slice_bounds-print_lengths-count : goal.slice_bounds-print_lengths-count
slice_bounds-print_lengths-count c = (held (goal.at.slice_bounds-print_lengths-count c).In-Ok).front.starts

pub slice_bounds-print_lengths-start : goal.slice_bounds-print_lengths-start
slice_bounds-print_lengths-start c = (held (goal.at.slice_bounds-print_lengths-start c).In-Ok).front.starts

pub slice_bounds-print_lengths-end-2 : goal.slice_bounds-print_lengths-end-2
slice_bounds-print_lengths-end-2 c = (held (goal.at.slice_bounds-print_lengths-end-2 c).In-Ok).front.ends

pub slice_bounds-d-end : goal.slice_bounds-d-end
slice_bounds-d-end c = levels-room (held (goal.at.slice_bounds-d-end c).In-Ok) _ c.denominator_digits-d.ensures

pub slice_bounds-print_lengths-end-3 : goal.slice_bounds-print_lengths-end-3
slice_bounds-print_lengths-end-3 c = levels-size (held (goal.at.slice_bounds-print_lengths-end-3 c).In-Ok) _ c.denominator_digits-d.ensures

pub slice_bounds-digits-end-2 : goal.slice_bounds-digits-end-2
slice_bounds-digits-end-2 c = digits-room (held (goal.at.slice_bounds-digits-end-2 c).In-Ok) _ c.filled-digits.ensures.throughout _ c.digits_into.ensures

pub slice_bounds-print_lengths-end-4 : goal.slice_bounds-print_lengths-end-4
slice_bounds-print_lengths-end-4 c = digits-size (held (goal.at.slice_bounds-print_lengths-end-4 c).In-Ok) _ c.filled-digits.ensures.throughout _ c.digits_into.ensures

pub print_lengths-requires : goal.print_lengths-requires
print_lengths-requires c = let g = goal.at.print_lengths-requires c in
    record {
      posted = to-lent (held g.In-Ok) Posted (held g.In-Ok).posted;
      long_page_size_in_bounds = omega (arith, c.requires);
    }

pub returns : goal.returns
returns c = let g = goal.at.returns c in
    let rule = c.args.rule in
    sheet-read rule c.args.s.now (accepted _ c.in-Ok.sheet c.in-Ok.ensures)
    (of-lent (held g.In-Ok) _ _ (levels_are (held g.In-Ok) _ c.denominator_digits-d.ensures) (digits_are (held g.In-Ok) _ c.filled-digits.ensures.throughout _ c.digits_into.ensures)
    (λ n ds ps d ns. Wrote c.args.text.now c.print_lengths.new.text 0 (by_answer (long_proposal_tests rule n ds ps d ns) (long_fit_of rule n ds ps d ns)) c.print_lengths.result) c.print_lengths.ensures)
