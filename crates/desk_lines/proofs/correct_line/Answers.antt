-- Two strains and a distance, and nothing behind them.
use mathlib.Core.Path.{sym, ◌∙◌, ap}
use Rattle.desk_text.specs.Meaning.{no_more}
use Rattle.desk_words.specs.Reads.{words_at}
use Rattle.desk_words.proofs.Reading.{number_found}
use Rattle.desk_lines.proofs.Lining.{no-1, is-1, word-1, no-2, is-2, word-2, no-3, is-3, distance-3, next-3, correct-no-i, correct-no-j, correct-no-far, correct-more, correct-some}
use Rattle.desk_lines.proofs.correct_line.Goals as goal

pub returns-in_err-i : goal.returns-in_err-i
returns-in_err-i c = λ ds ps ns. let h = number_found _ _ _ _ c.number_at.ensures c.in_err-i.ensures.value in
    rw c.from_residual.ensures (correct-no-i (words_at c.args.line.now c.args.at) ds ps ns (no-1 _ _ h))

pub returns-in_err-j : goal.returns-in_err-j
returns-in_err-j c = λ ds ps ns.
    let h = number_found _ _ _ _ c.number_at.ensures c.in_ok-i.ensures.value in
    let g = number_found _ _ _ _ c.number_at-2.ensures c.in_err-j.ensures.value in
    rw c.from_residual-in_err-j.ensures (correct-no-j (words_at c.args.line.now c.args.at) ds ps ns (is-1 _ _ _ h) (no-2 _ _ _ h g))

pub returns-in_err-far : goal.returns-in_err-far
returns-in_err-far c = λ ds ps ns.
    let h = number_found _ _ _ _ c.number_at.ensures c.in_ok-i.ensures.value in
    let g = number_found _ _ _ _ c.number_at-2.ensures c.in_ok-j.ensures.value in
    let f = number_found _ _ _ _ c.number_at-3.ensures c.in_err-far.ensures.value in
    rw c.from_residual-in_err-far.ensures (correct-no-far (words_at c.args.line.now c.args.at) ds ps ns (is-1 _ _ _ h) (is-2 _ _ _ h _ g) (no-3 _ _ _ h _ g f))

pub returns-then-not-over : goal.returns-then-not-over
returns-then-not-over c = λ ds ps ns.
    let h = number_found _ _ _ _ c.number_at.ensures c.in_ok-i.ensures.value in
    let g = number_found _ _ _ _ c.number_at-2.ensures c.in_ok-j.ensures.value in
    let f = number_found _ _ _ _ c.number_at-3.ensures c.in_ok-far.ensures.value in
    correct-more (words_at c.args.line.now c.args.at) ds ps ns (is-1 _ _ _ h) (is-2 _ _ _ h _ g) (is-3 _ _ _ h _ g _ f) (ap no_more (sym (next-3 _ _ _ h _ g _ f)) ∙ sym c.over.ensures ∙ c.if-not-over.true)

pub returns : goal.returns
returns c = λ ds ps ns.
    let h = number_found _ _ _ _ c.number_at.ensures c.in_ok-i.ensures.value in
    let g = number_found _ _ _ _ c.number_at-2.ensures c.in_ok-j.ensures.value in
    let f = number_found _ _ _ _ c.number_at-3.ensures c.in_ok-far.ensures.value in
    correct-some (words_at c.args.line.now c.args.at) ds ps ns _ _ _ (is-1 _ _ _ h) (is-2 _ _ _ h _ g) (is-3 _ _ _ h _ g _ f) (ap no_more (sym (next-3 _ _ _ h _ g _ f)) ∙ sym c.over.ensures ∙ c.if-not-over.false)
    (c.word.ensures ∙ word-1 _ _ _ h) (c.word-2.ensures ∙ word-2 _ _ _ h _ g) (c.field.ensures ∙ distance-3 _ _ _ h _ g _ f)
