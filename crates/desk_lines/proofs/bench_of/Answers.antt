-- The bench, and nothing behind it.
use mathlib.Core.Path.{sym, ◌∙◌, ap}
use mathlib.Core.List.{[]}
use Rattle.desk_text.specs.Meaning.{no_more}
use Rattle.desk_words.proofs.Reading.{number_found}
use Rattle.desk_lines.proofs.Lining.{is-1, word-1, next-1, bench-more, bench-some}
use Rattle.desk_lines.proofs.bench_of.Goals as goal

pub returns-then-not-over : goal.returns-then-not-over
returns-then-not-over c = let h = number_found _ _ _ _ c.number_at.ensures c.in_ok-bench.ensures.value in
    bench-more _ [] [] [] (is-1 _ _ _ h) (ap no_more (sym (next-1 _ _ _ h)) ∙ sym c.over.ensures ∙ c.if-not-over.true)

pub returns : goal.returns
returns c = let h = number_found _ _ _ _ c.number_at.ensures c.in_ok-bench.ensures.value in
    bench-some _ [] [] [] _ (is-1 _ _ _ h) (ap no_more (sym (next-1 _ _ _ h)) ∙ sym c.over.ensures ∙ c.if-not-over.false) (c.word.ensures ∙ word-1 _ _ _ h)
