-- A bench and a denominator, then numerators to the end of the line.
use mathlib.Core.Path.{sym, ◌∙◌, ap}
use mathlib.Core.List.{List, map}
use Prim.Native.Nat.{ℕ}
use native.Mathlib.Omega.{arith}
use Rattle.desk_text.specs.Words.{is_signed, signed_of, leading, behind}
use Rattle.desk_text.specs.Meaning.{no_more}
use Rattle.desk_text.specs.Fields.{cut_numerator}
use Rattle.desk_posts.proofs.Lining.{room, taken-values, taken-size}
use Rattle.desk_words.specs.Reads.{words_at}
use Rattle.desk_words.proofs.Reading.{number_found}
use Rattle.desk_lines.proofs.Lining.{no-1, is-1, word-1, no-2, is-2, word-2, next-2, propose-no-bench, propose-no-d, propose-more, propose-some}
use Rattle.desk_lines.proofs.propose_line.Goals as goal

pub returns-in_err-bench : goal.returns-in_err-bench
returns-in_err-bench c = λ ds ps. let h = number_found _ _ _ _ c.number_at.ensures c.in_err-bench.ensures.value in
    rw c.from_residual.ensures (propose-no-bench (words_at c.args.line.now c.args.at) ds ps _ (no-1 _ _ h))

pub returns-in_err-d : goal.returns-in_err-d
returns-in_err-d c = λ ds ps.
    let h = number_found _ _ _ _ c.number_at.ensures c.in_ok-bench.ensures.value in
    let g = number_found _ _ _ _ c.number_at-2.ensures c.in_err-d.ensures.value in
    rw c.from_residual-in_err-d.ensures (propose-no-d (words_at c.args.line.now c.args.at) ds ps _ (is-1 _ _ _ h) (no-2 _ _ _ h g))

pub numerators-taken-requires : goal.numerators-taken-requires
numerators-taken-requires c = let p = c.requires in let g = number_found _ _ _ _ c.number_at-2.ensures c.in_ok-d.ensures.value in
    (g.read.within, let n = room c.args.line.now c.in_ok-d.d.end p.1 in omega (arith, n, p.2))

pub returns-then-not-over : goal.returns-then-not-over
returns-then-not-over c = λ ds ps.
    let h = number_found _ _ _ _ c.number_at.ensures c.in_ok-bench.ensures.value in
    let g = number_found _ _ _ _ c.number_at-2.ensures c.in_ok-d.ensures.value in
    let t = c.numerators-taken.ensures in
    propose-more (words_at c.args.line.now c.args.at) ds ps _ (is-1 _ _ _ h) (is-2 _ _ _ h _ g)
    (ap (λ (l : List (List ℕ)). no_more (behind is_signed l)) (sym (next-2 _ _ _ h _ g)) ∙ sym (ap no_more t.rest-is) ∙ sym c.over.ensures ∙ c.if-not-over.true)

pub returns : goal.returns
returns c = λ ds ps.
    let h = number_found _ _ _ _ c.number_at.ensures c.in_ok-bench.ensures.value in
    let g = number_found _ _ _ _ c.number_at-2.ensures c.in_ok-d.ensures.value in
    let t = c.numerators-taken.ensures in
    propose-some (words_at c.args.line.now c.args.at) ds ps _ _ _ _ (is-1 _ _ _ h) (is-2 _ _ _ h _ g)
    (ap (λ (l : List (List ℕ)). no_more (behind is_signed l)) (sym (next-2 _ _ _ h _ g)) ∙ sym (ap no_more t.rest-is) ∙ sym c.over.ensures ∙ c.if-not-over.false)
    (c.word.ensures ∙ word-1 _ _ _ h) (c.word-2.ensures ∙ word-2 _ _ _ h _ g)
    (taken-values is_signed _ _ _ _ _ _ t ∙ ap (λ (l : List (List ℕ)). map (λ w. cut_numerator (signed_of w)) (leading is_signed l)) (next-2 _ _ _ h _ g))
    (let n = taken-size is_signed _ _ _ _ _ _ t in let b = t.few in omega (arith, n, b))
