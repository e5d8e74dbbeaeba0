-- How long the line is, then its first byte, then its first word.
use Rattle.desk_heads.proofs.Heading.{head-long, head_comment, head-blank, head-other, head-word}
use Rattle.desk_heads.proofs.head_of.Goals as goal

pub returns-then-line-gt-MAX_LINE : goal.returns-then-line-gt-MAX_LINE
returns-then-line-gt-MAX_LINE c = head-long _ c.if-line-gt-MAX_LINE.true

pub returns-then-byte_at-eq35 : goal.returns-then-byte_at-eq35
returns-then-byte_at-eq35 c = head_comment _ c.if-line-gt-MAX_LINE.false _ c.byte_at.ensures c.if-byte_at-eq35.true

pub returns-then-first-end : goal.returns-then-first-end
returns-then-first-end c = head-blank _ c.if-line-gt-MAX_LINE.false _ c.byte_at.ensures c.if-byte_at-eq35.false _ c.word_at-first.ensures c.if-first-end.true

pub returns-in_err-kind : goal.returns-in_err-kind
returns-in_err-kind c = rw c.from_residual.ensures (head-other _ c.if-line-gt-MAX_LINE.false _ c.byte_at.ensures c.if-byte_at-eq35.false _ c.word_at-first.ensures c.if-first-end.false c.in_err-kind.ensures)

pub returns : goal.returns
returns c = head-word _ c.if-line-gt-MAX_LINE.false _ c.byte_at.ensures c.if-byte_at-eq35.false _ c.word_at-first.ensures c.if-first-end.false _ c.in_ok-kind.ensures
