-- A colon, and a length right behind it.
use mathlib.Core.Path.{◌≡◌, sym, ◌∙◌}
use native.Mathlib.Omega.{arith}
use lib.ListN.{get_or}
use Rattle.digits.proofs.Reading.{inside}
use Rattle.newick_words.proofs.Words.{edge-bare, edge-short, edge-stands}
use Rattle.newick_words.proofs.edge_end.Goals as goal
use Rattle.newick_words.proofs.edge_end.Goals.{Else-byte_at-ne58}

colon : (c : Else-byte_at-ne58) → get_or c.args.text.now c.args.at 0 ≡ 58
colon c = sym c.byte_at.ensures ∙ c.if-byte_at-ne58.false

pub returns-then-byte_at-ne58 : goal.returns-then-byte_at-ne58
returns-then-byte_at-ne58 c = edge-bare c.args.text.now c.args.at c.requires (λ e. c.if-byte_at-ne58.true (c.byte_at.ensures ∙ e))

pub length_end-end-requires : goal.length_end-end-requires
length_end-end-requires c = let i = inside c.args.text.now c.args.at 57 (colon c) in omega (arith, i)

pub returns-then-end-at : goal.returns-then-end-at
returns-then-end-at c = edge-short c.args.text.now c.args.at c.requires (colon (goal.at.returns-then-end-at c).Else-byte_at-ne58) c.length_end-end.result c.length_end-end.ensures.0 c.if-end-at.true

pub returns : goal.returns
returns c = (edge-stands c.args.text.now c.args.at c.requires (colon (goal.at.returns c).Else-byte_at-ne58) c.length_end-end.result c.length_end-end.ensures.0 c.if-end-at.false, c.length_end-end.ensures.1)
