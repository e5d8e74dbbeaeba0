-- By the kind that the first word makes the line.
use mathlib.Core.Path.{ap}
use Rattle.desk_heads.specs.Heads.{is_call}
use Rattle.desk_heads.specs.declared.Kind.TheVariants as kinds
use Rattle.desk_meaning.proofs.ByKind.{silent-line, wrong-line, of-kind}
use Rattle.desk_meaning.proofs.read_line.Goals as goal

pub posting_line-requires : goal.posting_line-requires
posting_line-requires c = let p = c.requires in let h = c.in_ok-head.ensures in (h.read.within, h.read.short (ap is_call c.in-Post.is), p.0, p.1, p.2)

pub propose_line-requires : goal.propose_line-requires
propose_line-requires c = let p = c.requires in let h = c.in_ok-head.ensures in (h.read.within, h.read.short (ap is_call c.in-Propose.is), p.3)

pub returns-in-Silent : goal.returns-in-Silent
returns-in-Silent c = of-kind _ _ kinds.Silent _ _ _ _ c.in_ok-head.ensures c.in-Silent.is silent-line

pub returns-in_err-head : goal.returns-in_err-head
returns-in_err-head c = rw c.from_residual.ensures (wrong-line _ _ _ _ c.in_err-head.ensures)

pub returns-in-Post : goal.returns-in-Post
returns-in-Post c = of-kind _ _ kinds.Post _ _ _ _ c.in_ok-head.ensures c.in-Post.is (c.posting_line.ensures _)

pub returns-in-Propose : goal.returns-in-Propose
returns-in-Propose c = of-kind _ _ kinds.Propose _ _ _ _ c.in_ok-head.ensures c.in-Propose.is (c.propose_line.ensures _ _)

pub returns-in-Correct : goal.returns-in-Correct
returns-in-Correct c = of-kind _ _ kinds.Correct _ _ _ _ c.in_ok-head.ensures c.in-Correct.is (c.correct_line.ensures _ _ _)

pub returns-in-Withdraw : goal.returns-in-Withdraw
returns-in-Withdraw c = of-kind _ _ kinds.Withdraw _ _ _ _ c.in_ok-head.ensures c.in-Withdraw.is (c.withdraw_line.ensures _ _ _)

pub returns-in-Show : goal.returns-in-Show
returns-in-Show c = of-kind _ _ (kinds.Show _) _ _ _ _ c.in_ok-head.ensures c.in-Show.is (c.show_line.ensures _ _ _)
