-- The front is the entries, and what is behind them stays.
use mathlib.Core.Path.{sym, ap, ◌∙◌}
use lib.ListN.{length, drop}
use mathlib.Core.List.{◌++◌}
use Rattle.arrays.proofs.Tables.{behind}
use Rattle.arrays.proofs.padded.Goals as goal

pub returns : goal.returns
returns g c = let a = c.args in
    ap (λ front. front ++ drop (length a.entries.now) c.filled-kept.result) c.copy_from_slice.ensures.after
    ∙ behind _ a.value a.entries.now c.filled-kept.result c.requires c.filled-kept.ensures.throughout
