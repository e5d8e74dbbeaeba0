-- By the kind: names are walked, other bodies counted.
use mathlib.Core.Path.{sym, ap₂, ◌∙◌}
use mathlib.Core.Bool.{not}
use Prim.Native.Nat.{ℕ, ◌+◌}
use lib.Dec.{eqb}
use Rattle.records.proofs.Counts.{body_names, body_long, body_counts}
use Rattle.records.proofs.body_out.Goals as goal

pub returns-then-kind-eq-NAMES : goal.returns-then-kind-eq-NAMES
returns-then-kind-eq-NAMES c = let a = c.args in
    ap₂ (λ (x y : ℕ). not (eqb x (a.at + 6 + y))) c.names_at-names.ensures.1 c.u32_at.ensures
    ∙ sym (body_names a.s.now a.at a.kind c.if-kind-eq-NAMES.true)

pub returns-then-kind-eq-LONG : goal.returns-then-kind-eq-LONG
returns-then-kind-eq-LONG c = let a = c.args in
    c.long_out.ensures ∙ sym (body_long a.s.now a.at a.kind c.if-kind-eq-NAMES.false c.if-kind-eq-LONG.true)

pub returns : goal.returns
returns c = let a = c.args in
    c.counts_out.ensures ∙ sym (body_counts a.s.now a.at a.kind c.if-kind-eq-NAMES.false c.if-kind-eq-LONG.false)
