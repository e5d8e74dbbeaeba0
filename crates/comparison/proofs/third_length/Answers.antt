-- The third record starts where `records` says, and lies in the sheet; its numerators are the sheet's.
use mathlib.Core.Path.{◌≡◌, refl, sym, ◌∙◌, ap₂, subst, subst₂}
use Prim.Native.Nat.{ℕ, ◌+◌, ◌*◌, ◌≤◌}
use native.Mathlib.Omega.{arith}
use lib.IntN.{ℤ}
use mathlib.Core.List.{List}
use lib.ListN.{length, get_or}
use Rattle.exact.specs.Sum.{sum}
use Rattle.exact.specs.Table.{entry_of}
use Rattle.std.specs.Prelude.{Ok}
use Rattle.verdict.specs.Answer.{pass}
use Rattle.verdict.specs.declared.Rule.TheVariants.{Plain}
use Rattle.pairs.specs.Ready.{InRange}
use Rattle.records.specs.declared.Layout.{Layout}
use Rattle.records.specs.Form.{start_of}
use Rattle.records.specs.Laid.{LayoutAnswer}
use Rattle.reading.specs.Holds.{edges_of}
use Rattle.reading.specs.Tests.{sheet_tests}
use Rattle.sheet.proofs.Laws.{sheet-form, third-record}
use Rattle.comparison.proofs.Laws.{accepted-short}
use Rattle.comparison.proofs.Measuring.{has_value, few, ranged, length-of, edges_are, denominator-is, held-is, inside}
use Rattle.comparison.proofs.third_length.Goals as goal
use Rattle.comparison.proofs.third_length.Goals.{After-unwrap-laid}

-- where its third record starts, and that it lies in the sheet
module _ (s : List ℕ) (z : sheet_tests Plain s ≡ pass) (r : Layout) (a : LayoutAnswer 3 s (Ok r)) where
  starts : get_or r.starts 2 0 ≡ start_of s 2
  starts = (third-record Plain s r a).start z

  room : get_or r.starts 2 0 + 6 + 6 + 8 * edges_of s ≤ length s
  room = inside s z (get_or r.starts 2 0) starts (edges_of s) refl

-- an accepted sheet has the form
pub unwrap-laid-requires : goal.unwrap-laid-requires
unwrap-laid-requires c = has_value c.records.result (c.records.ensures.answer ∙ sheet-form c.args.s.now Plain c.requires)

-- so its records are laid
laid : (c : After-unwrap-laid) → LayoutAnswer 3 c.args.s.now (Ok c.unwrap-laid.result)
laid c = subst (LayoutAnswer 3 c.args.s.now) c.unwrap-laid.ensures c.records.ensures

pub overflow_add-body : goal.overflow_add-body
overflow_add-body c = record { fits = omega (arith, room _ c.requires _ (laid (goal.at.overflow_add-body c).After-unwrap-laid), accepted-short _ c.requires) }

pub overflow_add-body-2 : goal.overflow_add-body-2
overflow_add-body-2 c = record { fits = omega (arith, room _ c.requires _ (laid (goal.at.overflow_add-body-2 c).After-unwrap-laid), accepted-short _ c.requires) }

pub u16_at-edges-requires : goal.u16_at-edges-requires
u16_at-edges-requires c = omega (arith, room _ c.requires _ (laid (goal.at.u16_at-edges-requires c).After-unwrap-laid))

pub overflow_add-body-3 : goal.overflow_add-body-3
overflow_add-body-3 c = record { fits = omega (arith, room _ c.requires _ (laid (goal.at.overflow_add-body-3 c).After-unwrap-laid), accepted-short _ c.requires) }

pub numerators-numerators-requires : goal.numerators-numerators-requires
numerators-numerators-requires c = let n = edges_are c.args.s.now c.requires _ (starts _ c.requires _ (laid (goal.at.numerators-numerators-requires c).After-unwrap-laid)) c.u16_at-edges.result c.u16_at-edges.ensures in
    (omega (arith, n, few c.args.s.now c.requires), omega (arith, n, room _ c.requires _ (laid (goal.at.numerators-numerators-requires c).After-unwrap-laid)))

pub total-requires : goal.total-requires
total-requires c = let e = starts c.args.s.now c.requires _ (laid (goal.at.total-requires c).After-unwrap-laid) in
    let n = edges_are c.args.s.now c.requires _ e c.u16_at-edges.result c.u16_at-edges.ensures in
    record {
      edges_le_max_edges = omega (arith, n, few c.args.s.now c.requires);
      in_range = subst₂ InRange (sym n) (sym (held-is c.args.s.now c.requires _ e _ _ n c.numerators-numerators.ensures)) (ranged c.args.s.now c.requires);
    }

pub u32_at-requires : goal.u32_at-requires
u32_at-requires c = omega (arith, room _ c.requires _ (laid (goal.at.u32_at-requires c).After-unwrap-laid))

pub returns : goal.returns
returns c = let e = starts c.args.s.now c.requires _ (laid (goal.at.returns c).After-unwrap-laid) in
    let n = edges_are c.args.s.now c.requires _ e c.u16_at-edges.result c.u16_at-edges.ensures in
    length-of c.args.s.now c.requires c.total.result c.u32_at.result
    (c.total.ensures ∙ ap₂ (λ (n : ℕ) (ns : List ℤ). sum n (entry_of ns)) n (held-is c.args.s.now c.requires _ e _ _ n c.numerators-numerators.ensures))
    (denominator-is c.args.s.now c.requires _ e c.u32_at.result c.u32_at.ensures)
