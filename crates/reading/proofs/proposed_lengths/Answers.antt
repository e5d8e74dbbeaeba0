-- Two records have no lengths; of three or four, K is compared before a numerator is read.
use mathlib.Core.Path.{◌≡◌, refl, sym, ◌∙◌}
use mathlib.Core.List.{List}
use Prim.Native.Nat.{ℕ, ◌+◌, ◌*◌, ◌<◌, ◌≤◌}
use native.Mathlib.Omega.{arith}
use lib.ListN.{length}
use Rattle.endian.specs.Bytes.{number}
use Rattle.records.specs.Form.{max_named}
use Rattle.reading.proofs.Formed.{lengths-end}
use Rattle.reading.proofs.Lengthened.{without-lengths, other-count, with_lengths}
use Rattle.reading.proofs.proposed_lengths.Goals as goal
use Rattle.reading.proofs.proposed_lengths.Goals.{Else-count-eq2}

abbrev bytes : Else-count-eq2 → List ℕ
bytes c = c.args.s.now

three : (c : Else-count-eq2) → 2 < c.args.count
three c = omega arith

ends : (c : Else-count-eq2)
    → let at = c.args.at in
    (at + 12 + 8 * number 2 (bytes c) (at + 6 + 4) ≤ length (bytes c)) × (length (bytes c) ≤ max_named)
ends c = lengths-end c.args.count (bytes c) c.requires.le_count.2 (omega arith) _ c.requires.le_count.3

pub returns-then-count-eq2 : goal.returns-then-count-eq2
returns-then-count-eq2 c = without-lengths _ _ _ c.if-count-eq2.true c.requires.numerators_value

pub overflow_add-body : goal.overflow_add-body
overflow_add-body c = record { fits = omega (arith, ends c) }

pub overflow_add-body-2 : goal.overflow_add-body-2
overflow_add-body-2 c = record { fits = omega (arith, ends c) }

pub u16_at-requires : goal.u16_at-requires
u16_at-requires c = omega (arith, ends c)

pub returns-then-u16_at-edges : goal.returns-then-u16_at-edges
returns-then-u16_at-edges c = other-count _ _ _ _ _ c.requires.le_count.3 c.u16_at.ensures c.requires.edges_value.0 _ (three (goal.at.returns-then-u16_at-edges c).Else-count-eq2) c.if-u16_at-edges.true

pub overflow_add-body-3 : goal.overflow_add-body-3
overflow_add-body-3 c = record { fits = omega (arith, ends (goal.at.overflow_add-body-3 c).Else-count-eq2) }

pub numerators_into-requires : goal.numerators_into-requires
numerators_into-requires c = let k : c.args.edges ≡ number 2 (bytes (goal.at.numerators_into-requires c).Else-count-eq2) (c.args.at + 6 + 4) = sym c.if-u16_at-edges.false ∙ c.u16_at.ensures in
    record {
      count_le_max_edges = (c.requires.edges_value.1, omega (arith, ends (goal.at.numerators_into-requires c).Else-count-eq2));
      held_value = c.requires.numerators_value;
    }

pub u32_at-requires : goal.u32_at-requires
u32_at-requires c = omega (arith, ends (goal.at.u32_at-requires c).Else-count-eq2)

pub returns : goal.returns
returns c = with_lengths _ _ _ _ _ c.requires.le_count.3 c.u16_at.ensures c.requires.edges_value.0 _ (three (goal.at.returns c).Else-count-eq2) c.if-u16_at-edges.false _ c.u32_at.ensures refl c.numerators_into.ensures
