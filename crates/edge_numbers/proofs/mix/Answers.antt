-- An entry a turn.
use Rattle.std.proofs.Common.{◌≡◌, ℕ, ◌-◌, ◌^◌, ◌<◌, ◌≤◌, ℤ, ◌+ℤ◌, ◌*ℤ◌, nat_abs, sym, ◌∙◌, subst, ap₂, arith, to_z-of_z, w64, to_z, of_z}
use Rattle.exact.specs.Table.{entry_of}
use Rattle.tree_theory.specs.Limits.{max_edges}
use Rattle.path_sums.proofs.Worked.{back_as}
use Rattle.edge_numbers.specs.Mixes.{Mixed}
use Rattle.edge_numbers.proofs.Mixing.{mix_start, mix_turn, mix_end}
use Rattle.edge_numbers.proofs.mix.Goals as goal
use Rattle.edge_numbers.proofs.mix.Goals.{After-blend-arg-in-loop-v-1, After-blend-mixed, Start}

few : (c : Start) → c.args.edges ≤ max_edges
few c = c.requires.edges_le_max_edges.0

-- what is handed over: the numbers themselves
module _ (c : After-blend-arg-in-loop-v-1) where
  abbrev s : Start
  s = c.before.before.before.before

  abbrev at : ℕ
  at = c.loop-v.v

  a-is : to_z w64 (of_z w64 s.args.a) ≡ s.args.a
  a-is = to_z-of_z s.ranges.a

  b_is : to_z w64 (of_z w64 s.args.b) ≡ s.args.b
  b_is = to_z-of_z s.ranges.b

  x-is : to_z w64 (of_z w64 (entry_of c.loop-v.sums at)) ≡ entry_of s.args.sums.now at
  x-is = to_z-of_z {w = w64} (record { sfits = c.blend-arg-1.given }) ∙ c.loop-v.invariant.rest at (omega arith)

  y-is : to_z w64 (of_z w64 (entry_of s.args.paths.now at)) ≡ entry_of s.args.paths.now at
  y-is = to_z-of_z {w = w64} (record { sfits = c.blend-arg-in-loop-v-1.given })

-- the entry that is written
mixed : (c : After-blend-mixed) → to_z w64 (of_z w64 c.blend-mixed.result) ≡ to_z w64 (of_z w64 (s c.before).args.a) *ℤ entry_of (s c.before).args.sums.now (at c.before) +ℤ to_z w64 (of_z w64 (s c.before).args.b) *ℤ entry_of (s c.before).args.paths.now (at c.before)
mixed c =
    back_as (c.blend-mixed.ensures ∙ ap₂ (λ x y. to_z w64 (of_z w64 (s c.before).args.a) *ℤ x +ℤ to_z w64 (of_z w64 (s c.before).args.b) *ℤ y) (x-is c.before) (y-is c.before))
    (subst (λ z. nat_abs z < 2 ^ 63) (sym (ap₂ (λ x y. x *ℤ entry_of (s c.before).args.sums.now (at c.before) +ℤ y *ℤ entry_of (s c.before).args.paths.now (at c.before)) (a-is c.before) (b_is c.before))) ((s c.before).requires.mixable.whole (at c.before) c.loop-v-test.true))

pub loop-v-init : goal.loop-v-init
loop-v-init c = mix_start _ _ _ _ _ c.requires.edges_le_max_edges.1

pub offset_bounds-sums-v : goal.offset_bounds-sums-v
offset_bounds-sums-v c = record { fits = omega (arith, few c.before.before, c.loop-v-test.true) }

pub bounds-sums-v : goal.bounds-sums-v
bounds-sums-v c = omega (arith, few c.before.before, c.loop-v-test.true)

pub offset_bounds-paths-v : goal.offset_bounds-paths-v
offset_bounds-paths-v c = record { fits = omega (arith, few c.before.before.before, c.loop-v-test.true) }

pub bounds-paths-v : goal.bounds-paths-v
bounds-paths-v c = omega (arith, few c.before.before.before, c.loop-v-test.true)

pub blend-mixed-requires : goal.blend-mixed-requires
blend-mixed-requires c = let m = (s c).requires.mixable in
    let l = c.loop-v-test.true in (
      subst (λ z. nat_abs z < 2 ^ 63) (sym (ap₂ ◌*ℤ◌ (a-is c) (x-is c))) (m.first (at c) l),
      subst (λ z. nat_abs z < 2 ^ 63) (sym (ap₂ ◌*ℤ◌ (b_is c) (y-is c))) (m.second (at c) l),
      subst (λ z. nat_abs z < 2 ^ 63) (sym (ap₂ ◌+ℤ◌ (ap₂ ◌*ℤ◌ (a-is c) (x-is c)) (ap₂ ◌*ℤ◌ (b_is c) (y-is c)))) (m.whole (at c) l),
    )

pub offset_bounds-sums-v-in-loop-v : goal.offset_bounds-sums-v-in-loop-v
offset_bounds-sums-v-in-loop-v c = record { fits = omega (arith, few c.before.before.before.before.before, c.loop-v-test.true) }

pub bounds-sums-v-in-loop-v : goal.bounds-sums-v-in-loop-v
bounds-sums-v-in-loop-v c = omega (arith, few c.before.before.before.before.before, c.loop-v-test.true)

pub loop-v-preserved : goal.loop-v-preserved
loop-v-preserved c = mix_turn _ _ _ _ _ _ _ _ (few (s c.before)) c.loop-v-test.true c.loop-v.invariant (mixed c)

pub returns : goal.returns
returns c = subst (λ (x : ℤ). Mixed c.args.edges x c.args.b c.args.sums.now c.args.paths.now c.loop-v.sums) (to_z-of_z c.ranges.a)
    (subst (λ (y : ℤ). Mixed c.args.edges (to_z w64 (of_z w64 c.args.a)) y c.args.sums.now c.args.paths.now c.loop-v.sums) (to_z-of_z c.ranges.b)
    (mix_end _ _ _ _ _ _ _ c.loop-v-test.false c.loop-v.invariant))
