-- Each turn hands one length over: the code's lowest terms are the fraction's own, small enough for the buffers and the rounding.
use mathlib.Core.Path.{◌≡◌, sym, ◌∙◌, ap, subst}
use Prim.Native.Nat.{ℕ, ◌-◌, ◌*◌, ◌≤◌, ◌<◌}
use native.Mathlib.Omega.{arith}
use lib.IntN.{ℤ, nat_abs}
use lib.ListN.{length}
use mir.Syntax.{w64}
use mir.Val.{SFits, to_z, of_z}
use mir.Facts.{to_z-of_z}
use Rattle.exact.specs.Nearest.{nearest}
use Rattle.exact.proofs.Sign.{fits_abs}
use Rattle.matrix.specs.Limits.{max_distance}
use Rattle.tree_theory.specs.Limits.{max_edges}
use Rattle.tree_theory.specs.Chain.{parent_of}
use Rattle.exact.specs.Table.{entry_of}
use Rattle.exact.specs.Fraction.{Fraction, lowest_top, lowest_bottom, Lowest}
use Rattle.direct_theory.specs.Formula.{edge_length}
use Rattle.direct_theory.specs.Lengths.{max_bottom}
use Rattle.direct_theory.specs.Splits.{length_by}
use Rattle.exact.proofs.Divisors.{lowest-is, lowest-only}
use Rattle.direct_theory.proofs.Around.{few-edges}
use Rattle.direct_theory.proofs.Reduced.{Unreduced, unreduced, bottom-most, top-near, rounded-near}
use Rattle.edge_lengths.proofs.Lowering.{lowering_start, lowering_turn, lowering_end}
use Rattle.edge_lengths.proofs.fill.Goals as goal
use Rattle.edge_lengths.proofs.fill.Goals.{After-edge_length-ratio, Start}

-- what the function was given
module _ (p : Start) where
  abbrev N : ℕ
  N = p.args.n

  abbrev K : ℕ
  K = length p.args.parents.now

  abbrev par : ℕ → ℕ
  par = parent_of p.args.parents.now

  abbrev f : ℕ → Fraction
  f = length_by N K par (entry_of p.args.sums.now)

  few : K ≤ max_edges
  few = few-edges N K par p.requires.known.standing.allowed p.requires.known.resolved

  -- one length in lowest terms
  module _ (v : ℕ) (l : v < K) (num : ℤ) (den : ℕ) (low : Lowest (f v) num den) where
    facts : Unreduced (f v) (edge_length N K par p.requires.split_sums.distances v)
    facts = unreduced N K par p.requires.known.standing.allowed p.requires.known.resolved p.requires.split_sums.distances p.requires.split_sums.range (entry_of p.args.sums.now) p.requires.split_sums.is v l

    own : (num ≡ lowest_top (f v)) × (den ≡ lowest_bottom (f v))
    own = lowest-only (f v) num (lowest_top (f v)) den (lowest_bottom (f v)) facts.some low (lowest-is (f v) facts.some)

    most : den ≤ max_bottom
    most = bottom-most (f v) (edge_length N K par p.requires.split_sums.distances v) facts num den low

    near : nat_abs num ≤ max_distance * den
    near = top-near (f v) (edge_length N K par p.requires.split_sums.distances v) facts num den low

    small : nat_abs num ≤ 10000000000000
    small = omega (arith, near, most)

    fits : SFits w64 num
    fits = fits_abs num (omega (arith, small))

    thousandth : SFits w64 (nearest den num)
    thousandth = fits_abs (nearest den num) (omega (arith, rounded-near den num low.positive near))

-- what is known once edge v's length is there
module _ (e : After-edge_length-ratio) where
  abbrev given : Start
  given = e.before.before.before.before.before.before.before

  abbrev v : ℕ
  v = e.loop-v.v

  edge : v < K given
  edge = omega arith

  low : Lowest (f given v) e.edge_length-ratio.result.top e.edge_length-ratio.result.bottom
  low = e.edge_length-ratio.ensures

  whole : to_z w64 (of_z w64 e.edge_length-ratio.result.top) ≡ e.edge_length-ratio.result.top
  whole = to_z-of_z (fits given v edge e.edge_length-ratio.result.top e.edge_length-ratio.result.bottom low)

  bound : e.edge_length-ratio.result.bottom ≤ max_bottom
  bound = most given v edge e.edge_length-ratio.result.top e.edge_length-ratio.result.bottom low

pub loop-v-init : goal.loop-v-init
loop-v-init c = lowering_start (K c.before.before.before.before) (f c.before.before.before.before) c.args.numerators.now c.args.denominators.now c.filled-rounded.result c.requires.numerators_len.0 c.requires.numerators_len.1 c.filled-rounded.ensures.throughout

pub edge_length-ratio-requires : goal.edge_length-ratio-requires
edge_length-ratio-requires c = record {
  known = c.requires.known;
  c_in_bounds = omega arith;
}

pub overflow_cast-bottom : goal.overflow_cast-bottom
overflow_cast-bottom c = record { fits = omega (arith, bound (goal.at.overflow_cast-bottom c).After-edge_length-ratio) }

pub thousandths-thousandths-requires : goal.thousandths-thousandths-requires
thousandths-thousandths-requires c = (
  subst (λ z. nat_abs z ≤ 10000000000000) (sym (whole (goal.at.thousandths-thousandths-requires c).After-edge_length-ratio)) (small (given (goal.at.thousandths-thousandths-requires c).After-edge_length-ratio) (v (goal.at.thousandths-thousandths-requires c).After-edge_length-ratio) (edge (goal.at.thousandths-thousandths-requires c).After-edge_length-ratio) c.edge_length-ratio.result.top c.edge_length-ratio.result.bottom (low (goal.at.thousandths-thousandths-requires c).After-edge_length-ratio)),
  omega (arith, (low (goal.at.thousandths-thousandths-requires c).After-edge_length-ratio).positive),
)

pub offset_bounds-numerators-v : goal.offset_bounds-numerators-v
offset_bounds-numerators-v c = record { fits = omega (arith, edge (goal.at.offset_bounds-numerators-v c).After-edge_length-ratio, few (given (goal.at.offset_bounds-numerators-v c).After-edge_length-ratio)) }

pub bounds-numerators-v : goal.bounds-numerators-v
bounds-numerators-v c = omega (arith, edge (goal.at.bounds-numerators-v c).After-edge_length-ratio, c.loop-v.invariant.tops-size)

pub offset_bounds-denominators-v : goal.offset_bounds-denominators-v
offset_bounds-denominators-v c = record { fits = omega (arith, edge (goal.at.offset_bounds-denominators-v c).After-edge_length-ratio, few (given (goal.at.offset_bounds-denominators-v c).After-edge_length-ratio)) }

pub bounds-denominators-v : goal.bounds-denominators-v
bounds-denominators-v c = omega (arith, edge (goal.at.bounds-denominators-v c).After-edge_length-ratio, c.loop-v.invariant.bottoms-size)

pub offset_bounds-rounded-v : goal.offset_bounds-rounded-v
offset_bounds-rounded-v c = record { fits = omega (arith, edge (goal.at.offset_bounds-rounded-v c).After-edge_length-ratio, few (given (goal.at.offset_bounds-rounded-v c).After-edge_length-ratio)) }

pub bounds-rounded-v : goal.bounds-rounded-v
bounds-rounded-v c = omega (arith, edge (goal.at.bounds-rounded-v c).After-edge_length-ratio, few (given (goal.at.bounds-rounded-v c).After-edge_length-ratio))

pub loop-v-preserved : goal.loop-v-preserved
loop-v-preserved c = let p = given (goal.at.loop-v-preserved c).After-edge_length-ratio in let n = c.edge_length-ratio.result.top in let d = c.edge_length-ratio.result.bottom in
    let o = own p (v (goal.at.loop-v-preserved c).After-edge_length-ratio) (edge (goal.at.loop-v-preserved c).After-edge_length-ratio) n d (low (goal.at.loop-v-preserved c).After-edge_length-ratio) in
    let m : c.thousandths-thousandths.result ≡ nearest d n = c.thousandths-thousandths.ensures ∙ ap (nearest d) (whole (goal.at.loop-v-preserved c).After-edge_length-ratio) in
    lowering_turn (K p) (f p) p.args.numerators.now p.args.denominators.now (v (goal.at.loop-v-preserved c).After-edge_length-ratio) c.loop-v.numerators c.loop-v.denominators c.loop-v.rounded
    (to_z w64 (of_z w64 n)) d (to_z w64 (of_z w64 c.thousandths-thousandths.result)) (edge (goal.at.loop-v-preserved c).After-edge_length-ratio) (few p) (whole (goal.at.loop-v-preserved c).After-edge_length-ratio ∙ o.0) o.1
    (ap (λ z. to_z w64 (of_z w64 z)) m ∙ to_z-of_z (thousandth p (v (goal.at.loop-v-preserved c).After-edge_length-ratio) (edge (goal.at.loop-v-preserved c).After-edge_length-ratio) n d (low (goal.at.loop-v-preserved c).After-edge_length-ratio)) ∙ ap (nearest d) (sym (whole (goal.at.loop-v-preserved c).After-edge_length-ratio)))
    c.loop-v.invariant

pub shape_of-numerators : goal.shape_of-numerators
shape_of-numerators c = c.loop-v.invariant.tops-size ∙ sym c.requires.numerators_len.0

pub shape_of-denominators : goal.shape_of-denominators
shape_of-denominators c = c.loop-v.invariant.bottoms-size ∙ sym c.requires.numerators_len.1

pub returns : goal.returns
returns c = lowering_end (K c.before.before.before.before.before.before) (f c.before.before.before.before.before.before) c.args.numerators.now c.args.denominators.now c.loop-v.v c.loop-v.numerators c.loop-v.denominators c.loop-v.rounded (omega arith) c.loop-v.invariant
