-- `lowest`: the count of zeros below the lowest digit is its place, and one less has all digits above it.
use Rattle.std.proofs.Common.{ℕ, ◌-◌, ◌^◌, sym, subst, arith, pow_pos}
use lib.Count.{count_trailing_zeros}
use Rattle.meeting.specs.Meeting.{LowestStrain}
use Rattle.meeting.proofs.Digits.{Lows, low_trailing}
use Rattle.meeting.proofs.lowest_strain.Goals as goal
use Rattle.meeting.proofs.lowest_strain.Goals.{Start}

found : (c : Start) → Lows 64 c.args.mask (count_trailing_zeros 64 c.args.mask)
found c = low_trailing 64 c.args.mask c.requires (omega (arith, c.ranges.mask))

taken : (m i : ℕ) → Lows 64 m i → LowestStrain m (record { strain = i; rest = m - 2 ^ i })
taken m i l = record { within = l.within; less = omega (arith, l.some, pow_pos i); bits = l.bits; fewer = l.fewer }

pub overflow_cast-result : goal.overflow_cast-result
overflow_cast-result c = omega (arith, (found c).within)

pub overflow_sub-result : goal.overflow_sub-result
overflow_sub-result c = omega (arith, c.requires)

pub returns : goal.returns
returns c = let i = count_trailing_zeros 64 c.args.mask in
    subst (λ (y : ℕ). LowestStrain c.args.mask (record { strain = i; rest = y })) (sym (found c).off) (taken c.args.mask i (found c))
