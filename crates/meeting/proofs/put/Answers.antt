-- `put`: the sum fits, and is what is stored.
use Rattle.std.proofs.Common.{◌≡◌, ◌^◌, ◌<◌, ◌+ℤ◌, nat_abs, sym, ◌∙◌, subst, ap₂, to_z-of_z, w64, to_z, of_z}
use Rattle.exact.proofs.Sign.{fits_abs, back}
use Rattle.exact.specs.Table.{entry_of}
use Rattle.meeting.proofs.Putting.{put-set}
use Rattle.meeting.proofs.put.Goals as goal
use Rattle.meeting.proofs.put.Goals.{After-own-1}

module _ (c : After-own-1) where
  plain : to_z w64 (of_z w64 (entry_of c.args.own.now c.args.k)) +ℤ to_z w64 (of_z w64 c.args.x)
      ≡ entry_of c.args.own.now c.args.k +ℤ c.args.x
  plain = ap₂ ◌+ℤ◌ (back (entry_of c.args.own.now c.args.k) c.requires.k_bound) (to_z-of_z c.ranges.x)

  near : nat_abs (to_z w64 (of_z w64 (entry_of c.args.own.now c.args.k)) +ℤ to_z w64 (of_z w64 c.args.x)) < 2 ^ 63
  near = subst (λ y. nat_abs y < 2 ^ 63) (sym plain) c.requires.x_bound

pub overflow_add-own : goal.overflow_add-own
overflow_add-own c = fits_abs _ (near c)

pub returns : goal.returns
returns c = put-set c.args.k c.args.x _ c.args.own.now c.requires.own_len.1 c.requires.own_len.0 (back _ (near c) ∙ plain c)
