-- The contract leaves one layout: two that meet it on the same bytes are equal.
use mathlib.Core.Path.{◌≡◌}
use mathlib.Core.List.{List}
use Prim.Native.Nat.{ℕ}
use Rattle.std.specs.Prelude.{Result}
use Rattle.verdict.specs.declared.Refusal.{Refusal}
use Rattle.records.specs.declared.Layout.{Layout}
use Rattle.records.specs.Laid.{Laid}
use Rattle.records.proofs.Settled.{one-laid}
use Rattle.long_records.specs.LongForm.{long_form_tests}

pub one-long_layout : (s : List ℕ) (a b : Result Layout Refusal) → Laid (long_form_tests s) 3 s a → Laid (long_form_tests s) 3 s b → a ≡ b
one-long_layout s a b p q = one-laid (long_form_tests s) 3 s a b p q
