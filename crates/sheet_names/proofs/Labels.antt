-- The form of four records, and the names of the fourth.
use mathlib.Core.Path.{◌≡◌, refl, sym, ◌∙◌, ap, ap₂}
use mathlib.Core.Bool.{Bool, false}
use mathlib.Core.List.{List}
use Prim.Native.Nat.{ℕ, ◌+◌, ◌≤◌}
use native.Mathlib.Omega.{arith}
use lib.ListN.{length, get_or}
use Rattle.verdict.specs.Answer.{Answer, pass, test, ◌or_else◌}
use Rattle.std.specs.Prelude.{Ok}
use Rattle.verdict.proofs.Answers.{or_else_pass, test-pass}
use Rattle.endian.specs.Bytes.{number}
use Rattle.records.specs.Names.{name_start}
use Rattle.records.specs.Form.{start_of, form_tests}
use Rattle.records.specs.Laid.{LayoutAnswer}
use Rattle.records.specs.declared.Layout.{Layout}
use Rattle.records.proofs.Formed.{record-at, form-ends, form_bounded, names-many, names-end}
use Rattle.reading.specs.Holds.{strains_of}
use Rattle.reading.proofs.Formed.{fronted}
use Rattle.names.specs.Record.{names_out}
use Rattle.sheet_names.specs.Labels.{names_from, names_bad, label_tests}

-- what the form's answer tells, where it passes
module _ (s : List ℕ) (r : Layout) (a : LayoutAnswer 4 s (Ok r)) where
  pub form : form_tests 4 s ≡ pass
  form = sym a.answer

  pub from_is : get_or r.starts 3 0 + 6 ≡ names_from s
  from_is = ap (λ (x : ℕ). x + 6) ((record-at 4 s r a 3 (omega arith)).start form)

  pub from-small : get_or r.starts 3 0 + 6 ≤ 65536
  from-small = omega (arith, (record-at 4 s r a 3 (omega arith)).within, form_bounded 4 s form)

  pub head-there : 8 ≤ length s
  head-there = let f = fronted 4 s form (omega arith) (start_of s 1) (start_of s 2) refl refl in omega (arith, f.matrix, f.tree, f.there)

  module _ (n : ℕ) (g : n ≡ number 2 s 6) where
    pub names-within : name_start s (get_or r.starts 3 0 + 6) n ≤ length s
    names-within =
        let here = names-end 4 s form (omega arith) in
        let many = names-many 4 s form (omega arith) in
        let ends = form-ends 4 s form in
        rw (from_is, g, ← many) (omega (arith, here, ends))

    -- what the names are asked is what is left to ask
    pub names_told : (b : Bool) (a : Answer) → b ≡ names_out s (get_or r.starts 3 0 + 6) n → a ≡ test 28 b → a ≡ label_tests s
    names_told b a e f = f ∙ ap₂ (λ (p : Answer) (c : Bool). p or_else test 28 c) (sym form) (e ∙ ap₂ (names_out s) from_is g)

-- what labels that pass tell
pub label_form : (s : List ℕ) → label_tests s ≡ pass → (form_tests 4 s ≡ pass) × (names_bad s ≡ false)
label_form s p = let q = or_else_pass (form_tests 4 s) (test 28 (names_bad s)) p in (q.0, test-pass 28 (names_bad s) q.1)

pub label_within : (s : List ℕ) → label_tests s ≡ pass → name_start s (names_from s) (strains_of s) ≤ length s
label_within s p =
    let form = (label_form s p).0 in
    let here = names-end 4 s form (omega arith) in
    let many = names-many 4 s form (omega arith) in
    rw (← many) (omega (arith, here, form-ends 4 s form))
