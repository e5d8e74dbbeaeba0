-- What a value keeps: the winner's sheet fits, and it can be lent from the front of its table.
use mathlib.Core.Path.{◌≡◌, refl, sym, ◌∙◌, ap, ap₂}
use mathlib.Core.List.{List}
use Prim.Native.Nat.{ℕ, ◌≤◌}
use native.Mathlib.Omega.{arith}
use lib.ListN.{length, get_or, take}
use Rattle.std.specs.Prelude.{Some}
use Rattle.exact.proofs.Fill.{table_is}
use Rattle.records.specs.Form.{max_sheet}
use Rattle.records.proofs.Decoding.{front-is, front-there}
use Rattle.comparison.proofs.Laws.{accepted-short}
use Rattle.shortest_theory.specs.Run.{Winner, none, won}
use Rattle.shortest_run.specs.declared.Best.{Best}
use Rattle.shortest_run.specs.Kept.{held_bytes, Won, IsWinner, KeepsWinner, Held}

front : (s : List ℕ) → take (length s) (held_bytes s) ≡ s
front s = front-is 0 max_sheet (length s) (λ k. get_or s k 0) (held_bytes s) refl ∙ sym (table_is 0 (λ k. get_or s k 0) (length s) s refl (λ k _. refl))

module _ (b : Best) where
  -- what is lent of the table is the winner's sheet
  pub front_of : (k : ℕ) (s : List ℕ) → Won k s b → take b.length b.bytes ≡ s
  front_of k s h = ap₂ take h.long h.bytes ∙ front s

  module _ (count : ℕ) where
    -- there is a winner
    pub some : {A : Type 0} (y : Winner) → KeepsWinner y (Some b) → ((k : ℕ) (s : List ℕ) → IsWinner k s b → A) → A
    some none h f = absurd h
    some (won k s) h f = f k s h

    pub room : Held (record { count = count; best = Some b }) → b.length ≤ length b.bytes
    room h = some h.state.winner h.keeps.winner (λ k s w. let l = accepted-short s w.accepted in
        let u = w.is.long in let r = front-there 0 max_sheet (length s) (λ i. get_or s i 0) b.bytes w.is.bytes l in omega (arith, u, r))

    pub lent : Held (record { count = count; best = Some b }) → b.length ≡ length (take b.length b.bytes)
    lent h = some h.state.winner h.keeps.winner (λ k s w. w.is.long ∙ ap length (sym (front_of k s w.is)))
