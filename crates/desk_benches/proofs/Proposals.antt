-- A proposal on a desk: each answer is the definition's (`bench-refused`, `lengths-refused`, `proposal-steps`), and what is accepted stands in
-- its bench's name. A table taken down leaves none (`withdrawal_steps`).
use mathlib.Core.Path.{◌≡◌, sym, ◌∙◌, ap, ap₂, subst}
use mathlib.Core.List.{List}
use Prim.Native.Nat.{ℕ, ◌≤◌}
use native.Mathlib.Omega.{arith}
use lib.IntN.{ℤ, pos}
use lib.ListN.{length, take}
use lib.Seq.{length-take-le}
use Rattle.std.specs.Prelude.{Option, Some, None, Ok, Err}
use Rattle.verdict.specs.Answer.{Answer, Verdict, answer_of, ◌or_else◌}
use Rattle.verdict.specs.declared.Refusal.{Refusal}
use Rattle.verdict.specs.declared.Rule.TheVariants.{Plain}
use Rattle.tree_theory.specs.Limits.{max_edges}
use Rattle.fit_theory.specs.Tests.{proposal_tests}
use Rattle.fit_theory.specs.Stands.{Stands}
use Rattle.fit_theory.proofs.Exactly.{proposal-stands}
use Rattle.desk_theory.specs.Desk as calls
use Rattle.desk.specs.declared.Table.{Table}
use Rattle.desk.specs.declared.Posted.{Posted}
use Rattle.desk.specs.declared.Desk.{Desk}
use Rattle.desk.specs.declared.Standing.{Standing}
use Rattle.desk.specs.Held.{matrix_of, tree_of, numerators_of, posted_of, desk_of, with_table_on, TableHeld, PostedHeld, Held, PostedFor, StandsFor, Steps}
use Rattle.desk.proofs.Copies.{copy_size, copy_behind, copy_front}
use Rattle.desk.proofs.Holding.{refused-steps, passed-steps, propose-asked, propose-refused, withdraw-asked, bench-passed, standing-passed, posted-held, put-held, put-desk}
use Rattle.desk_benches.specs.Tables.{IsTable}

-- ---- proposals
module _ (d : Desk) (b D : ℕ) (ns : List ℤ) (h : Held d) where
  pub bench-refused : (q : Refusal) → PostedFor d b (Err q) → Steps d (calls.propose b D ns) (Err q)
  bench-refused q p = refused-steps d (calls.propose b D ns) q h (propose-refused d b D ns q p.answer)

  module _ (x : Posted) (p : PostedFor d b (Ok x)) (w : Verdict)
      (f : answer_of w ≡ proposal_tests Plain x.posting.n (matrix_of x.posting) (tree_of x.posting) D ns) where
    answered : answer_of w ≡ calls.answer (desk_of d) (calls.propose b D ns)
    answered = f ∙ ap (λ (a : Answer). a or_else proposal_tests Plain x.posting.n (matrix_of x.posting) (tree_of x.posting) D ns) p.answer
        ∙ sym (propose-asked d x b D ns p.posted)

    pub held-there : PostedHeld x
    held-there = posted-held d x h p.posted

    pub lengths-refused : (q : Refusal) → w ≡ Err q → Steps d (calls.propose b D ns) (Err q)
    lengths-refused q e = refused-steps d (calls.propose b D ns) q h (sym (ap answer_of e) ∙ answered)

    module _ (fine : w ≡ Ok tt) where
      stands : Stands Plain x.posting.n (matrix_of x.posting) (tree_of x.posting) D ns
      stands = proposal-stands Plain x.posting.n (matrix_of x.posting) (tree_of x.posting) D ns held-there.posting.beside.posted (sym f ∙ ap answer_of fine)

      whole : length ns ≡ x.posting.edges
      whole = let g = held-there.posting in stands.lengths.whole ∙ length-take-le x.posting.edges x.posting.parents (omega (arith, g.few-edges, g.room-edges))

      pub few : length ns ≤ max_edges
      few = omega (arith, whole, held-there.posting.few-edges)

      module _ (t : Table) (s : IsTable D ns t) where
        front : numerators_of x.posting.edges t ≡ ns
        front = ap (λ (k : ℕ). take k t.numerators) (sym whole) ∙ copy_front (pos 0) max_edges ns t.numerators s.numerators few

        held : TableHeld x.posting t
        held = record {
          room = copy_size (pos 0) max_edges ns t.numerators s.numerators few;
          behind = λ v l. copy_behind (pos 0) max_edges ns t.numerators s.numerators few v (omega (arith, whole));
          stands = subst (λ (k : ℕ). Stands Plain x.posting.n (matrix_of x.posting) (tree_of x.posting) k (numerators_of x.posting.edges t)) (sym s.d)
              (subst (λ (l : List ℤ). Stands Plain x.posting.n (matrix_of x.posting) (tree_of x.posting) D l) (sym front) stands);
        }

        pub proposal-steps : (next : Desk) → next ≡ with_table_on x b (Some t) → Steps d (calls.propose b D ns) (Ok next)
        proposal-steps next e = passed-steps d next (calls.propose b D ns) (sym (ap answer_of fine) ∙ answered)
            (ap desk_of e ∙ put-desk x (Some t) b (bench-passed d b (sym p.answer))
            ∙ ap₂ (λ (u : calls.Table) (y : Option Posted). calls.put b u (posted_of y)) (ap₂ calls.lengths s.d front) (sym p.posted))
            (subst Held (sym e) (put-held x b (Some t) held-there held))

-- ---- withdrawals
module _ (d : Desk) (b : ℕ) (h : Held d) where
  pub withdrawal_refused : (q : Refusal) → StandsFor d b (Err q) → Steps d (calls.withdraw b) (Err q)
  withdrawal_refused q s = refused-steps d (calls.withdraw b) q h (s.answer ∙ sym (withdraw-asked d b))

  pub withdrawal_steps : (t : Standing) → StandsFor d b (Ok t) → (next : Desk) → next ≡ with_table_on t.posted b None → Steps d (calls.withdraw b) (Ok next)
  withdrawal_steps t s next e = passed-steps d next (calls.withdraw b) (s.answer ∙ sym (withdraw-asked d b))
      (ap desk_of e ∙ put-desk t.posted None b (standing-passed d b (sym s.answer)) ∙ ap (λ (y : Option Posted). calls.put b calls.none (posted_of y)) (sym s.standing.posted))
      (subst Held (sym e) (put-held t.posted b None (posted-held d t.posted h s.standing.posted) tt))
