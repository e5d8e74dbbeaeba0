-- What is posted was tested (`well`); a call's step gives the answer to a line that is one (`steps_respond`), and any other line leaves the desk
-- (`desk-left`).
use mathlib.Core.Path.{◌≡◌, refl, sym, ◌∙◌, ap, subst}
use mathlib.Core.Bool.{Bool, true, false}
use mathlib.Core.List.{List, []}
use Prim.Native.Nat.{ℕ, ◌≤◌}
use lib.IntN.{ℤ}
use lib.ListN.{length}
use Rattle.verdict.specs.Answer.{Answer, answer_of}
use Rattle.writing.specs.Text.{Wrote}
use Rattle.answer_lines.specs.Texts.{by_answer}
use Rattle.desk_theory.specs.Desk as calls
use Rattle.desk_theory.specs.Promises.{PostedWell}
use Rattle.desk_text.specs.Meaning.{Meaning, wrong, call}
use Rattle.desk.specs.declared.Desk.{Desk}
use Rattle.desk.specs.declared.Posted.{Posted}
use Rattle.desk.specs.Held.{posted_of, desk_of, PostedHeld, Held, after, Steps}
use Rattle.std.specs.Prelude.{Option, Some, None, IfSome, Result}
use Rattle.verdict.specs.declared.Refusal.{Refusal}
use Rattle.desk_posts.specs.declared.Post.{Post}
use Rattle.desk_lines.specs.declared.Propose.{Propose}
use Rattle.desk_lines.specs.declared.Line.{Line}
use Rattle.desk_lines.specs.declared.Line.TheVariants.{Posting, Proposing}
use Rattle.desk_lines.specs.Lines.{as_meaning, Within, line_meaning}
use Rattle.desk_answers.specs.Telling.{ok_line, text_on, after_on, Responds}
use Rattle.desk_answers.specs.declared.Told.{Told}

pub well : (d : Desk) → Held d → PostedWell (desk_of d).posting
well d h = go d.posted h
  where
    go : (p : Option Posted) → IfSome p (λ x. PostedHeld x) → PostedWell (posted_of p).posting
    go None h = tt
    go (Some x) h = h.posting.beside.posted

-- ---- what a line is answered with
pub steps_respond : (d : Desk) (c : calls.Call) (a : Result Desk Refusal) (before page : List ℕ) (r : Told) → Steps d c a
    → (r.desk ≡ after d a) × Wrote before page 0 (by_answer (answer_of a) ok_line) r.length → Responds d (call c) before page r
steps_respond d c a before page r s w = record {
  text = subst (λ (x : Answer). Wrote before page 0 (by_answer x ok_line) r.length) s.answer w.1;
  desk = ap desk_of w.0 ∙ s.desk;
  held = subst Held (sym w.0) s.held;
}

pub nothing_said : (b : List ℕ) → Wrote b b 0 [] 0
nothing_said b = record { place = refl; buffer = refl }

-- a line that is not a call leaves the desk
pub desk-left : (d : Desk) (m : Meaning) (before after : List ℕ) (n : ℕ) → Held d → after_on (desk_of d) m ≡ desk_of d → Wrote before after 0 (text_on (desk_of d) m) n
    → Responds d m before after (record { desk = d; length = n })
desk-left d m before after n h e w = record { text = w; desk = sym e; held = h }

-- ---- what the code wrote
module _ (ds ps : List ℕ) (ns : List ℤ) (m : Option Line) where
  module _ (l : Line) (is : m ≡ Some l) where
    within-there : IfSome m (λ x. Within ds ps ns x) → Within ds ps ns l
    within-there w = subst (λ (o : Option Line). IfSome o (λ x. Within ds ps ns x)) is w

    pub within-posting : (p : Post) → l ≡ Posting p → IfSome m (λ x. Within ds ps ns x) → (p.pairs ≤ length ds) × (p.edges ≤ length ps)
    within-posting p e w = subst (Within ds ps ns) e (within-there w)

    pub within_proposing : (p : Propose) → l ≡ Proposing p → IfSome m (λ x. Within ds ps ns x) → p.count ≤ length ns
    within_proposing p e w = subst (Within ds ps ns) e (within-there w)

    -- the answer to the line that the match told
    pub told_as : (d : Desk) (l' : Line) (before page : List ℕ) (r : Told) → l ≡ l' → Responds d (as_meaning ds ps ns l') before page r → Responds d (line_meaning ds ps ns m) before page r
    told_as d l' before page r e w = subst (λ (x : Option Line). Responds d (line_meaning ds ps ns x) before page r) (sym (is ∙ ap Some e)) w

  pub told-wrong : (d : Desk) (before page : List ℕ) (r : Told) → m ≡ None → Responds d wrong before page r → Responds d (line_meaning ds ps ns m) before page r
  told-wrong d before page r e w = subst (λ (x : Option Line). Responds d (line_meaning ds ps ns x) before page r) (sym e) w
