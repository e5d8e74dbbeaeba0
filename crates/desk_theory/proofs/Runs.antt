-- Every run of calls, by induction over the list.
use mathlib.Core.Path.{◌≡◌, refl, sym, ◌∙◌, ap, ap₂}
use mathlib.Core.Bool.{Bool, true, false, cond, ◌&&◌, true≢false}
use mathlib.Core.List.{List, [], ◌∷◌, ◌++◌}
use mathlib.Core.Logic.{◌≢◌}
use Prim.Native.Nat.{ℕ}
use native.Mathlib.Decide.{ℕ_discrete}
use borrow.Author.Tests.{eqb-true, eqb-false}
use lib.Dec.{eqb}
use lib.IntN.{ℤ}
use lib.ListN.{length}
use Rattle.exact.proofs.Decide.{by_cases, eq_no}
use Rattle.verdict.specs.Answer.{Answer, pass, fault, test, ◌or_else◌}
use Rattle.verdict.specs.declared.Place.{Place}
use Rattle.verdict.specs.declared.Place.TheVariants.{Nowhere}
use Rattle.verdict.specs.declared.Rule.TheVariants.{Plain}
use Rattle.verdict.proofs.Answers.{or_else_pass, refuses}
use Rattle.fit_theory.specs.Stands.{Posted, Stands}
use Rattle.fit_theory.specs.Tests.{posted_tests, proposal_tests}
use Rattle.fit_theory.proofs.Demand3.{least}
use Rattle.fit_theory.proofs.Exactly.{→posted, proposal-stands}
use Rattle.correction_theory.specs.Correction.{Correction, corrected, correction_tests, on_pass}
use Rattle.correction_theory.proofs.Asked.{corrected-posted}
use Rattle.desk_theory.specs.Desk.{Posting, nothing, matrix_tree, Table, none, lengths, Desk, empty, Call, post, correct, propose, withdraw, report, bench_out, is_none, on_posting, if_posted, bench_of, answer_on, answer, put, anew, effect, step, run, Said, told_on, told}
use Rattle.desk_theory.specs.Promises.{StandsOn, PostedWell, Sound, of_bench, heard_besides, Without, done, kept, out, posts, changes, accepted, effective, Benches}

-- ---- what stands fits what is posted
correct-well : (p : Posting) (c : Correction) → PostedWell p → if_posted p (λ N ds ps. correction_tests N ds ps c) ≡ pass → PostedWell (on_posting p nothing (λ N ds ps. matrix_tree N (corrected ds c) ps))
correct-well nothing c s e = tt
correct-well (matrix_tree N ds ps) c s e = corrected-posted N ps ds c e s

propose-stands : (p : Posting) (D : ℕ) (ns : List ℤ) → PostedWell p → if_posted p (λ N ds ps. proposal_tests Plain N ds ps D ns) ≡ pass → StandsOn p (lengths D ns)
propose-stands nothing D ns s e = refuses 21 Nowhere e
propose-stands (matrix_tree N ds ps) D ns s e = let t = proposal-stands Plain N ds ps D ns s e in (t, least Plain N ds ps D ns t.fitted)

put_sound : (d : Desk) (b : ℕ) (t : Table) → Sound d → StandsOn d.posting t → Sound (put b t d)
put_sound d b t s h = record { posting = s.posting; tables = λ x. at x (eqb x b) }
  where
    at : (x : ℕ) (q : Bool) → StandsOn d.posting (cond q t (d.tables x))
    at x true = h
    at x false = s.tables x

effect_sound : (d : Desk) (c : Call) → Sound d → answer d c ≡ pass → Sound (effect d c)
effect_sound d (post N ds ps) s e = record { posting = →posted N ds ps e; tables = λ _. tt }
effect_sound d (correct c) s e = record { posting = correct-well d.posting c s.posting e; tables = λ _. tt }
effect_sound d (propose b D ns) s e = put_sound d b (lengths D ns) s
    (propose-stands d.posting D ns s.posting (or_else_pass (test 20 (bench_out b)) (if_posted d.posting (λ N ds ps. proposal_tests Plain N ds ps D ns)) e).1)
effect_sound d (withdraw b) s e = put_sound d b none s tt
effect_sound d (report b size) s e = s

on_sound : (a : Answer) (new old : Desk) → (a ≡ pass → Sound new) → Sound old → Sound (on_pass a new old)
on_sound pass new old f s = f refl
on_sound (fault k p) new old f s = s

pub step_sound : (d : Desk) (c : Call) → Sound d → Sound (step d c)
step_sound d c s = on_sound (answer d c) (effect d c) d (effect_sound d c s) s

pub run_sound : (cs : List Call) (d : Desk) → Sound d → Sound (run d cs)
run_sound [] d s = s
run_sound (c ∷ cs) d s = run_sound cs (step d c) (step_sound d c s)

-- ---- a refused call changes nothing
pub refused-same : (d : Desk) (c : Call) (k : ℕ) (p : Place) → answer d c ≡ fault k p → step d c ≡ d
refused-same d c k p e = ap (λ (a : Answer). on_pass a (effect d c) d) e

-- ---- one bench alters no answer to the other: two desks that agree on all but bench b's table
pub record Alike (b : ℕ) (d e : Desk) : Type 0 where
  pub posting : d.posting ≡ e.posting
  pub tables : (x : ℕ) → x ≢ b → d.tables x ≡ e.tables x

module _ (b : ℕ) where
  alike_self : (d : Desk) → Alike b d d
  alike_self d = record { posting = refl; tables = λ x _. refl }

  alike-sym : {d e : Desk} → Alike b d e → Alike b e d
  alike-sym s = record { posting = sym s.posting; tables = λ x h. sym (s.tables x h) }

  alike_trans : {d e f : Desk} → Alike b d e → Alike b e f → Alike b d f
  alike_trans s t = record { posting = s.posting ∙ t.posting; tables = λ x h. s.tables x h ∙ t.tables x h }

  -- b's own call leaves all but its table
  put-own : (d : Desk) (x : ℕ) (t : Table) → eqb x b ≡ true → Alike b (put x t d) d
  put-own d x t e = record { posting = refl; tables = λ y h. ap (λ (q : Bool). cond q t (d.tables y)) (eq_no {a = y} {b = x} (λ r. h (r ∙ eqb-true x b e))) }

  effect-own : (d : Desk) (c : Call) → of_bench b c ≡ true → Alike b (effect d c) d
  effect-own d (propose x D ns) e = put-own d x (lengths D ns) e
  effect-own d (withdraw x) e = put-own d x none e
  effect-own d (report x size) e = alike_self d
  effect-own d (post N ds ps) e = absurd (true≢false (sym e))
  effect-own d (correct c) e = absurd (true≢false (sym e))

  on-own : (a : Answer) (new old : Desk) → Alike b new old → Alike b (on_pass a new old) old
  on-own pass new old s = s
  on-own (fault k p) new old s = alike_self old

  step-own : (d : Desk) (c : Call) → of_bench b c ≡ true → Alike b (step d c) d
  step-own d c e = on-own (answer d c) (effect d c) d (effect-own d c e)

  -- any other call
  named : (c : Call) (d e : Desk) → of_bench b c ≡ false → Alike b d e → told d c ≡ told e c
  named (post N ds ps) d e h s = refl
  named (correct c) d e h s = ap (λ (p : Posting). told_on p none (correct c)) s.posting
  named (propose x D ns) d e h s = ap₂ (λ (p : Posting) (t : Table). told_on p t (propose x D ns)) s.posting (s.tables x (eqb-false x b h))
  named (withdraw x) d e h s = ap₂ (λ (p : Posting) (t : Table). told_on p t (withdraw x)) s.posting (s.tables x (eqb-false x b h))
  named (report x size) d e h s = ap₂ (λ (p : Posting) (t : Table). told_on p t (report x size)) s.posting (s.tables x (eqb-false x b h))

  answered : (c : Call) (d e : Desk) → of_bench b c ≡ false → Alike b d e → answer d c ≡ answer e c
  answered (post N ds ps) d e h s = refl
  answered (correct c) d e h s = ap (λ (p : Posting). answer_on p none (correct c)) s.posting
  answered (propose x D ns) d e h s = ap (λ (p : Posting). answer_on p none (propose x D ns)) s.posting
  answered (withdraw x) d e h s = ap₂ (λ (p : Posting) (t : Table). answer_on p t (withdraw x)) s.posting (s.tables x (eqb-false x b h))
  answered (report x size) d e h s = ap₂ (λ (p : Posting) (t : Table). answer_on p t (report x size)) s.posting (s.tables x (eqb-false x b h))

  put-alike : (d e : Desk) (x : ℕ) (t : Table) → Alike b d e → Alike b (put x t d) (put x t e)
  put-alike d e x t s = record { posting = s.posting; tables = λ y h. ap (λ (u : Table). cond (eqb y x) t u) (s.tables y h) }

  effect-alike : (c : Call) (d e : Desk) → Alike b d e → Alike b (effect d c) (effect e c)
  effect-alike (post N ds ps) d e s = alike_self (anew (matrix_tree N ds ps))
  effect-alike (correct c) d e s = record { posting = ap (λ (p : Posting). on_posting p nothing (λ N ds ps. matrix_tree N (corrected ds c) ps)) s.posting; tables = λ x _. refl }
  effect-alike (propose x D ns) d e s = put-alike d e x (lengths D ns) s
  effect-alike (withdraw x) d e s = put-alike d e x none s
  effect-alike (report x size) d e s = s

  on_alike : (a : Answer) (d' d e' e : Desk) → Alike b d' e' → Alike b d e → Alike b (on_pass a d' d) (on_pass a e' e)
  on_alike pass d' d e' e s t = s
  on_alike (fault k p) d' d e' e s t = t

  step-alike : (c : Call) (d e : Desk) → of_bench b c ≡ false → Alike b d e → Alike b (step d c) (step e c)
  step-alike c d e h s = rw (answered c d e h s) (on_alike (answer e c) (effect d c) d (effect e c) e (effect-alike c d e s) s)

  pub apart : {cs ds : List Call} → Without b cs ds → (d e : Desk) → Alike b d e → heard_besides b d cs ≡ heard_besides b e ds
  apart done d e s = refl
  apart (kept {c} {cs} {ds} w) d e s = go (of_bench b c) refl (apart w)
    where
      go : (q : Bool) → of_bench b c ≡ q → ((d' e' : Desk) → Alike b d' e' → heard_besides b d' cs ≡ heard_besides b e' ds)
          → cond q (heard_besides b (step d c) cs) (told d c ∷ heard_besides b (step d c) cs) ≡ cond q (heard_besides b (step e c) ds) (told e c ∷ heard_besides b (step e c) ds)
      go true h ih = ih (step d c) (step e c) (alike_trans (step-own d c h) (alike_trans s (alike-sym (step-own e c h))))
      go false h ih = ap₂ (λ (x : Said) (xs : List Said). x ∷ xs) (named c d e h s) (ih (step d c) (step e c) (step-alike c d e h s))
  apart (out {c} {cs} {ds} h w) d e s = ap (λ (q : Bool). cond q (heard_besides b (step d c) cs) (told d c ∷ heard_besides b (step d c) cs)) h
      ∙ apart w (step d c) e (alike_trans (step-own d c h) s)

-- ---- the story: a posting or a correction that passes takes both tables down
on-pass : {A : Type 0} (a : Answer) (new old : A) → a ≡ pass → on_pass a new old ≡ new
on-pass a new old e = ap (λ (x : Answer). on_pass x new old) e

-- nothing stands: 21
none-stands : (p : Posting) (b size : ℕ) → bench_out b ≡ false → answer_on p none (report b size) ≡ fault 21 Nowhere
none-stands nothing b size e = rw e
none-stands (matrix_tree N ds ps) b size e = rw e

stale-effect : (d : Desk) (c : Call) → posts c ≡ true → (b size : ℕ) → bench_out b ≡ false → answer (effect d c) (report b size) ≡ fault 21 Nowhere
stale-effect d (post N ds ps) h b size e = none-stands (matrix_tree N ds ps) b size e
stale-effect d (correct c) h b size e = none-stands (on_posting d.posting nothing (λ N ds ps. matrix_tree N (corrected ds c) ps)) b size e
stale-effect d (propose x D ns) h b size e = absurd (true≢false (sym h))
stale-effect d (withdraw x) h b size e = absurd (true≢false (sym h))
stale-effect d (report x n) h b size e = absurd (true≢false (sym h))

pub stale : (d : Desk) (c : Call) → posts c ≡ true → answer d c ≡ pass → (b size : ℕ) → bench_out b ≡ false → answer (step d c) (report b size) ≡ fault 21 Nowhere
stale d c h e b size g = ap (λ (x : Desk). answer x (report b size)) (on-pass (answer d c) (effect d c) d e) ∙ stale-effect d c h b size g

-- ---- 20 comes first
pub no-bench : (d : Desk) (c : Call) → posts c ≡ false → bench_out (bench_of c) ≡ true → answer d c ≡ fault 20 Nowhere
no-bench d (propose x D ns) h e = rw e
no-bench d (withdraw x) h e = rw e
no-bench d (report x size) h e = rw e
no-bench d (post N ds ps) h e = absurd (true≢false h)
no-bench d (correct c) h e = absurd (true≢false h)

-- ---- a call that is refused, or that can change nothing, leaves the desk
idle-effect : (d : Desk) (c : Call) → changes c ≡ false → effect d c ≡ d
idle-effect d (report x size) h = refl
idle-effect d (post N ds ps) h = absurd (true≢false h)
idle-effect d (correct c) h = absurd (true≢false h)
idle-effect d (propose x D ns) h = absurd (true≢false h)
idle-effect d (withdraw x) h = absurd (true≢false h)

on_same : (a : Answer) (new old : Desk) → (a ≡ pass → new ≡ old) → on_pass a new old ≡ old
on_same pass new old h = h refl
on_same (fault k p) new old h = refl

idle : (d : Desk) (c : Call) → (accepted (answer d c) && changes c) ≡ false → step d c ≡ d
idle d c h = on_same (answer d c) (effect d c) d (λ e. idle-effect d c (ap (λ (a : Answer). accepted a && changes c) (sym e) ∙ h))

pub replay : (cs : List Call) (d : Desk) → run d (effective d cs) ≡ run d cs
replay [] d = refl
replay (c ∷ cs) d = go (accepted (answer d c) && changes c) refl (replay cs (step d c))
  where
    go : (q : Bool) → (accepted (answer d c) && changes c) ≡ q → run (step d c) (effective (step d c) cs) ≡ run (step d c) cs
        → run d (cond q (c ∷ effective (step d c) cs) (effective (step d c) cs)) ≡ run (step d c) cs
    go true h ih = ih
    go false h ih = ap (λ (x : Desk). run x (effective (step d c) cs)) (sym (idle d c h)) ∙ ih

pub again : (cs : List Call) (d : Desk) → effective d (effective d cs) ≡ effective d cs
again [] d = refl
again (c ∷ cs) d = go (accepted (answer d c) && changes c) refl (again cs (step d c))
  where
    go : (q : Bool) → (accepted (answer d c) && changes c) ≡ q → effective (step d c) (effective (step d c) cs) ≡ effective (step d c) cs
        → effective d (cond q (c ∷ effective (step d c) cs) (effective (step d c) cs)) ≡ cond q (c ∷ effective (step d c) cs) (effective (step d c) cs)
    go true h ih = ap (λ (q : Bool). cond q (c ∷ effective (step d c) (effective (step d c) cs)) (effective (step d c) (effective (step d c) cs))) h ∙ ap (λ (l : List Call). c ∷ l) ih
    go false h ih = ap (λ (x : Desk). effective x (effective (step d c) cs)) (sym (idle d c h)) ∙ ih

-- ---- a posting that passes leaves what it says, whatever was there
run_on : (cs es : List Call) (d : Desk) → run d (cs ++ es) ≡ run (run d cs) es
run_on [] es d = refl
run_on (c ∷ cs) es d = run_on cs es (step d c)

posted-anew : (d : Desk) (N : ℕ) (ds ps : List ℕ) → posted_tests N ds ps ≡ pass → step d (post N ds ps) ≡ anew (matrix_tree N ds ps)
posted-anew d N ds ps e = on-pass (posted_tests N ds ps) (anew (matrix_tree N ds ps)) d e

pub since : (before after : List Call) (d : Desk) (N : ℕ) (ds ps : List ℕ) → posted_tests N ds ps ≡ pass → run d (before ++ (post N ds ps ∷ after)) ≡ run d (post N ds ps ∷ after)
since before after d N ds ps e = run_on before (post N ds ps ∷ after) d
    ∙ ap (λ (x : Desk). run x after) (posted-anew (run d before) N ds ps e ∙ sym (posted-anew d N ds ps e))

pub benches : Benches
benches = record {
  stands = λ cs. run_sound cs empty (record { posting = tt; tables = λ _. tt });
  stale = stale;
  no-bench = no-bench;
  refused = refused-same;
  apart = λ b cs ds w. apart b w empty empty (alike_self b empty);
  replay = λ cs. replay cs empty;
  again = λ cs. again cs empty;
  since = λ before after. since before after empty;
}
