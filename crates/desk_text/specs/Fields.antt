-- What a call's numbers are cut to, so that each has room in its field. One that is too large for its field becomes one that is out of that
-- field's range, and never one within: `cut-call`, in proofs/Cutting.antt, says that no answer and no desk changes by it.
use Rattle.std.specs.Prelude.{cond, map, ℕ, suc, leb, ℤ, pos, negsuc, neg_ℤ}
use Rattle.lengths.specs.Limits.{max_numerator}
use Rattle.desk_theory.specs.Desk.{Call, post, correct, propose, withdraw, report}
use Rattle.desk_text.specs.Meaning.{Meaning, silent, wrong, call, shows}

-- a number up to `most`, and `above` for every number above
abbrev pub cut_to : ℕ → ℕ → ℕ → ℕ
cut_to most above x = cond (leb x most) x above

-- N, a strain, a bench, D: 32 bits
abbrev pub word : ℕ
word = 4294967295

abbrev pub cut_word : ℕ → ℕ
cut_word = cut_to word word

-- a distance: 16 bits, and never the mark of a missing pair for what is above it
abbrev pub cut_distance : ℕ → ℕ
cut_distance = cut_to 65535 65534

-- a parent: 8 bits
abbrev pub cut_parent : ℕ → ℕ
cut_parent = cut_to 255 255

-- a numerator: one more than the highest, with its sign
abbrev pub cut_magnitude : ℕ → ℕ
cut_magnitude = cut_to max_numerator 100000000001

abbrev pub cut_numerator : ℤ → ℤ
cut_numerator (pos n) = pos (cut_magnitude n)
cut_numerator (negsuc n) = neg_ℤ (pos (cut_magnitude (suc n)))

abbrev pub cut_call : Call → Call
cut_call (post N ds ps) = post (cut_word N) (map cut_distance ds) (map cut_parent ps)
cut_call (correct c) = correct (record { i = cut_word c.i; j = cut_word c.j; far = cut_distance c.far })
cut_call (propose b D ns) = propose (cut_word b) (cut_word D) (map cut_numerator ns)
cut_call (withdraw b) = withdraw (cut_word b)
cut_call (report b size) = report (cut_word b) size

unfoldable pub cut : Meaning → Meaning
cut silent = silent
cut wrong = wrong
cut (call c) = call (cut_call c)
cut (shows v b) = shows v (cut_word b)
