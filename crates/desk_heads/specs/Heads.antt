-- What a line is by its first word, and what it then means by the words behind it.
use Rattle.std.specs.Prelude.{◌≡◌, Bool, true, false, List, ◌∷◌, ℕ, ◌≤◌, length, Option, Some, None, IfSome}
use Rattle.desk_theory.specs.Desk as calls
use Rattle.desk_text.specs.Meaning.{Meaning, silent, wrong, call, shows, post_in, propose_in, correct_in, bench_in, of_words, max_line, meaning_of}
use Rattle.desk_words.specs.Reads.{words_at}
use Rattle.desk_heads.specs.declared.Kind as kinds
use Rattle.desk_heads.specs.declared.Head.{Head}

-- what a line of a kind means, by the words behind the first
abbrev pub of_kind : kinds.Kind → List (List ℕ) → Meaning
of_kind kinds.TheVariants.Silent ws = silent
of_kind kinds.TheVariants.Post ws = post_in ws
of_kind kinds.TheVariants.Propose ws = propose_in ws
of_kind kinds.TheVariants.Correct ws = correct_in ws
of_kind kinds.TheVariants.Withdraw ws = bench_in (λ b. call (calls.withdraw b)) ws
of_kind (kinds.TheVariants.Show v) ws = bench_in (shows v) ws

-- the same where there may be no kind: such a line is not of the form
abbrev pub of_some_kind : Option kinds.Kind → List (List ℕ) → Meaning
of_some_kind None ws = wrong
of_some_kind (Some k) ws = of_kind k ws

-- the kind that the first word makes a line
abbrev pub KindOf : List ℕ → Option kinds.Kind → Type 0
KindOf w k = (ws : List (List ℕ)) → of_words (w ∷ ws) ≡ of_some_kind k ws

-- a kind that has something to be read behind the first word
abbrev pub is_call : kinds.Kind → Bool
is_call kinds.TheVariants.Silent = false
is_call kinds.TheVariants.Post = true
is_call kinds.TheVariants.Propose = true
is_call kinds.TheVariants.Correct = true
is_call kinds.TheVariants.Withdraw = true
is_call (kinds.TheVariants.Show v) = true

-- where the words behind a line's first begin
pub record IsHead (s : List ℕ) (h : Head) : Type 0 where
  pub within : h.end ≤ length s
  pub short : is_call h.kind ≡ true → length s ≤ max_line

-- what a line means by its kind and the words behind its first
abbrev pub of_head : List ℕ → Option Head → Meaning
of_head s None = wrong
of_head s (Some h) = of_kind h.kind (words_at s h.end)

pub record HeadRead (s : List ℕ) (r : Option Head) : Type 0 where
  pub means : meaning_of s ≡ of_head s r
  pub read : IfSome r (λ h. IsHead s h)
