-- What is read of the line of a posting: the call of the definitions, with its numbers cut to their fields and its tables at the front of
-- lent ones.
use Rattle.std.specs.Prelude.{◌≡◌, ◌&&◌, List, map, ℕ, ◌≤◌, length, take, drop, Option, is_some, IfSome, MatchOption}
use Rattle.digits.specs.Digits.{same}
use Rattle.desk_theory.specs.Desk as calls
use Rattle.desk_text.specs.Words.{is_number, value_of, leading, behind}
use Rattle.desk_text.specs.Meaning.{Meaning, wrong, call, slash, by_strains, no_more, word_at}
use Rattle.desk_text.specs.Fields.{cut_word, cut_distance, cut_parent, cut}
use Rattle.desk_words.specs.Reads.{words_at}
use Rattle.desk_posts.specs.declared.Front.{Front}
use Rattle.desk_posts.specs.declared.Post.{Post}

-- "N distances" from a place on
pub record IsFront (s : List ℕ) (at : ℕ) (ds : List ℕ) (f : Front) : Type 0 where
  pub n-is : f.n ≡ cut_word (value_of (word_at 0 (words_at s at)))
  pub distances_are : take f.pairs ds ≡ by_strains f.n (map (λ w. cut_distance (value_of w)) (leading is_number (drop 1 (words_at s at))))
  pub few : f.pairs ≤ length ds
  pub within : f.end ≤ length s
  pub rest-is : words_at s f.end ≡ behind is_number (drop 1 (words_at s at))

pub record FrontRead (s : List ℕ) (at : ℕ) (ds : List ℕ) (r : Option Front) : Type 0 where
  pub found-is : is_some r ≡ is_number (word_at 0 (words_at s at))
  pub read : IfSome r (λ f. IsFront s at ds f)

-- "/ parents" from a place on
pub record IsBack (s : List ℕ) (at : ℕ) (ps : List ℕ) (edges : ℕ) : Type 0 where
  pub parents_are : take edges ps ≡ map (λ w. cut_parent (value_of w)) (leading is_number (drop 1 (words_at s at)))
  pub few : edges ≤ length ps

pub record BackRead (s : List ℕ) (at : ℕ) (ps : List ℕ) (r : Option ℕ) : Type 0 where
  pub found-is : is_some r ≡ (same (word_at 0 (words_at s at)) slash && no_more (behind is_number (drop 1 (words_at s at))))
  pub read : IfSome r (λ edges. IsBack s at ps edges)

-- the posting, by the tables beside it
abbrev pub as_posting : List ℕ → List ℕ → Post → Meaning
as_posting ds ps p = call (calls.post p.n (take p.pairs ds) (take p.edges ps))

-- no more entries are named than the tables have
abbrev pub Few : List ℕ → List ℕ → Post → Type 0
Few ds ps p = (p.pairs ≤ length ds) × (p.edges ≤ length ps)

-- a line that is not of the form has none
pub record PostRead (m : Meaning) (ds ps : List ℕ) (r : Option Post) : Type 0 where
  pub means : MatchOption r (wrong ≡ cut m) (λ p. as_posting ds ps p ≡ cut m)
  pub few : IfSome r (λ p. Few ds ps p)
