-- What is read of a line from a place on: a word, a number, and a run of numbers.
use Rattle.std.specs.Prelude.{◌≡◌, Bool, true, false, List, map, ◌++◌, ℕ, ◌+◌, ◌≤◌, ℤ, pos, neg_ℤ, length, take, drop, Option, Some, None, is_some, IfSome, Result, is_ok, IfOk, IfErr}
use Rattle.digits.specs.Digits.{run, is_blank, at_most}
use Rattle.desk_text.specs.Words.{is_letter, words, is_number, value_of, is_signed, signed_of, leading, behind}
use Rattle.desk_text.specs.Meaning.{word_at}
use Rattle.desk_text.specs.Fields.{cut_magnitude, cut_numerator}
use Rattle.desk_words.specs.declared.Word.{Word}
use Rattle.desk_words.specs.declared.Parsed.{Parsed}
use Rattle.desk_words.specs.declared.Taken.{Taken}

-- the words of a line from a place on
abbrev pub words_at : List ℕ → ℕ → List (List ℕ)
words_at s at = words (drop at s)

-- where the first of them begins, and where it ends
abbrev pub start_at : List ℕ → ℕ → ℕ
start_at s at = at + run is_blank (drop at s)

abbrev pub letters_end : List ℕ → ℕ → ℕ
letters_end s at = at + run is_letter (drop at s)

abbrev pub end_at : List ℕ → ℕ → ℕ
end_at s at = letters_end s (start_at s at)

-- the letters at a place, up to the next blank or the line's end
abbrev pub letters_at : List ℕ → ℕ → List ℕ
letters_at s at = take (run is_letter (drop at s)) (drop at s)

pub record WordRead (s : List ℕ) (at : ℕ) (r : Word) : Type 0 where
  pub start_is : r.start ≡ start_at s at
  pub end_is : r.end ≡ end_at s at
  pub within : r.end ≤ length s

-- a word read as a number that is this, and ends there
pub record IsParsed {A : Type 0} (s : List ℕ) (value : A) (end : ℕ) (n : Parsed A) : Type 0 where
  pub value-is : n.value ≡ value
  pub end_is : n.end ≡ end
  pub within : n.end ≤ length s

-- there is one exactly where the word is of the kind
pub record ReadAs {A : Type 0} (s : List ℕ) (of_kind : Bool) (value : A) (end : ℕ) (r : Option (Parsed A)) : Type 0 where
  pub found-is : is_some r ≡ of_kind
  pub read : IfSome r (λ n. IsParsed s value end n)

-- the letters at a place as a number
abbrev pub DigitsRead : List ℕ → ℕ → Option (Parsed ℕ) → Type 0
DigitsRead s at r = ReadAs s (is_number (letters_at s at)) (at_most (value_of (letters_at s at))) (letters_end s at) r

-- of the first word from a place on: the number, or where the word begins that is none
pub record ReadFrom {A : Type 0} (s : List ℕ) (at : ℕ) (of_kind : Bool) (value : A) (r : Result (Parsed A) ℕ) : Type 0 where
  pub found-is : is_ok r ≡ of_kind
  pub read : IfOk r (λ n. IsParsed s value (end_at s at) n)
  pub none : IfErr r (λ k. (k ≡ start_at s at) × (k ≤ length s))

-- the first word from a place on as a number
abbrev pub NumberRead : List ℕ → ℕ → Result (Parsed ℕ) ℕ → Type 0
NumberRead s at r = ReadFrom s at (is_number (word_at 0 (words_at s at))) (at_most (value_of (word_at 0 (words_at s at)))) r

-- a magnitude with its sign
abbrev pub with_sign : Bool → ℕ → ℤ
with_sign true n = neg_ℤ (pos n)
with_sign false n = pos n

-- a number with its sign, where there is one
abbrev pub signed : Bool → Option (Parsed ℕ) → Option (Parsed ℤ)
signed minus None = None
signed minus (Some n) = Some (record { value = with_sign minus (cut_magnitude n.value); end = n.end })

-- the first word from a place on as a number that may have a minus
abbrev pub SignedRead : List ℕ → ℕ → Result (Parsed ℤ) ℕ → Type 0
SignedRead s at r = ReadFrom s at (is_signed (word_at 0 (words_at s at))) (cut_numerator (signed_of (word_at 0 (words_at s at)))) r

-- the words of a kind at the front, each as f says, laid into the front of a table; behind them stands what stood there
pub record TakenIn {A : Type 0} (p : List ℕ → Bool) (f : List ℕ → A) (s : List ℕ) (at : ℕ) (before after : List A) (r : Taken) : Type 0 where
  pub count-is : r.count ≡ length (leading p (words_at s at))
  pub table_is : after ≡ map f (leading p (words_at s at)) ++ drop (length (leading p (words_at s at))) before
  pub few : r.count ≤ length before
  pub within : r.end ≤ length s
  pub rest-is : words_at s r.end ≡ behind p (words_at s at)
