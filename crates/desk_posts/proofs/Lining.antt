-- A line's words taken one by one: what is read of word k, and what is left behind it (`field_found`, `field_value`, `field_next`); and the
-- meaning that the parts of a line give (`post-some`), or that it has none.
use mathlib.Core.Path.{◌≡◌, refl, sym, ◌∙◌, ap, ap₂, subst}
use mathlib.Core.Bool.{Bool, true, false, cond, ◌&&◌}
use mathlib.Core.List.{List, [], ◌∷◌, map, map-map}
use Prim.Native.Nat.{ℕ, zero, suc, ◌+◌, ◌-◌, ◌≤◌, ◌<◌}
use native.Mathlib.Decide.{dec_lt}
use native.Mathlib.Omega.{arith}
use lib.Dec.{eqb}
use lib.ListN.{length, length-map, length-drop, get_or, take, drop}
use lib.Seq.{get_or-drop, drop-drop, take_at, length_front, length-take-le}
use Rattle.exact.proofs.Decide.{by_cases}
use Rattle.digits.specs.Digits.{run, at_most, same}
use Rattle.desk_theory.specs.Desk as calls
use Rattle.desk_text.specs.Words.{is_letter, is_number, value_of, leading, behind}
use Rattle.desk_text.specs.Meaning.{Meaning, wrong, call, slash, by_strains, no_more, word_at, of_form, max_line, max_words, post_in, parents_in}
use Rattle.desk_text.specs.Fields.{cut_to, word, cut_word, cut_distance, cut_parent, cut}
use Rattle.desk_text.proofs.Cutting.{cut_low, cut_high, strains-cut}
use Rattle.desk_text.proofs.Splitting.{few_words}
use Rattle.desk_words.specs.Reads.{words_at, start_at, end_at, WordRead, IsParsed, TakenIn}
use Rattle.desk_words.specs.declared.Word.{Word}
use Rattle.desk_words.specs.declared.Parsed.{Parsed}
use Rattle.std.specs.Prelude.{Some, None}
use Rattle.desk_words.specs.declared.Taken.{Taken}
use Rattle.desk_words.proofs.Reading.{words-behind, none_left, first_word, cut_twice, NumberFound}
use Rattle.desk_tables.specs.Laid as laid
use Rattle.desk_tables.proofs.Laying.{strains-size}
use Rattle.desk_posts.specs.Posts.{FrontRead, BackRead, PostRead}
use Rattle.desk_posts.specs.declared.Front.{Front}

-- there is room for the words that are left
pub room : (s : List ℕ) (at : ℕ) → length s ≤ max_line → length (words_at s at) ≤ max_words
room s at h = few_words (drop at s) (let e = length-drop at s in omega (arith, e, h))

pub over-is : (s : List ℕ) (at : ℕ) (r : Word) → WordRead s at r → eqb r.start r.end ≡ no_more (words_at s at)
over-is s at r w = ap₂ eqb w.start_is w.end_is ∙ none_left s at

-- ---- word k as a number
module _ (s : List ℕ) (ws : List (List ℕ)) (k at : ℕ) (here : words_at s at ≡ drop k ws) where
  word-is : word_at 0 (words_at s at) ≡ word_at k ws
  word-is = ap (word_at 0) here ∙ get_or-drop k ws 0 [] ∙ ap (λ (i : ℕ). word_at i ws) (let z : k + 0 ≡ k = omega arith in z)

  pub field_found : (b : Bool) → b ≡ is_number (word_at 0 (words_at s at)) → is_number (word_at k ws) ≡ b
  field_found b e = sym (e ∙ ap is_number word-is)

  module _ (r : Parsed ℕ) (n : IsParsed s (at_most (value_of (word_at 0 (words_at s at)))) (end_at s at) r) where
    pub field_value : (most above : ℕ) → most < 1000000000000000 → cut_to most above r.value ≡ cut_to most above (value_of (word_at k ws))
    field_value most above h = ap (cut_to most above) n.value-is
        ∙ cut_twice most above (value_of (word_at 0 (words_at s at))) h ∙ ap (λ (w : List ℕ). cut_to most above (value_of w)) word-is

    pub field_next : words_at s r.end ≡ drop (k + 1) ws
    field_next = ap (words_at s) n.end_is ∙ words-behind s at ∙ ap (drop 1) here ∙ drop-drop 1 k ws

-- ---- what stands at the front of a table after a run was taken
pub taken-values : {A : Type 0} (p : List ℕ → Bool) (f : List ℕ → A) (s : List ℕ) (at : ℕ) (before after : List A) (r : Taken) → TakenIn p f s at before after r
    → take r.count after ≡ map f (leading p (words_at s at))
taken-values p f s at before after r t = ap₂ (λ (n : ℕ) (l : List _). take n l) t.count-is t.table_is
    ∙ take_at (map f (leading p (words_at s at))) (drop (length (leading p (words_at s at))) before) (length (leading p (words_at s at))) (length-map (leading p (words_at s at)) f)

pub taken-size : {A : Type 0} (p : List ℕ → Bool) (f : List ℕ → A) (s : List ℕ) (at : ℕ) (before after : List A) (r : Taken) → TakenIn p f s at before after r → length after ≡ length before
taken-size p f s at before after r t = let n = length (leading p (words_at s at)) in
    ap length t.table_is ∙ length_front before (map f (leading p (words_at s at))) n (length-map (leading p (words_at s at)) f ∙ sym (length-take-le n before (let q = t.count-is in let b = t.few in omega (arith, q, b))))

-- ---- "N distances"
module _ (s : List ℕ) (at : ℕ) (n : Parsed ℕ) (h : NumberFound s at (Some n)) where
  module _ (strains : ℕ) (e : strains ≡ cut_word n.value) (before after : List ℕ) (t : Taken)
      (taken : TakenIn is_number (λ w. cut_to 65535 65534 (value_of w)) s n.end before after t) (ds ds' : List ℕ) (l : laid.Front (by_strains strains (take t.count after)) ds ds') where
    next : words_at s n.end ≡ drop 1 (words_at s at)
    next = field_next s (words_at s at) 0 at refl n h.read

    rows : take t.count after ≡ map (λ w. cut_distance (value_of w)) (leading is_number (drop 1 (words_at s at)))
    rows = taken-values is_number (λ w. cut_distance (value_of w)) s n.end before after t taken ∙ ap (λ (ws : List (List ℕ)). map (λ w. cut_distance (value_of w)) (leading is_number ws)) next

    size : length (by_strains strains (take t.count after)) ≡ t.count
    size = strains-size strains (take t.count after) ∙ ap length rows ∙ length-map (leading is_number (drop 1 (words_at s at))) (λ w. cut_distance (value_of w))
        ∙ ap (λ (ws : List (List ℕ)). length (leading is_number ws)) (sym next) ∙ sym taken.count-is

    pub front-some : t.count ≤ length ds → FrontRead s at ds' (Some (record { n = strains; pairs = t.count; end = t.end }))
    front-some few = record {
      found-is = h.found-is;
      read = record {
        n-is = e ∙ field_value s (words_at s at) 0 at refl n h.read word word (omega arith);
        distances_are = ap (λ (k : ℕ). take k ds') (sym size) ∙ l.front-is ∙ ap (by_strains strains) rows;
        few = let q = l.size in omega (arith, few, q);
        within = taken.within;
        rest-is = taken.rest-is ∙ ap (behind is_number) next;
      };
    }

-- ---- "/ parents"
module _ (s : List ℕ) (at : ℕ) (w : Word) (h : WordRead s at w) (b : Bool) (is : b ≡ same (take (w.end - w.start) (drop w.start s)) slash) where
  slash-is : b ≡ same (word_at 0 (words_at s at)) slash
  slash-is = is ∙ ap (λ (l : List ℕ). same l slash) (ap₂ (λ (n k : ℕ). take n (drop k s)) size h.start_is ∙ first_word s at)
    where
      size : w.end - w.start ≡ run is_letter (drop (start_at s at) s)
      size = let p = h.start_is in let q = h.end_is in omega (arith, p, q)

  pub back_none : (ps : List ℕ) → b ≡ false → BackRead s at ps None
  back_none ps miss = record { found-is = sym (ap (λ (q : Bool). q && no_more (behind is_number (drop 1 (words_at s at)))) (sym slash-is ∙ miss)); read = tt }

  module _ (hit : b ≡ true) (before after : List ℕ) (t : Taken) (taken : TakenIn is_number (λ x. cut_to 255 255 (value_of x)) s w.end before after t)
      (done : Bool) (d : done ≡ no_more (words_at s t.end)) where
    parents-next : words_at s w.end ≡ drop 1 (words_at s at)
    parents-next = ap (words_at s) h.end_is ∙ words-behind s at

    done-is : done ≡ no_more (behind is_number (drop 1 (words_at s at)))
    done-is = d ∙ ap no_more (taken.rest-is ∙ ap (behind is_number) parents-next)

    found : done ≡ (same (word_at 0 (words_at s at)) slash && no_more (behind is_number (drop 1 (words_at s at))))
    found = done-is ∙ sym (ap (λ (q : Bool). q && no_more (behind is_number (drop 1 (words_at s at)))) (sym slash-is ∙ hit))

    pub back_more : (ps : List ℕ) → done ≡ false → BackRead s at ps None
    back_more ps miss = record { found-is = sym miss ∙ found; read = tt }

    values : take t.count after ≡ map (λ x. cut_parent (value_of x)) (leading is_number (words_at s w.end))
    values = taken-values is_number (λ x. cut_parent (value_of x)) s w.end before after t taken

    byte : (ws : List (List ℕ)) (k : ℕ) → get_or (map (λ x. cut_parent (value_of x)) ws) k 0 < 256
    byte [] k = omega arith
    byte (x ∷ xs) zero = by_cases (dec_lt 255 (value_of x)) (λ l. let e = cut_high 255 255 (value_of x) l in omega (arith, e)) (λ l. let e = cut_low 255 255 (value_of x) (omega arith) in omega (arith, e))
    byte (x ∷ xs) (suc k) = byte xs k

    pub back-bytes : (k : ℕ) → get_or (take t.count after) k 0 < 256
    back-bytes k = subst (λ (l : List ℕ). get_or l k 0 < 256) (sym values) (byte (leading is_number (words_at s w.end)) k)

    pub back_some : (ps ps' : List ℕ) → done ≡ true → laid.Front (take t.count after) ps ps' → t.count ≤ length ps → BackRead s at ps' (Some t.count)
    back_some ps ps' over l few = record {
      found-is = sym over ∙ found;
      read = record { parents_are = ap (λ (k : ℕ). take k ps') (sym size) ∙ l.front-is ∙ values ∙ ap (λ (ws : List (List ℕ)). map (λ x. cut_parent (value_of x)) (leading is_number ws)) parents-next; few = let q = l.size in omega (arith, few, q) };
    }
      where
        size : length (take t.count after) ≡ t.count
        size = ap length values ∙ length-map (leading is_number (words_at s w.end)) (λ x. cut_parent (value_of x)) ∙ sym taken.count-is

-- ---- the whole line
form-wrong : (b : Bool) (m : Meaning) → b ≡ false → wrong ≡ cut (of_form b m)
unfolding cut
form-wrong b m e = sym (ap (λ (q : Bool). cut (of_form q m)) e)

form-right : (b : Bool) (m n : Meaning) → b ≡ true → n ≡ cut m → n ≡ cut (of_form b m)
form-right b m n e f = f ∙ sym (ap (λ (q : Bool). cut (of_form q m)) e)

pub post-none : (s : List ℕ) (at : ℕ) (ds : List ℕ) → FrontRead s at ds None → (ps : List ℕ) → PostRead (post_in (words_at s at)) ds ps None
post-none s at ds h ps = record { means = form-wrong (is_number (word_at 0 (words_at s at))) _ (sym h.found-is); few = tt }

module _ (s : List ℕ) (at : ℕ) (ds : List ℕ) (f : Front) (h : FrontRead s at ds (Some f)) where
  abbrev ws : List (List ℕ)
  ws = words_at s at

  post_is : post_in ws ≡ parents_in (value_of (word_at 0 ws)) (map value_of (leading is_number (drop 1 ws))) (words_at s f.end)
  post_is = ap (λ (q : Bool). of_form q (parents_in (value_of (word_at 0 ws)) (map value_of (leading is_number (drop 1 ws))) (behind is_number (drop 1 ws)))) (sym h.found-is)
      ∙ ap (parents_in (value_of (word_at 0 ws)) (map value_of (leading is_number (drop 1 ws)))) (sym h.read.rest-is)

  pub post-wrong : (ps : List ℕ) → BackRead s f.end ps None → PostRead (post_in ws) ds ps None
  post-wrong ps g = rw post_is (record {
    means = form-wrong (same (word_at 0 (words_at s f.end)) slash && no_more (behind is_number (drop 1 (words_at s f.end)))) _ (sym g.found-is);
    few = tt;
  })

  pub post-some : (ps : List ℕ) (edges : ℕ) → BackRead s f.end ps (Some edges) → PostRead (post_in ws) ds ps (Some (record { n = f.n; pairs = f.pairs; edges = edges }))
  unfolding cut
  post-some ps edges g = record {
    means = form-right (same (word_at 0 (words_at s f.end)) slash && no_more (behind is_number (drop 1 (words_at s f.end)))) _ _ (sym g.found-is)
        (ap call (parts h.read.n-is distances (g.read.parents_are ∙ sym (map-map cut_parent value_of (leading is_number (drop 1 (words_at s f.end))))))) ∙ ap cut (sym post_is);
    few = (h.read.few, g.read.few);
  }
    where
      parts : {n n' : ℕ} {d d' p p' : List ℕ} → n ≡ n' → d ≡ d' → p ≡ p' → calls.post n d p ≡ calls.post n' d' p'
      parts e q r = rw (e, q, r)

      distances : take f.pairs ds ≡ map cut_distance (by_strains (value_of (word_at 0 ws)) (map value_of (leading is_number (drop 1 ws))))
      distances = h.read.distances_are ∙ ap₂ by_strains h.read.n-is (sym (map-map cut_distance value_of (leading is_number (drop 1 ws))))
          ∙ strains-cut (value_of (word_at 0 ws)) (map value_of (leading is_number (drop 1 ws)))

-- what is cut to 32 bits fits there
pub word_fits : (v n : ℕ) → v ≡ cut_word n → v < 4294967296
word_fits v n e = by_cases (dec_lt word n) (λ l. let q = cut_high word word n l in omega (arith, e, q)) (λ l. let q = cut_low word word n (omega arith) in omega (arith, e, q))

-- ---- how many words are taken
pub leading-short : (p : List ℕ → Bool) (ws : List (List ℕ)) → length (leading p ws) ≤ length ws
unfolding leading
leading-short p [] = omega arith
leading-short p (w ∷ ws) = go (p w) (leading-short p ws)
  where
    go : (b : Bool) → length (leading p ws) ≤ length ws → length (cond b (w ∷ leading p ws) []) ≤ suc (length ws)
    go true h = omega (arith, h)
    go false h = omega arith

module _ {A : Type 0} (p : List ℕ → Bool) (f : List ℕ → A) (s : List ℕ) (at : ℕ) (before after : List A) (r : Taken) (t : TakenIn p f s at before after r) where
  pub taken-front : r.count ≡ length (take r.count after)
  taken-front = sym (length-take-le r.count after (let n = taken-size p f s at before after r t in let b = t.few in omega (arith, n, b)))

  pub taken-few : length s ≤ max_line → r.count ≤ max_words
  taken-few h = let a = room s at h in let b = leading-short p (words_at s at) in let c = t.count-is in omega (arith, a, b, c)
