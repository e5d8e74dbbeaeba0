-- A text that was written into the front part of a buffer stands at the front of the buffer; behind it the line end, or a refusal in its place.
use mathlib.Core.Path.{◌≡◌, refl, sym, ◌∙◌, ap, subst}
use mathlib.Core.List.{List, [], ◌∷◌, ◌++◌, append_assoc}
use Prim.Native.Nat.{ℕ, ◌+◌, ◌≤◌, ◌<◌}
use native.Mathlib.Omega.{arith}
use lib.ListN.{length, take, drop, length-append, length-drop, take-append-drop}
use lib.Seq.{length-take-le, drop-append-le}
use Rattle.verdict.specs.Answer.{Answer, pass, fault, reason_number, refusal_of, ◌or_else◌}
use Rattle.std.specs.Prelude.{Ok, Err}
use Rattle.verdict.specs.declared.Refusal.{Refusal}
use Rattle.verdict.proofs.Answers.{not_pass}
use Rattle.writing.specs.Text.{Wrote}
use Rattle.writing.proofs.Writing.{wrote_then, wrote-within}
use Rattle.lines.specs.Lines.{refused_line, end}
use Rattle.answer_lines.specs.Texts.{by_answer}
use Rattle.lines.proofs.Sizes.{refused-length}
use Rattle.pages.specs.Texts.{ShownOn}
use Rattle.pages.proofs.Texts.{whole_page}
use Rattle.newick_text.specs.Tree.{max_text}
use Rattle.newick_write.specs.Answers.{room_out, Told}
use Rattle.sheet_names.specs.Labels.{named_tests}
use Rattle.newick_sheet.specs.Named.{sheet_text_tests, named_text}
use Rattle.newick_pages.specs.Texts.{newick_text, newick_page}

-- ---- a part of a buffer
module _ (b : List ℕ) (k : ℕ) (h : k ≤ length b) where
  pub part_length : length (take k b) ≡ k
  part_length = length-take-le k b h

  part-behind : (m : ℕ) → m ≤ k → drop m (take k b) ++ drop k b ≡ drop m b
  part-behind m l = sym (drop-append-le m (take k b) (drop k b) (omega (arith, part_length))) ∙ ap (drop m) (take-append-drop k b)

  pub wrote-part : (p t : List ℕ) (n : ℕ) → length p ≡ length (take k b) → Wrote (take k b) p 0 t n → Wrote b (p ++ drop k b) 0 t n
  wrote-part p t n same w = record {
    place = w.place;
    buffer = ap (λ (l : List ℕ). l ++ drop k b) w.buffer ∙ append_assoc t (drop (0 + length t) (take k b)) (drop k b)
        ∙ ap (λ (l : List ℕ). t ++ l) (part-behind (0 + length t) (omega (arith, w.place, wrote-within w, same, part_length)));
  }

-- ---- the print
module _ (s b p : List ℕ) (big : newick_page ≤ length b) (same : length p ≡ length (take max_text b)) where
  enough : max_text ≤ length b
  enough = omega arith

  -- the part is of a text's size, so 15 passes
  always : (x : Answer) → (x or_else room_out (length (take max_text b))) ≡ x
  always pass = ap (λ (n : ℕ). room_out n) (part_length b max_text enough)
  always (fault k q) = refl

  pub still-long : length (p ++ drop max_text b) ≡ length b
  still-long = length-append p (drop max_text b) ∙ omega (arith, same, part_length b max_text enough, length-drop max_text b)

  module _ (q : Refusal) (a : Told (sheet_text_tests s (length (take max_text b))) (named_text s) (take max_text b) p (Err q)) where
    refusal : refusal_of q ≡ named_tests s
    refusal = a.answer ∙ always (named_tests s)

    untouched : p ++ drop max_text b ≡ b
    untouched = ap (λ (l : List ℕ). l ++ drop max_text b) a.kept ∙ take-append-drop max_text b

    pub shows-refusal : (after : List ℕ) (next k : ℕ) → k ≡ reason_number q.reason → Wrote (p ++ drop max_text b) after 0 (refused_line k q.place) next → ShownOn newick_page (newick_text s) b after next
    shows-refusal after next k f w =
        let text : refused_line k q.place ≡ newick_text s = ap (λ (x : ℕ). refused_line x q.place) f ∙ ap (λ (x : Answer). by_answer x (named_text s ++ end)) refusal in
        whole_page newick_page (newick_text s) b after next (omega (arith, ap length text, refused-length k q.place)) big
        (subst (λ (l : List ℕ). Wrote b after 0 l next) text (subst (λ (l : List ℕ). Wrote l after 0 (refused_line k q.place) next) untouched w))

  module _ (last : ℕ) (a : Told (sheet_text_tests s (length (take max_text b))) (named_text s) (take max_text b) p (Ok last)) where
    passed : named_tests s ≡ pass
    passed = sym (a.answer ∙ always (named_tests s))

    stands : Wrote b (p ++ drop max_text b) 0 (named_text s) last
    stands = wrote-part b max_text enough p (named_text s) last same a.written

    short : last ≤ max_text
    short = omega (arith, wrote-within a.written, same, part_length b max_text enough)

    pub line-room : last < length (p ++ drop max_text b)
    line-room = omega (arith, still-long, short)

    pub shows-text : (after : List ℕ) (next : ℕ) → Wrote (p ++ drop max_text b) after last (10 ∷ []) next → ShownOn newick_page (newick_text s) b after next
    shows-text after next w =
        let text : named_text s ++ end ≡ newick_text s = ap (λ (x : Answer). by_answer x (named_text s ++ end)) (sym passed) in
        let all = wrote_then (omega (arith, stands.place, line-room, still-long)) stands w in
        whole_page newick_page (newick_text s) b after next (omega (arith, ap length text, length-append (named_text s) end, stands.place, short)) big (subst (λ (l : List ℕ). Wrote b after 0 l next) text all)
