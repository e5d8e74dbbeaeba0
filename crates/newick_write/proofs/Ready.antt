-- What may be told has names within its bytes, and a text far shorter than the buffer; and the tree by the table of the names' starts is the
-- tree by the names themselves.
use mathlib.Core.Path.{◌≡◌, refl, ◌∙◌, ap}
use mathlib.Core.List.{List}
use Prim.Native.Nat.{ℕ, suc, ◌+◌, ◌<◌, ◌≤◌}
use native.Mathlib.Decide.{ℕ_discrete}
use native.Mathlib.Omega.{arith}
use lib.IntN.{ℤ}
use lib.ListN.{length, get_or, take, drop}
use Rattle.exact.specs.Table.{padded, entry_of}
use Rattle.exact.proofs.Decide.{by_cases}
use Rattle.matrix.specs.Limits.{max_strains}
use Rattle.tree_theory.specs.Chain.{parent_of}
use Rattle.tree_theory.specs.Allowed.{Allowed}
use Rattle.tree_theory.proofs.Checked.{allowed→}
use Rattle.records.specs.Names.{name_start, max_name}
use Rattle.records.proofs.Decoding.{padded-before, padded-length}
use Rattle.records.proofs.Names.{name-next, names_rise}
use Rattle.names.specs.Record.{name_of}
use Rattle.names.proofs.Laws.{name-long, names-formed}
use Rattle.writing.specs.Text.{Wrote}
use Rattle.newick_text.specs.Tree.{size_of, text_of}
use Rattle.newick_text.proofs.Trees.{children_cong}
use Rattle.newick_text.proofs.Planted.{tree-size}
use Rattle.newick_put.specs.Put.{word_at, edge_text, Words, tree_at, children_at, widest_length}
use Rattle.newick_put.proofs.Putting.{length-widest}
use Rattle.newick_write.specs.Answers.{root_of, tree_text, Tellable}

module _ (s : List ℕ) (from n : ℕ) (ps : List ℕ) (ms : List ℤ) (buffer : List ℕ) (t : Tellable s from n ps ms buffer) where
  pub allowed : Allowed n (length ps) (parent_of ps)
  allowed = allowed→ n ps t.allowed

  -- each name lies within the bytes
  start-within : (i : ℕ) → i < n → name_start s from i + 1 + get_or s (name_start s from i) 0 ≤ length s
  start-within i h = by_cases (ℕ_discrete (suc i) n)
      (λ e. omega (arith, name-next s from i, ap (name_start s from) e, t.within))
      (λ e. omega (arith, name-next s from i, names_rise s from (suc i) n (omega arith), t.within))

  module _ (starts : List ℕ) (e : starts ≡ padded 0 max_strains n (name_start s from)) where
    few : n ≤ max_strains
    few = allowed.few

    start_is : (i : ℕ) → i < n → get_or starts i 0 ≡ name_start s from i
    start_is i h = ap (λ (l : List ℕ). get_or l i 0) e ∙ padded-before 0 max_strains n (name_start s from) i h

    pub words : Words s starts n
    words = record {
      enough = omega (arith, few, ap length e ∙ padded-length 0 max_strains n (name_start s from) few);
      within = λ i h. rw (start_is i h) (start-within i h);
    }

    word-is : (i : ℕ) → i < n → word_at s starts i ≡ name_of s from i
    unfolding name_of
    word-is i h = ap (λ (x : ℕ). take (get_or s x 0) (drop (x + 1) s)) (start_is i h)

    pub room : size_of (tree_at ps ms s starts n (length ps)) + widest_length ≤ length buffer
    room =
        let size = tree-size ps (word_at s starts) (edge_text ms) n (length ps) allowed max_name widest_length (omega arith)
        (λ i h. omega (arith, ap length (word-is i h), (name-long (name_of s from i) (names-formed s from n t.named i h)).1)) (λ i h. length-widest (entry_of ms i)) in
        omega (arith, size, t.room, allowed.most, allowed.few)

    text-is : text_of (children_at ps ms s starts n (length ps)) ≡ text_of (root_of s from n ps ms)
    text-is = ap text_of (children_cong ps (word_at s starts) (name_of s from) (edge_text ms) (edge_text ms) n (length ps) word-is (λ i h. refl))

    pub text_as : (after : List ℕ) (next : ℕ) → Wrote buffer after 0 (text_of (children_at ps ms s starts n (length ps))) next → Wrote buffer after 0 (tree_text s from n ps ms) next
    text_as after next w = rw text-is at w
