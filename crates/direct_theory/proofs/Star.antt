-- Sets of strains as weights 0 and 1, so that a union is a sum: the distances between two sets (`link`), the paths from a set to a
-- vertex (`reach`), and the laws of Quartet for them. Laws:
-- `link_cong`, `link-∪ˡ`, `link-∪ʳ`, `link-sym`, `reach_cong`, `reach-∪`: sums between sets, set by set;
-- `star_swap`, `edge-flip`, `three-12`, `three-23`, `three_cong`: the order of the sets is free;
-- `over`: from the two sets at one end of an edge to what they are together at its other end;
-- `three-meets`: an edge's equation from the three directions at its end.
use mathlib.Core.Path.{◌≡◌, refl, sym, ◌∙◌, ap, ap₂}
use mathlib.Core.List.{[], ◌∷◌}
use Prim.Native.Nat.{ℕ, ◌<◌}
use lib.IntN.{ℤ, pos, ◌+ℤ◌, ◌-ℤ◌, ◌*ℤ◌}
use Rattle.exact.proofs.Ring.{*ℤ-distribʳ}
use Rattle.exact.proofs.Quote.{by-ring, quote}
use Rattle.exact.specs.Order.{◌<ᶻ◌}
use Rattle.exact.specs.Sum.{sum}
use Rattle.exact.proofs.Sum.{sum_cong, sum-+, sum_swap}
use Rattle.direct_theory.proofs.Quartet.{IsStar, IsEdge, grow, meets}

-- two sets of the strains below N are the same
abbrev pub Same : ℕ → (ℕ → ℤ) → (ℕ → ℤ) → Type 0
Same N f g = (i : ℕ) → i < N → f i ≡ g i

-- the distances between two sets
unfoldable pub link : ℕ → (ℕ → ℕ → ℤ) → (ℕ → ℤ) → (ℕ → ℤ) → ℤ
link N e f g = sum N (λ i. sum N (λ j. f i *ℤ g j *ℤ e i j))

-- the paths from a set to w
unfoldable pub reach : ℕ → (ℕ → ℕ → ℤ) → (ℕ → ℤ) → ℕ → ℤ
reach N r f w = sum N (λ i. f i *ℤ r i w)

module _ (N : ℕ) where
  -- the same sets have the same sums
  pub link_cong : (e : ℕ → ℕ → ℤ) (f f' g g' : ℕ → ℤ) → Same N f f' → Same N g g' → link N e f g ≡ link N e f' g'
  unfolding link
  link_cong e f f' g g' p q = sum_cong N (λ i l. sum_cong N (λ j k. ap₂ (λ x y. x *ℤ y *ℤ e i j) (p i l) (q j k)))

  pub reach_cong : (r : ℕ → ℕ → ℤ) (f f' : ℕ → ℤ) (w : ℕ) → Same N f f' → reach N r f w ≡ reach N r f' w
  unfolding reach
  reach_cong r f f' w p = sum_cong N (λ i l. ap (λ x. x *ℤ r i w) (p i l))

  -- the sums of a union are those of its parts
  pub link-∪ˡ : (e : ℕ → ℕ → ℤ) (f g h : ℕ → ℤ) → link N e (λ i. f i +ℤ g i) h ≡ link N e f h +ℤ link N e g h
  unfolding link
  link-∪ˡ e f g h = sum_cong N (λ i l. sum_cong N (λ j k. by-ring (f i ∷ g i ∷ h j ∷ e i j ∷ []) (search quote depth 20) tt)
      ∙ sum-+ N (λ j. f i *ℤ h j *ℤ e i j) (λ j. g i *ℤ h j *ℤ e i j))
      ∙ sum-+ N (λ i. sum N (λ j. f i *ℤ h j *ℤ e i j)) (λ i. sum N (λ j. g i *ℤ h j *ℤ e i j))

  pub reach-∪ : (r : ℕ → ℕ → ℤ) (f g : ℕ → ℤ) (w : ℕ) → reach N r (λ i. f i +ℤ g i) w ≡ reach N r f w +ℤ reach N r g w
  unfolding reach
  reach-∪ r f g w = sum_cong N (λ i l. *ℤ-distribʳ (f i) (g i) (r i w)) ∙ sum-+ N (λ i. f i *ℤ r i w) (λ i. g i *ℤ r i w)

  module _ (e : ℕ → ℕ → ℤ) (e-sym : (i j : ℕ) → e i j ≡ e j i) where
    -- from either side
    pub link-sym : (f g : ℕ → ℤ) → link N e f g ≡ link N e g f
    unfolding link
    link-sym f g = sum_swap N N (λ i j. f i *ℤ g j *ℤ e i j)
        ∙ sum_cong N (λ j l. sum_cong N (λ i k. ap (λ y. f i *ℤ g j *ℤ y) (e-sym i j) ∙ by-ring (f i ∷ g j ∷ e j i ∷ []) (search quote depth 20) tt))

    pub link-∪ʳ : (f g h : ℕ → ℤ) → link N e f (λ i. g i +ℤ h i) ≡ link N e f g +ℤ link N e f h
    link-∪ʳ f g h = link-sym f (λ i. g i +ℤ h i) ∙ link-∪ˡ e g h f ∙ ap₂ ◌+ℤ◌ (link-sym g f) (link-sym h f)

-- ★: from f to w, with g and h in the other two directions
abbrev pub Star : ℕ → (ℕ → ℕ → ℤ) → (ℕ → ℕ → ℤ) → (ℕ → ℤ) → (ℕ → ℤ) → (ℕ → ℤ) → ℕ → Type 0
Star N e r f g h w = IsStar (sum N f) (sum N g) (sum N h) (reach N r f w) (link N e f g) (link N e f h) (link N e g h)

-- the length l of an edge with A, B at one end and C, D at the other
abbrev pub Edge : ℕ → (ℕ → ℕ → ℤ) → (A B C D : ℕ → ℤ) → ℤ → Type 0
Edge N e A B C D l = IsEdge (sum N A) (sum N B) (sum N C) (sum N D) l (link N e A B) (link N e A C) (link N e A D) (link N e B C) (link N e B D) (link N e C D)

-- the three directions at w
pub record Three (N : ℕ) (e r : ℕ → ℕ → ℤ) (f g h : ℕ → ℤ) (w : ℕ) : Type 0 where
  pub from₁ : Star N e r f g h w
  pub from₂ : Star N e r g f h w
  pub from₃ : Star N e r h f g w

module _ (N : ℕ) (e r : ℕ → ℕ → ℤ) where
  -- the law for the same sets
  pub star_cong : (f f' g g' h h' : ℕ → ℤ) (w : ℕ) → Same N f f' → Same N g g' → Same N h h' → Star N e r f g h w → Star N e r f' g' h' w
  star_cong f f' g g' h h' w p q s t = rw (
    ← (sum_cong N p),
    ← (sum_cong N q),
    ← (sum_cong N s),
    ← (reach_cong N r f f' w p),
    ← (link_cong N e f f' g g' p q),
    ← (link_cong N e f f' h h' p s),
    ← (link_cong N e g g' h h' q s),
  ) t

  module _ (e-sym : (i j : ℕ) → e i j ≡ e j i) where
    -- the other two directions may be exchanged
    pub star_swap : (f g h : ℕ → ℤ) (w : ℕ) → Star N e r f g h w → Star N e r f h g w
    star_swap f g h w t = flip (sum N f) (sum N g) (sum N h) (reach N r f w) (link N e f g) (link N e f h) (link N e g h) (link N e h g) (link-sym N e e-sym g h) t
      where
        flip : (a b c t ab ac bc cb : ℤ) → bc ≡ cb → IsStar a b c t ab ac bc → IsStar a c b t ac ab cb
        flip a b c t ab ac bc cb q s = by-ring (b ∷ c ∷ t ∷ []) (search quote depth 20) tt ∙ s ∙ ap (λ y. c *ℤ ab +ℤ b *ℤ ac -ℤ a *ℤ y) q
            ∙ by-ring (a ∷ b ∷ c ∷ ab ∷ ac ∷ cb ∷ []) (search quote depth 20) tt

    -- the ends of an edge may be exchanged
    pub edge-flip : (A B C D : ℕ → ℤ) (l : ℤ) → Edge N e A B C D l → Edge N e C D A B l
    edge-flip A B C D l t = rw (link-sym N e e-sym C A, link-sym N e e-sym C B, link-sym N e e-sym D A, link-sym N e e-sym D B)
        (flip (sum N A) (sum N B) (sum N C) (sum N D) l (link N e A B) (link N e A C) (link N e A D) (link N e B C) (link N e B D) (link N e C D) t)
      where
        flip : (a b c d l ab ac ad bc bd cd : ℤ) → IsEdge a b c d l ab ac ad bc bd cd → IsEdge c d a b l cd ac bc ad bd ab
        flip a b c d l ab ac ad bc bd cd t = by-ring (a ∷ b ∷ c ∷ d ∷ l ∷ []) (search quote depth 60 fits 9000) tt ∙ t
            ∙ by-ring (a ∷ b ∷ c ∷ d ∷ ab ∷ ac ∷ ad ∷ bc ∷ bd ∷ cd ∷ []) (search quote depth 60 fits 9000) tt

    -- the three directions in another order, and by other names of the sets
    pub three-12 : (f g h : ℕ → ℤ) (w : ℕ) → Three N e r f g h w → Three N e r g f h w
    three-12 f g h w t = record { from₁ = t.from₂; from₂ = t.from₁; from₃ = star_swap h f g w t.from₃ }

    pub three-23 : (f g h : ℕ → ℤ) (w : ℕ) → Three N e r f g h w → Three N e r f h g w
    three-23 f g h w t = record { from₁ = star_swap f g h w t.from₁; from₂ = t.from₃; from₃ = t.from₂ }

    pub three_cong : (f f' g g' h h' : ℕ → ℤ) (w : ℕ) → Same N f f' → Same N g g' → Same N h h' → Three N e r f g h w → Three N e r f' g' h' w
    three_cong f f' g g' h h' w p q s t = record {
      from₁ = star_cong f f' g g' h h' w p q s t.from₁;
      from₂ = star_cong g g' f f' h h' w q p s t.from₂;
      from₃ = star_cong h h' f f' g g' w s p q t.from₃;
    }

    -- over an edge from w to u: A and B at w are X at u, C and D at u are Y at w
    pub over : (A B C D X Y : ℕ → ℤ) (w u : ℕ) (l : ℤ) → Same N (λ i. A i +ℤ B i) X → Same N (λ i. C i +ℤ D i) Y
        → pos 0 <ᶻ sum N A → pos 0 <ᶻ sum N B → pos 0 <ᶻ sum N C → pos 0 <ᶻ sum N D
        → reach N r X u ≡ sum N X *ℤ l +ℤ reach N r X w
        → Star N e r A B Y w → Star N e r B A Y w → Edge N e A B C D l → Star N e r X C D u
    over A B C D X Y w u l hX hY pa pb pc pd hr sA sB hl =
        rw (
          hr,
          ← (sum_cong N hX),
          ← (reach_cong N r (λ i. A i +ℤ B i) X w hX),
          ← (link_cong N e (λ i. A i +ℤ B i) X C C hX (λ i k. refl)),
          ← (link_cong N e (λ i. A i +ℤ B i) X D D hX (λ i k. refl)),
          sum-+ N A B,
          reach-∪ N r A B w,
          link-∪ˡ N e A B C,
          link-∪ˡ N e A B D,
        )
        (grow (sum N A) (sum N B) (sum N C) (sum N D) l (reach N r A w) (reach N r B w) (link N e A B) (link N e A C) (link N e A D) (link N e B C) (link N e B D) (link N e C D)
        pa pb pc pd (open_Y A B sA) (rw (← (link-sym N e e-sym A B)) at (open_Y B A sB)) hl)
      where
        open_Y : (A B : ℕ → ℤ) → Star N e r A B Y w → IsStar (sum N A) (sum N B) (sum N C +ℤ sum N D) (reach N r A w) (link N e A B) (link N e A C +ℤ link N e A D) (link N e B C +ℤ link N e B D)
        open_Y A B s = rw (sum-+ N C D, link-∪ʳ N e e-sym A C D, link-∪ʳ N e e-sym B C D) at (star_cong A A B B Y (λ i. C i +ℤ D i) w (λ i k. refl) (λ i k. refl) (λ i k. sym (hY i k)) s)

    -- the paths over an edge, from the three directions at its end
    pub three-meets : (f g h : ℕ → ℤ) (w : ℕ) → pos 0 <ᶻ sum N g → pos 0 <ᶻ sum N h → Three N e r f g h w
        → (sum N g +ℤ sum N h) *ℤ reach N r f w +ℤ sum N f *ℤ (reach N r g w +ℤ reach N r h w) ≡ link N e f g +ℤ link N e f h
    three-meets f g h w pg ph t = meets (sum N f) (sum N g) (sum N h) (reach N r f w) (reach N r g w) (reach N r h w) (link N e f g) (link N e f h) (link N e g h) pg ph
        t.from₁ (rw (link-sym N e e-sym g f) at t.from₂) (rw (link-sym N e e-sym h f, link-sym N e e-sym h g) at t.from₃)
