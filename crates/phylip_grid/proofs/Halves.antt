-- A cell beside what is due there, and all of them.
use mathlib.Core.Path.{◌≡◌, sym, ◌∙◌, ap}
use mathlib.Core.Bool.{true, false, not}
use mathlib.Core.Logic.{◌≢◌}
use mathlib.Core.List.{List}
use Prim.Native.Nat.{ℕ, ◌<◌}
use borrow.Author.Tests.{eq-eqb, ne_eqb}
use lib.Dec.{eqb}
use Rattle.verdict.specs.Table.{some}
use Rattle.verdict.proofs.Table.{some-yes, some-no}
use Rattle.phylip_text.specs.Form.{halves_out}
use Rattle.phylip_grid.specs.Grid.{grid_at, cell_off}

pub off : (x due d : ℕ) → due ≡ d → x ≢ due → not (eqb x d) ≡ true
off x due d e h = ap not (ne_eqb x d (λ q. h (q ∙ sym e)))

pub not_off : (x due d : ℕ) → due ≡ d → x ≡ due → not (eqb x d) ≡ false
not_off x due d e h = ap not (eq-eqb x d (h ∙ e))

pub halves-yes : (grid : List ℕ) (n i : ℕ) → i < n → some n (cell_off grid i) ≡ true → true ≡ halves_out n (grid_at grid)
unfolding halves_out
halves-yes grid n i h e = sym (some-yes n (λ k. some n (cell_off grid k)) i h e)

pub halves-no : (grid : List ℕ) (n : ℕ) → ((i : ℕ) → i < n → some n (cell_off grid i) ≡ false) → false ≡ halves_out n (grid_at grid)
unfolding halves_out
halves-no grid n h = sym (some-no n (λ k. some n (cell_off grid k)) h)
