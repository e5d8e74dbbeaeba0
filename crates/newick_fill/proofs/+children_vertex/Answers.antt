-- Each return is one step of `Steps`.
use mathlib.Core.Path.{sym, ◌∙◌, refl}
use native.Mathlib.Omega.{arith}
use Rattle.digits.proofs.Reading.{inside}
use Rattle.records.specs.Form.{head_size}
use Rattle.names.specs.Record.{place_of}
use Rattle.newick_fill.proofs.Steps.{stored, bracket_kids, took_bracket, took-name, first-child, length-stands, took-last, other-kids, others-within, took_more}
use Rattle.newick_fill.proofs.+children_vertex.Goals as goal

-- ---- vertex
pub vertex-children-requires : goal.vertex-children-requires
vertex-children-requires t c =
    let a = c.args in
    let b = sym c.byte_at.ensures ∙ c.if-byte_at-eq40.true in
    let h = inside a.text.now a.at 39 b in
    (omega (arith, c.decreases, h), ((omega (arith, h), omega (arith, c.requires.at_in_bounds.1), c.requires.at_in_bounds.2), bracket_kids (place_of a.names.now head_size a.n) a.text.now a.at a.next a.parents.now a.parents.now a.numerators.now a.numerators.now b c.requires.vertex))

pub vertex-returns-then-byte_at-eq40 : goal.vertex-returns-then-byte_at-eq40
vertex-returns-then-byte_at-eq40 t c =
    let a = c.args in
    let k = c.children in
    took_bracket (place_of a.names.now head_size a.n) a.text.now a.at a.next a.parents.now k.new.parents a.numerators.now k.new.numerators (sym c.byte_at.ensures ∙ c.if-byte_at-eq40.true) k.result k.ensures

pub vertex-returns : goal.vertex-returns
vertex-returns t c =
    let a = c.args in
    let e = c.name_end-end in
    took-name (place_of a.names.now head_size a.n) a.text.now a.at a.next a.parents.now a.parents.now a.numerators.now a.numerators.now (λ z. c.if-byte_at-eq40.false (c.byte_at.ensures ∙ z)) e.result e.ensures.0 e.ensures.1 c.find_strain.result c.find_strain.ensures refl refl c.requires.at_in_bounds.1

-- ---- children
pub children-vertex-child-requires : goal.children-vertex-child-requires
children-vertex-child-requires t c =
    let a = c.args in
    (omega (arith, c.decreases), (c.requires.at_in_bounds, first-child (place_of a.names.now head_size a.n) a.text.now a.at a.next a.parents.now a.parents.now a.numerators.now a.numerators.now c.requires.children))

pub children-overflow_add-child : goal.children-overflow_add-child
children-overflow_add-child t c =
    let a = c.args in
    let v = c.vertex-child in
    let s = length-stands (place_of a.names.now head_size a.n) a.text.now a.at a.next a.parents.now v.new.parents a.numerators.now v.new.numerators v.result v.ensures c.requires.children in
    omega (arith, s.0)

pub children-length_at-length-requires : goal.children-length_at-length-requires
children-length_at-length-requires t c =
    let a = c.args in
    let v = c.vertex-child in
    length-stands (place_of a.names.now head_size a.n) a.text.now a.at a.next a.parents.now v.new.parents a.numerators.now v.new.numerators v.result v.ensures c.requires.children

pub children-overflow_add-result-then-byte_at-eq41 : goal.children-overflow_add-result-then-byte_at-eq41
children-overflow_add-result-then-byte_at-eq41 t c =
    let a = c.args in
    let v = c.vertex-child in
    let w = v.ensures (first-child (place_of a.names.now head_size a.n) a.text.now a.at a.next a.parents.now v.new.parents a.numerators.now v.new.numerators c.requires.children) in
    omega (arith, inside a.text.now c.length_at-length.result.end 40 (sym c.byte_at.ensures ∙ c.if-byte_at-eq41.true), w.small, w.within, c.well_formed)

pub children-returns-then-byte_at-eq41 : goal.children-returns-then-byte_at-eq41
children-returns-then-byte_at-eq41 t c =
    let a = c.args in
    let v = c.vertex-child in
    let l = c.length_at-length in
    let u = c.put in
    took-last (place_of a.names.now head_size a.n) a.text.now a.at a.next a.parents.now v.new.parents a.numerators.now v.new.numerators v.result v.ensures l.result.end l.ensures.stop (sym c.byte_at.ensures ∙ c.if-byte_at-eq41.true) _ (stored l.result.thousandths _ l.ensures.value) u.new.parents u.new.numerators u.ensures.parents_after u.ensures.numerators_after

pub children-children-others-requires : goal.children-children-others-requires
children-children-others-requires t c =
    let a = c.args in
    let v = c.vertex-child in
    let l = c.length_at-length in
    let find = place_of a.names.now head_size a.n in
    let w = others-within find a.text.now a.at a.next a.parents.now v.new.parents a.numerators.now v.new.numerators v.result v.ensures l.result.end l.ensures.stop (λ e. c.if-byte_at-eq41.false (c.byte_at.ensures ∙ e)) c.requires.children in
    (omega (arith, c.decreases, w.0, w.1), ((w.1, w.2, c.requires.at_in_bounds.2), other-kids find a.text.now a.at a.next a.parents.now v.new.parents a.numerators.now v.new.numerators v.result v.ensures l.result.end l.ensures.stop (λ e. c.if-byte_at-eq41.false (c.byte_at.ensures ∙ e)) c.requires.children))

pub children-returns : goal.children-returns
children-returns t c =
    let a = c.args in
    let v = c.vertex-child in
    let l = c.length_at-length in
    let o = c.children-others in
    let u = c.put-2 in
    took_more (place_of a.names.now head_size a.n) a.text.now a.at a.next a.parents.now v.new.parents a.numerators.now v.new.numerators v.result v.ensures l.result.end l.ensures.stop (λ e. c.if-byte_at-eq41.false (c.byte_at.ensures ∙ e)) _ (stored l.result.thousandths _ l.ensures.value) o.new.parents u.new.parents o.new.numerators u.new.numerators o.result o.ensures u.ensures.parents_after u.ensures.numerators_after
