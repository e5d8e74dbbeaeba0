-- By numbers where the sheet has no names, by its names where they pass, and otherwise the refusal.
use mathlib.Core.Path.{sym, ◌∙◌}
use native.Mathlib.Omega.{arith}
use Rattle.pages.proofs.Texts.{small_page}
use Rattle.paths_pages.proofs.Showing.{paths-close, shown, numbers_lent, numbered-text, names-refused, names-lent, named-text}
use Rattle.paths_pages.proofs.paths_print.Goals as goal

pub returns-then-text-lt-PAGE : goal.returns-then-text-lt-PAGE
returns-then-text-lt-PAGE c = record {
  shown_on = small_page _ _ _ c.if-text-lt-PAGE.true;
  paths_close = paths-close c.args.s.now;
}

pub print_pairs-requires : goal.print_pairs-requires
print_pairs-requires c = let h = c.has_names.ensures in let which = c.if-not-has_names.true in record {
  lt_count = (omega arith, omega arith);
  names_from = numbers_lent c.args.s.now (sym h ∙ which) c.numbers-numbers.result c.numbers-numbers.ensures;
  pairs_page_in_bounds = omega (arith, c.if-text-lt-PAGE.false);
}

pub returns-then-not-has_names : goal.returns-then-not-has_names
returns-then-not-has_names c = let h = c.has_names.ensures in let which = c.if-not-has_names.true in record {
  shown_on = shown c.args.s.now c.args.text.now _ _ _ (omega (arith, c.if-text-lt-PAGE.false)) (numbered-text c.args.s.now (sym h ∙ which) c.numbers-numbers.result c.numbers-numbers.ensures) c.print_pairs.ensures;
  paths_close = paths-close c.args.s.now;
}

pub returns-in-Err : goal.returns-in-Err
returns-in-Err c = let h = c.has_names.ensures in let which = c.if-not-has_names.false in record {
  shown_on = names-refused c.args.s.now (sym h ∙ which) c.in-Err.refusal _ c.in-Err.ensures c.from.ensures (omega (arith, c.if-text-lt-PAGE.false)) c.refused_line.ensures;
  paths_close = paths-close c.args.s.now;
}

pub print_pairs-requires-in-Ok : goal.print_pairs-requires-in-Ok
print_pairs-requires-in-Ok c = let h = c.has_names.ensures in let which = c.if-not-has_names.false in record {
  lt_count = (omega arith, omega arith);
  names_from = (λ _. names-lent c.args.s.now (sym h ∙ which) c.in-Ok.ensures);
  pairs_page_in_bounds = omega (arith, c.if-text-lt-PAGE.false);
}

pub returns-in-Ok : goal.returns-in-Ok
returns-in-Ok c = let h = c.has_names.ensures in let which = c.if-not-has_names.false in record {
  shown_on = shown c.args.s.now c.args.text.now _ _ _ (omega (arith, c.if-text-lt-PAGE.false)) (named-text c.args.s.now (sym h ∙ which) c.in-Ok.ensures) c.print_pairs-in-Ok.ensures;
  paths_close = paths-close c.args.s.now;
}
