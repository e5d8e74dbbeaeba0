-- What a program answers to what was read.
use Rattle.std.specs.Prelude.{List, [], ℕ, take, Result, Ok, Err}
use Rattle.verdict.specs.declared.Rule.TheVariants.{Plain, Drawable}
use Rattle.pages.specs.Texts.{sheet_text, unfitted_text}
use Rattle.programs.specs.declared.Print.{Print}
use Rattle.programs.specs.declared.Print.TheVariants.{Report, Report0, Resolved}

-- the print of a sheet that each program is for
abbrev pub print_of : Print → List ℕ → List ℕ
print_of Report s = sheet_text Plain s
print_of Report0 s = sheet_text Drawable s
print_of Resolved s = unfitted_text s

-- the print of the bytes that came, and nothing where a read failed
unfoldable pub answer_text : Print → Result ℕ ℕ → List ℕ → List ℕ
answer_text print (Err before) space = []
answer_text print (Ok count) space = print_of print (take count space)
