-- The count, which was cut above every matrix's; where none stands, none is asked for.
use Rattle.phylip.proofs.Rewriting.{no_strains}
use Rattle.phylip.proofs.strains_for.Goals as goal

pub returns-in_default : goal.returns-in_default
returns-in_default c = no_strains _ c.in_default.ensures.none_is
