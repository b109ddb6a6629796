use Rattle.sql_meaning.proofs.PartsLaws.{parts_from-stays}
use Rattle.sql_meaning.proofs.laws.parts_stay.Goals as goal

pub returns : goal.returns
returns c = parts_from-stays _ _
