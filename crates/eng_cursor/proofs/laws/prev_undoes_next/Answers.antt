use Rattle.eng_cursor.proofs.WalkLaws.{undoes}
use Rattle.eng_cursor.proofs.laws.prev_undoes_next.Goals as goal

pub returns : goal.returns
returns c = undoes
