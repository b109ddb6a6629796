use Rattle.eng_cursor.proofs.WalkLaws.{seeks}
use Rattle.eng_cursor.proofs.laws.seeks_as_the_map.Goals as goal

pub returns : goal.returns
returns c = seeks
