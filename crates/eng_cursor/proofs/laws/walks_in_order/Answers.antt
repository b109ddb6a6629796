use Rattle.eng_cursor.proofs.WalkLaws.{walks}
use Rattle.eng_cursor.proofs.laws.walks_in_order.Goals as goal

pub returns : goal.returns
returns c = walks
