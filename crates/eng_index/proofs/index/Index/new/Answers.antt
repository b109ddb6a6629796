use Rattle.eng_index.proofs.Keeping.{index_of_none}
use Rattle.eng_index.proofs.index.Index.new.Goals as goal

pub returns-clause-rows : goal.returns-clause-rows
returns-clause-rows c = index_of_none c.in_ok-new.field-0 c.new-2.result.pairs c.new-2.ensures
