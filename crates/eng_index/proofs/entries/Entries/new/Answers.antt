use Rattle.eng_index.proofs.Gathering.{entries_of_none}
use Rattle.eng_index.proofs.entries.Entries.new.Goals as goal

pub returns-clause-rows : goal.returns-clause-rows
returns-clause-rows c = entries_of_none c.in_ok-new.field-0 c.new-2.result.items c.new-2.ensures.items
