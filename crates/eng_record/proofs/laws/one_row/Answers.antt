use Rattle.eng_record.proofs.Records.{same_row}
use Rattle.eng_record.proofs.laws.one_row.Goals as goal

pub returns : goal.returns
returns c = same_row
