use Rattle.eng_record.proofs.Records.{same_front}
use Rattle.eng_record.proofs.laws.none_begins_another.Goals as goal

pub returns : goal.returns
returns c = same_front
