use Rattle.eng_record.proofs.Records.{reading_spelled}
use Rattle.eng_record.proofs.laws.read_again.Goals as goal

pub returns : goal.returns
returns c = reading_spelled
