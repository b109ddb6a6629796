use Rattle.sql_meaning.proofs.TellingLaws.{text_is_told}
use Rattle.sql_meaning.proofs.laws.without_hosts_all_is_told.Goals as goal

pub returns : goal.returns
returns c = text_is_told
