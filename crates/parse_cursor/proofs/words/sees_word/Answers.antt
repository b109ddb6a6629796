use Rattle.parse_cursor.proofs.Names.{first_word}
use Rattle.parse_cursor.proofs.words.sees_word.Goals as goal

pub returns : goal.returns
returns c = rw first_word c.sees_any.ensures
