use Rattle.std.proofs.Common.{length}
use Rattle.sql_lex.specs.Cutting.{is_end}
use Rattle.sql_lex.proofs.FirstPlaces.{first_place_is}
use Rattle.sql_lex.proofs.laws.the_end_is_the_first.Goals as goal

pub returns : goal.returns
returns c = λ kinds. first_place_is (is_end kinds) (length kinds)
