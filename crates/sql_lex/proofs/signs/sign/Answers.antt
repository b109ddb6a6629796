use Rattle.sql_lex.proofs.Signing.{sign_double}
use Rattle.sql_lex.proofs.signs.sign.Goals as goal

pub returns-in-Some : goal.returns-in-Some
returns-in-Some c = sign_double c.args.first c.args.bytes.now c.double_kind.result c.in-Some.kind c.double_kind.ensures c.in-Some.is
