use Rattle.std.proofs.Common.{arith, rules}
use Rattle.std.proofs.lemmas.List.{take_rest}
use Rattle.eng_record.proofs.ShortNumbers.{short_varint_at}
use Rattle.eng_record.proofs.varint.varint_at.Goals as goal

pub returns-in-len1-up-clause-exact : goal.returns-in-len1-up-clause-exact
returns-in-len1-up-clause-exact c =
    short_varint_at c.from.result c.args.bytes.now _ (omega arith) (search rules) (take_rest c.args.bytes.now 1) (omega arith)
