use Rattle.std.proofs.Common.{arith}
use Rattle.eng_record.proofs.Records.{is_found, gives_only}
use Rattle.eng_record.proofs.reading.decode.Goals as goal

pub returns-clause-found : goal.returns-clause-found
returns-clause-found c = is_found (λ row. row) c.whole_row.result c.args.bytes.now (λ i. omega (arith, c.type_inv.bytes i)) c.whole_row.ensures

pub returns-clause-only : goal.returns-clause-only
returns-clause-only c = λ row is same. gives_only (λ r. r) c.whole_row.result c.args.bytes.now row c.whole_row.ensures is same
