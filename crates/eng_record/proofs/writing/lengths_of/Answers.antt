use Rattle.std.proofs.Common.{ap, arith}
use Rattle.eng_record.specs.Spelling.{header_len}
use Rattle.eng_record.proofs.WritingLoops.{spelling_len}
use Rattle.eng_record.proofs.writing.lengths_of.Goals as goal

pub returns-clause-whole : goal.returns-clause-whole
returns-clause-whole c =
    let header = ap header_len c.in_ok-types_len.ensures.len in
    omega (arith, spelling_len c.args.row.now, header, c.in_ok-header.ensures.1, c.in_ok-bodies_len.ensures, c.in_ok-whole.ensures.1)
