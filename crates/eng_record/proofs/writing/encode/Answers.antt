use Rattle.std.proofs.Common.{◌≡◌, ap, ◌∙◌, arith}
use Rattle.std.proofs.lemmas.Grind.{common_steps}
use Rattle.eng_record.specs.Spelling.{spelling}
use Rattle.eng_record.specs.Reading.{reading}
use Rattle.eng_record.proofs.Records.{reading_spelled}
use Rattle.eng_record.proofs.writing.encode.Goals as goal

pub returns-clause-again : goal.returns-clause-again
returns-clause-again c =
    let spelled : c.new.result ≡ spelling c.args.row.now = grind (arith, common_steps) in
    ap reading spelled ∙ reading_spelled c.args.row.now (rw c.in_ok-lengths.ensures.ok_part at c.lengths_of.ensures.spellable)
