use Rattle.std.proofs.Common.{◌++◌, codes, ap, sym, ◌∙◌, append_assoc}
use Rattle.std.proofs.Output.{has_written_of_eq}
use Rattle.std.specs.Fmt.{decimal}
use Rattle.eng_value.specs.Shown.{said}
use Rattle.eng_value.proofs.display.CauseDisplay.fmt.Goals as goal

pub returns-in-Locked-clause-writes : goal.returns-in-Locked-clause-writes
returns-in-Locked-clause-writes g c = λ plain ok.
    let front = codes "table " ++ c.in-Locked.table in
    let read = codes " is read by statement " in
    let number = decimal c.in-Locked.number in
    has_written_of_eq g.W.Write.write_str_gives c.args.f.now (front ++ (read ++ number)) (said c.args.self.now) c.write-in-Locked.new.self
    (sym (append_assoc front read number) ∙ ap said (sym c.in-Locked.is)) (c.write-in-Locked.ensures.writes plain ok)
