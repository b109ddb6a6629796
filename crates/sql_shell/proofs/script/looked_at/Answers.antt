use Rattle.std.proofs.Common.{ap, ◌∙◌, take}
use Rattle.std.proofs.lemmas.List.{take_min}
use Rattle.eng_value.specs.declared.limits.TheConstants.{MAX_SCRIPT_BYTES}
use Rattle.sql_shell.proofs.script.looked_at.Goals as goal

pub returns-in-TooLong : goal.returns-in-TooLong
returns-in-TooLong c =
    rw c.in-TooLong.is (ap (λ n. take n c.args.bytes.now) c.min.ensures ∙ take_min MAX_SCRIPT_BYTES c.args.bytes.now)
