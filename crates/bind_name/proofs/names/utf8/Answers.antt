use Rattle.std.proofs.Common.{◌≡◌, ◌∙◌, sym}
use Rattle.bind_name.proofs.Texts.{utf8_as_text}
use Rattle.bind_name.proofs.names.utf8.Goals as goal

pub returns-in-Ok : goal.returns-in-Ok
returns-in-Ok c = c.in-Ok.ensures.cases.0 ∙ sym (utf8_as_text _ c.in-Ok.ensures.cases.1)
