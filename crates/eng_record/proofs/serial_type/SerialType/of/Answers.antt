use Rattle.std.proofs.Common.{ap, sym, ◌∙◌, arith}
use Rattle.std.specs.Prelude.{length}
use Rattle.std.proofs.lemmas.Str.{is_utf8-from_IsUtf8}
use Rattle.std.specs.Str.{is_utf8}
use Rattle.eng_record.proofs.serial_type.SerialType.of.Goals as goal

-- the text is UTF-8, as its string says
pub returns-in-Text-clause-spellable : goal.returns-in-Text-clause-spellable
returns-in-Text-clause-spellable c =
    λ lt. rw c.in-Text.is (sym (ap is_utf8 c.as_str.ensures) ∙ is_utf8-from_IsUtf8 c.as_str.result.now c.as_str.utf8, omega (arith, ap length c.as_str.ensures))
