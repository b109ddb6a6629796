-- The texts that `{}` writes of values and causes.
use Rattle.std.specs.Prelude.{ℕ, List, [], codes}
use Rattle.eng_value.specs.CauseText.{text_of}
use Rattle.eng_value.specs.Functions.{quoted}
use Rattle.eng_value.specs.declared.cause.Cause.{Cause}
use Rattle.eng_value.specs.declared.cause.Cause.TheVariants.{SinkFault}
use Rattle.eng_value.specs.declared.value.Value.{Value}
use Rattle.eng_value.specs.declared.value.Value.TheVariants.{Null, Text}

-- nothing of NULL, a text as it is, and an integer and a blob as quote() writes them
abbrev pub shown : Value → List ℕ
shown Null = []
shown (Text text) = text
shown value = quoted value

-- the text of a cause; that the sink failed has one here alone
abbrev pub said : Cause → List ℕ
said SinkFault = codes "the sink of the rows failed"
said cause = text_of cause
